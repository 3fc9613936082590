use Rattle.offers.proofs.Gathering.{added, passed}
use Rattle.offers.proofs.gather.add_higher.Goals as goal

pub returns-in-Some : goal.returns-in-Some
returns-in-Some c = added c.args.signature.now c.args.formula.now c.in-Some.pattern c.args.patterns.now c.add.new.self c.add.result c.in-Some.ensures c.add.ensures

pub returns-in-None : goal.returns-in-None
returns-in-None c = passed c.args.signature.now c.args.formula.now c.args.patterns.now c.in-None.ensures
