use Rattle.std.proofs.Common.{rules}
use Rattle.strategy.proofs.Lowering.{lowest}
use Rattle.strategy.proofs.lowest.Goals as goal

pub returns : goal.returns
returns c = lowest c.args.numbers.now _ (search rules)
