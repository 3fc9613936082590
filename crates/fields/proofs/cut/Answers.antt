use Rattle.std.proofs.Common.{rules}
use Rattle.fields.proofs.Cutting.{cut_at}
use Rattle.fields.proofs.cut.Goals as goal

pub returns : goal.returns
returns c = cut_at c.args.end c.in_ok-at.at c.args.text.now (search rules) (search rules) (search rules)
