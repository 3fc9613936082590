use Rattle.std.proofs.Common.{refl, arith, rules}
use Rattle.std.proofs.lemmas.Slice.{overwrites}
use Rattle.writer.proofs.put.Goals as goal

pub returns-clause-does : goal.returns-clause-does
returns-clause-does c = (refl, omega arith, search (rules, overwrites), search (rules, overwrites))
