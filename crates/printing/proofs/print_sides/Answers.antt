use Rattle.std.proofs.Common.{rules, refl, inr}
use Rattle.printing.proofs.print_sides.Goals as goal

pub returns : goal.returns
returns c = inr (c.in-Some.sides, search rules, refl)
