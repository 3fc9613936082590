use Rattle.std.proofs.Common.{◌≡◌, ◌*◌}
use Rattle.subterms.specs.Rows.{row_of}
use Rattle.lpo.specs.Seen.{Seen, up, low}
use Rattle.lpo.proofs.sides.Sides.new.Given as goal

abbrev pub invariant-loop-p : goal.invariant-loop-p
invariant-loop-p l = (up l.sides ≡ row_of l.upper) × (low l.sides ≡ row_of l.lower) × Seen l.sides (32 * l.p)
