use Rattle.std.proofs.Common.{◌≡◌, ◌+◌, ◌*◌}
use Rattle.lpo.specs.Seen.{Seen}
use Rattle.lpo.proofs.sides.Sides.fill_row.Given as goal

abbrev pub invariant-loop-q : goal.invariant-loop-q
invariant-loop-q l = (l.self.upper ≡ l.fn.self.upper) × (l.self.lower ≡ l.fn.self.lower) × Seen l.self (32 * l.p + l.q)
