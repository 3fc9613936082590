-- How long a row is.
use Rattle.std.proofs.Common.{◌≡◌, ℕ, ◌≤◌, length, arith}
use Rattle.std.proofs.lemmas.List.{length-take-le}
use Rattle.row.specs.Items.{items}
use Rattle.row.specs.declared.Row.{Row}

pub size : {T : Type 0} {N : ℕ} (r : Row T N) → length (items r) ≡ r.len
size r = length-take-le r.len r.cells (omega (arith, r.room, r.within))

pub within : {T : Type 0} {N : ℕ} (r : Row T N) → length (items r) ≤ N
within r = omega (arith, size r, r.within)
