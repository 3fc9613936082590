-- The items of a row.
use Rattle.std.specs.Prelude.{ℕ, List, take}
use Rattle.row.specs.declared.Row.{Row}

abbrev pub items : {T : Type 0} {N : ℕ} → Row T N → List T
items r = take r.len r.cells
