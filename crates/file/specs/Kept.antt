-- The equations of a file: their higher sides are in its index, their lower sides beside it.
use Rattle.std.specs.Prelude.{◌≡◌, ℕ, ◌<◌, is_some, Some, None, Ok, Err, Option, Result}
use Rattle.refusal.specs.declared.Refusal.{Refusal}
use Rattle.terms.specs.declared.pattern.Pattern.{Pattern}
use Rattle.index.specs.Maps.{Map, NotFree}
use Rattle.entries.specs.Stored.{map_of}
use Rattle.reduction.specs.declared.oriented.Oriented.{Oriented}
use Rattle.reduction.specs.Redexes.{Equations}
use Rattle.file.specs.declared.File.{File}

-- the index and the lower sides have the same numbers
abbrev pub Paired : Map → Map → Type 0
Paired m low = (n : ℕ) → is_some (m n) ≡ is_some (low n)

abbrev pub joined : Option Pattern → Option Pattern → Option Oriented
joined None l = None
joined (Some h) None = None
joined (Some h) (Some l) = Some (record { higher = h; lower = l })

abbrev pub equations_of : Map → Map → Equations
equations_of m low n = joined (m n) (low n)

-- `stored` is the index's ghost member
abbrev pub Kept : {I : Type 0} → (I → Map) → File I → Type 0
Kept stored f = Paired (stored f.index) (map_of f.lowers)

abbrev pub equations : {I : Type 0} → (I → Map) → File I → Equations
equations stored f = equations_of (stored f.index) (map_of f.lowers)

-- whether one more equation may come under the number
abbrev pub Free : Equations → (size capacity n : ℕ) → Result (Unit {0}) Refusal → Type 0
Free E size capacity n (Ok _) = (E n ≡ None) × (size < capacity)
Free E size capacity n (Err e) = NotFree E size capacity n e
