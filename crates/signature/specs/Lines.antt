-- What a symbol's line says.
use Rattle.std.specs.Prelude.{ℕ, ◌<◌, List, [], map, length, ◌≢◌, slice_index_or}
use Rattle.std.specs.List.{AllPairs}
use Rattle.row.specs.Items.{items}
use Rattle.signature.specs.declared.name.Name.{Name}
use Rattle.signature.specs.declared.symbol.Symbol.{Symbol}

-- the bytes of a name
abbrev pub spelled : Name → List ℕ
spelled n = items n.bytes

abbrev pub names : List Symbol → List (List ℕ)
names ss = map (λ (s : Symbol). spelled s.name) ss

-- no two of the names are equal
abbrev pub Apart : List (List ℕ) → Type 0
Apart ns = AllPairs (λ m n. m ≢ n) ns

-- the name is none of these
abbrev pub Absent : List ℕ → List (List ℕ) → Type 0
Absent n ns = (k : ℕ) → k < length ns → slice_index_or ns k [] ≢ n
