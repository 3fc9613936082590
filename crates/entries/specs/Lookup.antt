-- Lists of numbers with their patterns.
use Rattle.std.specs.Prelude.{◌≡◌, ℕ, ◌<◌, Bool, true, false, cond, not, ◌&&◌, ◌||◌, List, [], ◌∷◌, map, length, Some, None, Option, ◌==◌, slice_index_or}
use Rattle.terms.specs.declared.pattern.Pattern.{Pattern}
use Rattle.entries.specs.declared.Entry.{Entry}

abbrev pub numbers : List Entry → List ℕ
numbers es = map (λ e. e.number) es

-- the pattern beside the number
abbrev pub lookup : List Entry → ℕ → Option Pattern
lookup [] n = None
lookup (e ∷ es) n = cond (n == e.number) (Some e.pattern) (lookup es n)

abbrev pub has : ℕ → List ℕ → Bool
has n [] = false
has n (m ∷ ms) = n == m || has n ms

-- no number stands twice
abbrev pub distinct : List ℕ → Bool
distinct [] = true
distinct (n ∷ ns) = not (has n ns) && distinct ns

-- where the number stands first
abbrev pub Placed : List Entry → ℕ → Option ℕ → Type 0
Placed es n None = lookup es n ≡ None
Placed es n (Some i) = (i < length es) × ((d : Entry) → ((slice_index_or es i d).number ≡ n) × (lookup es n ≡ Some (slice_index_or es i d).pattern))
