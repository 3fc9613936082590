-- What the calls of a list do: xs are the lent cells, n is the lent count, and the items are the first n cells.
use Rattle.std.specs.Prelude.{◌≡◌, ℕ, ◌+◌, ◌<◌, ◌≤◌, Bool, true, false, length, Some, None, Option, ◌≢◌, slice_index_or, slice_set}
use mathlib.Core.List as lists

-- an append takes the cells xs and the count n to ys and m; it cannot if no cell is free
abbrev pub Appended : {T : Type 0} → lists.List T → ℕ → lists.List T → ℕ → T → Bool → Type 0
Appended xs n ys m x true = (n < length xs) × (ys ≡ slice_set xs n x) × (m ≡ n + 1)
Appended xs n ys m x false = (length xs ≤ n) × (ys ≡ xs) × (m ≡ n)

-- the first of the n items that equals x; a count beyond the cells counts no more than the cells
abbrev pub First : {T : Type 0} → lists.List T → ℕ → T → Option ℕ → Type 0
First xs n x (Some i) = (i < n) × (i < length xs) × (slice_index_or xs i x ≡ x) × ((k : ℕ) (d : _) → k < i → slice_index_or xs k d ≢ x)
First xs n x None = (k : ℕ) (d : _) → k < n → k < length xs → slice_index_or xs k d ≢ x
