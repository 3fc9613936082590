-- Those items of a list that a test keeps.
use Rattle.std.specs.Prelude.{◌≡◌, ℕ, ◌<◌, Bool, false, List, length, slice_index, slice_index_or}
use Rattle.lists.specs.Chosen.{chosen_of}

-- ys are the items of xs for which R gives true, in their order
pub record Retained (R : ℕ → Bool → Type 0) (xs ys : List ℕ) : Type 0 where
  pub choice : List Bool
  pub long : length choice ≡ length xs
  pub right : (k : ℕ) → k < length xs → R (slice_index xs k) (slice_index_or choice k false)
  pub is : ys ≡ chosen_of choice xs
