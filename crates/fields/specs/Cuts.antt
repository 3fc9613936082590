-- A text cut at a byte.
use Rattle.std.specs.Prelude.{◌≡◌, ℕ, List, ◌∷◌, ◌++◌, ◌≢◌}
use Rattle.std.specs.List.{AllByRecursion}

-- the byte c is not in the text
abbrev pub Without : ℕ → List ℕ → Type 0
Without c bs = AllByRecursion (λ b. b ≢ c) bs

-- the text up to the first c, and after it
pub record Cut (c : ℕ) (text field after : List ℕ) : Type 0 where
  pub whole : text ≡ field ++ (c ∷ after)
  pub first : Without c field
