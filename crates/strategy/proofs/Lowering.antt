-- The lowest of some numbers, as the library finds it.
use Rattle.std.proofs.Common.{◌≡◌, ℕ, ◌≤◌, List, [], ◌∷◌, length, Some, None, Option, MatchOption, refl, subst, arith}
use Rattle.std.specs.List.{All, Contains}
use Rattle.lists.specs.Members.{In}
use Rattle.lists.proofs.Members.{in_at, place}
use Rattle.strategy.specs.Searches.{Lowest}

none : (xs : List ℕ) → length xs ≡ 0 → xs ≡ []
none [] e = refl
none (x ∷ xs) e = absurd (let z : ⊥ = omega arith in z)

pub lowest : (xs : List ℕ) (o : Option ℕ) → MatchOption o (length xs ≡ 0) (λ m. Contains xs m × All (λ k. m ≤ k) xs) → Lowest xs o
lowest xs None h = none xs h
lowest xs (Some m) (in_xs, least) = (
  subst (λ n. In n xs) in_xs.2 (in_at xs in_xs.0 m in_xs.1),
  λ k i. let p = place k 0 xs i in subst (λ n. m ≤ n) p.reads (least p.at 0 p.below),
)
