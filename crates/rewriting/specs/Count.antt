-- How often a variable occurs, and what a term weighs.
use Rattle.std.proofs.Math.Decide.{ℕ_discrete}
use Rattle.std.specs.Prelude.{ℕ, ◌+◌, ◌≤◌}
use Rattle.terms.specs.Term.{Term, Terms, var, app, nil, ◌▹◌}

abbrev mutual
  pub count : ℕ → Term → ℕ
  count x (var y) = elim (ℕ_discrete x y) [ yes e ↦ 1 | no n ↦ 0 ]
  count x (app f ts) = counts x ts

  pub counts : ℕ → Terms → ℕ
  counts x nil = 0
  counts x (t ▹ ts) = count x t + counts x ts

-- no variable occurs oftener in t than in s
abbrev pub Covers : Term → Term → Type 0
Covers s t = (x : ℕ) → count x t ≤ count x s

-- the sum of the symbols' weights w and of 1 for each variable
abbrev mutual
  pub weigh : (ℕ → ℕ) → Term → ℕ
  weigh w (var x) = 1
  weigh w (app f ts) = w f + weighs w ts

  pub weighs : (ℕ → ℕ) → Terms → ℕ
  weighs w nil = 0
  weighs w (t ▹ ts) = weigh w t + weighs w ts
