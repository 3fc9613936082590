-- The variables of a term, each once, in the order of their first occurrence.
use Rattle.std.specs.Prelude.{ℕ, ◌+◌, ◌<◌, cond, List, [], ◌∷◌, ◌++◌, length, ◌==◌, nat_lt}
use Rattle.terms.specs.Term.{Term, Terms, var, app, nil, ◌▹◌}

-- the place of x among some numbers, or how many there are
abbrev pub at : ℕ → List ℕ → ℕ
at x [] = 0
at x (k ∷ ks) = cond (k == x) 0 (1 + at x ks)

abbrev pub with_variable : List ℕ → ℕ → List ℕ
with_variable ks x = cond (nat_lt (at x ks) (length ks)) ks (ks ++ x ∷ [])

abbrev mutual
  pub met : Term → List ℕ → List ℕ
  met (var x) ks = with_variable ks x
  met (app f ts) ks = mets ts ks

  pub mets : Terms → List ℕ → List ℕ
  mets nil ks = ks
  mets (t ▹ ts) ks = mets ts (met t ks)

-- every variable is below a bank's limit
abbrev mutual
  pub Low : Term → Type 0
  Low (var x) = x < 32
  Low (app f ts) = Lows ts

  pub Lows : Terms → Type 0
  Lows nil = Unit {0}
  Lows (t ▹ ts) = Low t × Lows ts
