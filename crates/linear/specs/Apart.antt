-- A term whose variable occurrences are made different variables.
use Rattle.std.specs.Prelude.{ℕ, ◌+◌}
use Rattle.terms.specs.Term.{Term, Terms, var, app, nil, ◌▹◌}

-- how many variable occurrences
abbrev mutual
  pub stars : Term → ℕ
  stars (var x) = 1
  stars (app f ts) = starss ts

  pub starss : Terms → ℕ
  starss nil = 0
  starss (t ▹ ts) = stars t + starss ts

-- each variable occurrence becomes a variable of its own, numbered from n on from left to right
abbrev mutual
  pub apart_from : ℕ → Term → Term
  apart_from n (var x) = var n
  apart_from n (app f ts) = app f (aparts_from n ts)

  pub aparts_from : ℕ → Terms → Terms
  aparts_from n nil = nil
  aparts_from n (t ▹ ts) = apart_from n t ▹ aparts_from (n + stars t) ts

abbrev pub apart : Term → Term
apart t = apart_from 0 t
