-- Every occurrence of a term replaced.
use Rattle.terms.specs.Term.{Term, Terms, var, app, nil, ◌▹◌, Term_discrete}
use Rattle.enter.specs.Grown.{Parts}

-- t with s' for each occurrence of s
abbrev mutual
  pub replace : (s s' t : Term) → Term
  replace s s' (var x) = elim (Term_discrete (var x) s) [ yes e ↦ s' | no n ↦ var x ]
  replace s s' (app f ts) = elim (Term_discrete (app f ts) s) [ yes e ↦ s' | no n ↦ app f (replaces s s' ts) ]

  pub replaces : (s s' : Term) (ts : Terms) → Terms
  replaces s s' nil = nil
  replaces s s' (t ▹ ts) = replace s s' t ▹ replaces s s' ts

-- s stands in t, and is not t
abbrev pub Inside : Term → Term → Type 0
Inside s (var x) = ⊥
Inside s (app f ts) = Parts s ts
