-- Instances of a term, were each of its variable occurrences a variable of its own.
use Rattle.std.specs.Prelude.{◌≡◌, ℕ, List, [], ◌∷◌}
use Rattle.terms.specs.Term.{Term, Terms, var, app, nil, ◌▹◌, width, sub}
use Rattle.terms.specs.declared.pattern.Node.{Node}
use Rattle.terms.specs.declared.pattern.Node.TheVariants.{Var, App}
use Rattle.linear.specs.Apart.{apart}

abbrev mutual
  pub Loosely : Term → Term → Type 0
  Loosely (var x) t = Unit {0}
  Loosely (app f ps) (var y) = ⊥
  Loosely (app f ps) (app g ts) = (f ≡ g) × LooselyAll ps ts

  pub LooselyAll : Terms → Terms → Type 0
  LooselyAll nil nil = Unit {0}
  LooselyAll nil (t ▹ ts) = ⊥
  LooselyAll (p ▹ ps) nil = ⊥
  LooselyAll (p ▹ ps) (t ▹ ts) = Loosely p t × LooselyAll ps ts

-- t is an instance of p
abbrev pub InstanceOf : Term → Term → Type 0
InstanceOf p t = (σ : ℕ → Term) × (sub σ p ≡ t)

-- the relation is that of an instance of the term with its variables apart
abbrev pub Loosely_is_apart : Type 0
Loosely_is_apart = (p t : Term) → (Loosely p t → InstanceOf (apart p) t) × (InstanceOf (apart p) t → Loosely p t)

abbrev pub joined : Terms → Terms → Terms
joined nil us = us
joined (t ▹ ts) us = t ▹ joined ts us

-- the terms fit a row of nodes in preorder: a variable takes a whole term, whichever it is, and a symbol opens one
abbrev pub FitsRow : List Node → Terms → Type 0
FitsRow [] nil = Unit {0}
FitsRow [] (t ▹ ts) = ⊥
FitsRow (n ∷ ns) nil = ⊥
FitsRow (Var x ∷ ns) (t ▹ ts) = FitsRow ns ts
FitsRow (App f a ∷ ns) (var y ▹ ts) = ⊥
FitsRow (App f a ∷ ns) (app g us ▹ ts) = (f ≡ g) × (a ≡ width us) × FitsRow ns (joined us ts)
