-- A signature as mathematics has it, and the terms over it.
use Rattle.std.specs.Prelude.{◌≡◌, ℕ, ◌<◌}
use Rattle.terms.specs.Term.{Term, Terms, var, app, nil, ◌▹◌, width}

-- symbols are numbered from 0; a higher number is higher in precedence
pub record Sig : Type 0 where
  pub symbols : ℕ
  pub arity : ℕ → ℕ
  pub weight : ℕ → ℕ

-- every symbol of the term is one of the signature's, with as many arguments as its arity
abbrev mutual
  pub Over : Sig → Term → Type 0
  Over S (var x) = Unit {0}
  Over S (app f ts) = (f < S.symbols) × (width ts ≡ S.arity f) × AllOver S ts

  pub AllOver : Sig → Terms → Type 0
  AllOver S nil = Unit {0}
  AllOver S (t ▹ ts) = Over S t × AllOver S ts
