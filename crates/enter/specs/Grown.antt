-- What entering a term does to a bank that keeps its rules.
use Rattle.std.specs.Prelude.{◌≡◌, ℕ, ◌<◌, ◌≤◌, ◌⊎◌, List, ◌++◌, length}
use Rattle.terms.specs.Term.{Term, Terms, var, app, nil, ◌▹◌}
use Rattle.terms.specs.Sig.{Sig}
use Rattle.bank.specs.declared.cell.Cell.{Cell}
use Rattle.bank.specs.Rules.{Rules}
use Rattle.bank.specs.Means.{Means}
pub use Rattle.bank.specs.Bindings.{Binds}

-- s is t or stands in it
abbrev mutual
  pub Part : Term → Term → Type 0
  Part s (var x) = s ≡ var x
  Part s (app f ts) = (s ≡ app f ts) ⊎ Parts s ts

  pub Parts : Term → Terms → Type 0
  Parts s nil = ⊥
  Parts s (t ▹ ts) = Part s t ⊎ Parts s ts

-- the bank b has grown to b', in which cell i stands for t: the old cells stay, and each new one stands for a part of t
pub record Grown (S : Sig) (b : List Cell) (t : Term) (b' : List Cell) (i : ℕ) : Type 0 where
  pub more : List Cell
  pub grows : b' ≡ b ++ more
  pub rules : Rules S b'
  pub means : Means b' i t
  pub new : (j : ℕ) → length b ≤ j → j < length b' → (s : Term) × Means b' j s × Part s t
