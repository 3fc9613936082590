-- Both sides of a formula in a bank.
use Rattle.std.specs.Prelude.{ℕ, List}
use Rattle.terms.specs.Sig.{Sig}
use Rattle.terms.specs.Patterns.{term_of}
use Rattle.formula.specs.declared.equation.Equation.{Equation}
use Rattle.bank.specs.declared.cell.Cell.{Cell}
use Rattle.enter.specs.Grown.{Grown}

-- the bank grew by the left side, and then by the right
pub record Both (S : Sig) (e : Equation) (before after : List Cell) : Type 0 where
  pub between : List Cell
  pub left_at : ℕ
  pub right_at : ℕ
  pub left : Grown S before (term_of e.left) between left_at
  pub right : Grown S between (term_of e.right) after right_at
