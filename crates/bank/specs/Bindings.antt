-- Variables bound to cells of a bank.
use Rattle.std.specs.Prelude.{◌≡◌, ℕ, List, Some, None, Option, slice_index_or}
use Rattle.terms.specs.Term.{Term, var, sub}
use Rattle.bank.specs.declared.cell.Cell.{Cell}
use Rattle.bank.specs.Means.{Means}

-- the bindings stand for the substitution σ
pub record Binds (b : List Cell) (bindings : List (Option ℕ)) (σ : ℕ → Term) : Type 0 where
  pub cell : (x i : ℕ) → slice_index_or bindings x None ≡ Some i → Means b i (σ x)
  pub free : (x : ℕ) → slice_index_or bindings x None ≡ None → σ x ≡ var x

-- the cell i stands for an instance of the term p
pub record Instance (b : List Cell) (p : Term) (i : ℕ) : Type 0 where
  pub inst : ℕ → Term
  pub means : Means b i (sub inst p)
