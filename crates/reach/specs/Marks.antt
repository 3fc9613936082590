-- Marks for the cells of a term's subterms.
use Rattle.std.specs.Prelude.{◌≡◌, ℕ, ◌<◌, ◌≤◌, Bool, true, false, ◌⊎◌, List, [], length, take, Decides, slice_index_or}
use Rattle.lists.specs.Members.{In}
use Rattle.terms.specs.Term.{Term}
use Rattle.terms.specs.Sig.{Sig}
use Rattle.bank.specs.declared.cell.Cell.{Cell}
use Rattle.bank.specs.declared.cell.Cell.TheVariants.{Var, App}
use Rattle.bank.specs.Rules.{Rules}
use Rattle.bank.specs.Means.{Means}
use Rattle.enter.specs.Grown.{Part}
use Rattle.reduction.specs.Reaches.{Reaches}

abbrev pub arguments : Cell → List ℕ
arguments (Var x) = []
arguments (App f a args) = take a args

-- the marks of these cells are added
pub record Joined (xs : List Bool) (js : List ℕ) (ys : List Bool) : Type 0 where
  pub stay : (j : ℕ) → slice_index_or xs j false ≡ true → slice_index_or ys j false ≡ true
  pub new : (j : ℕ) → In j js → j < length xs → slice_index_or ys j false ≡ true
  pub only : (j : ℕ) → slice_index_or ys j false ≡ true → (slice_index_or xs j false ≡ true) ⊎ In j js

-- the marks of a cell's arguments are added
abbrev pub Added : List Bool → Cell → List Bool → Type 0
Added xs c ys = Joined xs (arguments c) ys

-- in a bank that keeps its rules, where there are marks for all cells, a cell is marked exactly if it can be reached from the root, which is: if its term is a subterm of the root's
pub record Marked (b : List Cell) (r : ℕ) (marks : List Bool) : Type 0 where
  pub reaches : (S : Sig) → Rules S b → length b ≤ length marks → r < length b → (j : ℕ) → Decides (slice_index_or marks j false) (Reaches b r j)
  pub subterms : (S : Sig) → Rules S b → length b ≤ length marks → (j : ℕ) (s t : Term) → Means b r t → Means b j s → Decides (slice_index_or marks j false) (Part s t)
