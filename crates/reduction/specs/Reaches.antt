-- The cells of a term's subterms, the term's own among them.
use Rattle.std.specs.Prelude.{◌≡◌, ℕ, List, take, slice_index_or}
use Rattle.lists.specs.Members.{In}
use Rattle.bank.specs.declared.cell.Cell.{Cell}
use Rattle.bank.specs.declared.cell.Cell.TheVariants.{Var, App}

pub data Reaches (b : List Cell) (r : ℕ) : ℕ → Type 0 where
  root : Reaches b r r
  argument : {i j f a : ℕ} {args : List ℕ} → Reaches b r i → slice_index_or b i (Var 0) ≡ App f a args → In j (take a args) → Reaches b r j
