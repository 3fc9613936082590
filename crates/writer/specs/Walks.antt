-- What is still to be written of the frames of a walk; b are the bank's cells, ns the symbols' names.
use Rattle.std.specs.Prelude.{◌≡◌, ℕ, zero, suc, ◌+◌, ◌<◌, ◌≤◌, List, [], ◌∷◌, ◌++◌, reverse, length, take, drop, Some, None, Option, slice_index_or}
use Rattle.terms.specs.Term.{Term, Terms}
use Rattle.signature.specs.Written.{written, written_args, written_more}
use Rattle.bank.specs.declared.cell.Cell.{Cell}
use Rattle.bank.specs.declared.cell.Cell.TheVariants.{Var, App}
use Rattle.bank.specs.Means.{Means, MeansAll}
use Rattle.row.specs.Items.{items}
use Rattle.row.specs.declared.Row.{Row}
use Rattle.writer.specs.declared.walk.Frame.{Frame}
use Rattle.writer.specs.declared.walk.Frame.TheVariants.{Whole, Rest}

-- the arguments that follow k written ones
abbrev pub onward : List (List ℕ) → ℕ → Terms → List ℕ
onward ns zero ts = written_args ns ts
onward ns (suc k) ts = written_more ns ts

-- the cell c, of which the symbol and `done` arguments are written
pub record Begun (ns : List (List ℕ)) (b : List Cell) (c done : ℕ) (text : List ℕ) : Type 0 where
  pub symbol : ℕ
  pub arity : ℕ
  pub args : List ℕ
  pub stands : slice_index_or b c (Var 0) ≡ App symbol arity args
  pub some : 0 < arity
  pub most : done ≤ arity
  pub terms : Terms
  pub means : MeansAll b (drop done (take arity args)) terms
  pub is : text ≡ onward ns done terms

abbrev pub cell_of : Frame → ℕ
cell_of (Whole c) = c
cell_of (Rest c k) = c

-- what is still to be written of a frame
abbrev pub Pending : List (List ℕ) → List Cell → Frame → List ℕ → Type 0
Pending ns b (Whole c) text = (t : Term) × Means b c t × (text ≡ written ns t)
Pending ns b (Rest c k) text = Begun ns b c k text

-- the last frame's text comes first; cells fall towards it, which bounds the row
pub record Stacked (ns : List (List ℕ)) (b : List Cell) (f : Frame) (below : ℕ) (Under : List ℕ → Type 0) (text : List ℕ) : Type 0 where
  pub front : List ℕ
  pub rest : List ℕ
  pub pending : Pending ns b f front
  pub falls : cell_of f + below < length b
  pub under : Under rest
  pub is : text ≡ front ++ rest

abbrev pub Left : List (List ℕ) → List Cell → List Frame → List ℕ → Type 0
Left ns b [] text = text ≡ []
Left ns b (f ∷ fs) text = Stacked ns b f (length fs) (Left ns b fs) text

-- the frames, the last one first
abbrev pub frames : Row Frame 2048 → List Frame
frames r = reverse (items r)

-- a turn that writes a piece of the text, and leaves the rest
pub record Wrote (ns : List (List ℕ)) (b : List Cell) (fs : List Frame) (piece text : List ℕ) : Type 0 where
  pub rest : List ℕ
  pub left : Left ns b fs rest
  pub is : text ≡ piece ++ rest
  pub some : 0 < length piece

-- a turn writes a piece, or all is written
abbrev pub Turned : List (List ℕ) → List Cell → List Frame → Option (Row ℕ 16) → List ℕ → Type 0
Turned ns b fs None text = text ≡ []
Turned ns b fs (Some p) text = Wrote ns b fs (items p) text
