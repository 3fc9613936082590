-- The walk over the cells of a bank in place of their terms.
use Rattle.std.specs.Prelude.{◌≡◌, ℕ, ◌+◌, ◌-◌, ◌≤◌, cond, ◌&&◌, List, [], ◌∷◌, ◌++◌, reverse, length, take, Some, None, Option, ◌==◌, slice_index_or}
use Rattle.bank.specs.declared.cell.Cell.{Cell}
use Rattle.bank.specs.declared.cell.Cell.TheVariants.{Var, App}
use Rattle.trie.specs.declared.branch.Label.{Label}
use Rattle.trie.specs.declared.branch.Label.TheVariants.{Star, Symbol, Number}
use Rattle.trie.specs.Trees.{Tree, nil, node}
use Rattle.row.specs.Items.{items}
use Rattle.row.specs.declared.Row.{Row}

-- the arguments of a cell that has the symbol f with a arguments
abbrev pub args_of : Cell → ℕ → ℕ → Option (List ℕ)
args_of (Var x) f a = None
args_of (App g m args) f a = cond (f == g && a == m) (Some (take m args)) None

abbrev pub opening : Option (List ℕ) → List ℕ → Option (List ℕ)
opening None is = None
opening (Some js) is = Some (js ++ is)

-- the cells that are left after a label
abbrev pub after_cells : List Cell → Label → List ℕ → Option (List ℕ)
after_cells b (Number n) is = None
after_cells b Star [] = None
after_cells b Star (i ∷ is) = Some is
after_cells b (Symbol f a) [] = None
after_cells b (Symbol f a) (i ∷ is) = opening (args_of (slice_index_or b i (Var 0)) f a) is

abbrev pub ended_cells : Label → List ℕ → List ℕ
ended_cells Star is = []
ended_cells (Symbol f a) is = []
ended_cells (Number n) [] = n ∷ []
ended_cells (Number n) (i ∷ is) = []

abbrev pub scanned : List Cell → Tree → List ℕ → List ℕ
scanned b nil is = []
scanned b (node v l d r) is = (ended_cells l is ++ elim (after_cells b l is) [ None ↦ [] | Some js ↦ scanned b d js ]) ++ scanned b r is

abbrev pub Pending : Type 0
Pending = Row ℕ 32

-- the cells that are pending, the next one first
abbrev pub cells_of : Pending → List ℕ
cells_of p = reverse (items p)

-- how many cells are left after a label that they fit
abbrev pub wants : Label → ℕ → ℕ
wants Star k = k - 1
wants (Symbol f a) k = k - 1 + a
wants (Number n) k = 0

-- there is room for the arguments
abbrev pub Room : Label → ℕ → Type 0
Room Star k = Unit {0}
Room (Symbol f a) k = (a ≤ 4) × (k - 1 + a ≤ 32)
Room (Number n) k = Unit {0}

abbrev pub Rest : List Cell → Label → Pending → Option Pending → Type 0
Rest b l p None = after_cells b l (cells_of p) ≡ None
Rest b l p (Some q) = (after_cells b l (cells_of p) ≡ Some (cells_of q)) × (length (cells_of q) ≡ wants l (length (cells_of p)))
