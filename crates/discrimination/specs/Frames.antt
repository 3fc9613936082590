-- The agenda of a walk: branches with the cells that wait for them, the top first.
use Rattle.std.specs.Prelude.{◌≡◌, ℕ, suc, ◌+◌, ◌<◌, ◌≤◌, true, List, [], ◌∷◌, ◌++◌, reverse, length, take, Some, None, Option}
use Rattle.lists.specs.Members.{In}
use Rattle.terms.specs.Preorder.{row, Reads, all_small}
use Rattle.terms.specs.declared.pattern.Node.{Node}
use Rattle.bank.specs.declared.cell.Cell.{Cell}
use Rattle.trie.specs.declared.branch.Label.{Label}
use Rattle.trie.specs.declared.branch.Branch.{Branch}
use Rattle.trie.specs.Trees.{Tree, strings, places, is_trim, nodes_in}
use Rattle.trie.specs.Pools.{Held, spelled}
use Rattle.row.specs.Items.{items}
use Rattle.row.specs.declared.Row.{Row}
use Rattle.discrimination.specs.declared.agenda.Frame.{Frame}
use Rattle.discrimination.specs.Cells.{Pending, cells_of, ended_cells, scanned}

abbrev pub frames : Row Frame 33 → List Frame
frames agenda = reverse (items agenda)

abbrev pub laid : Option ℕ → Pending → List Frame
laid None p = []
laid (Some v) p = record { place = v; pending = p } ∷ []

abbrev pub tree_at : List Branch → Frame → Tree
tree_at ns f = spelled ns (Some f.place)

-- the row has at most m nodes, which are the preorder of d terms
pub record Spells (m d : ℕ) (s : List Label) : Type 0 where
  pub nodes : List Node
  pub is : nodes_in s ≡ Some nodes
  pub short : length nodes ≤ m
  pub small : all_small nodes ≡ true
  pub reads : Reads (row nodes) d

-- the pool holds a part of a sound tree, whose rows go on with at most m nodes for d terms
pub record Part (ns : List Branch) (o : Option ℕ) (T : Tree) (m d : ℕ) : Type 0 where
  pub held : Held ns o T
  pub within : length (places T) ≤ length ns
  pub trim : is_trim T ≡ true
  pub rows : (s : List Label) → In s (strings T) → Spells m d s

-- each frame is deeper in the tree than those below it, so that there are at most 33
abbrev pub Ready : List Branch → ℕ → List Frame → Type 0
Ready ns k [] = k ≤ 33
Ready ns k (f ∷ fs) = (m : ℕ) × (k ≤ m) × Part ns (Some f.place) (tree_at ns f) m (length (cells_of f.pending)) × Ready ns (suc m) fs

-- what the frames will find
abbrev pub todo : List Cell → List Branch → List Frame → List ℕ
todo b ns [] = []
todo b ns (f ∷ fs) = scanned b (tree_at ns f) (cells_of f.pending) ++ todo b ns fs

-- how many nodes are left to walk
abbrev pub weight : List Branch → List Frame → ℕ
weight ns [] = 0
weight ns (f ∷ fs) = length (places (tree_at ns f)) + weight ns fs

-- what was found and will be, as far as there is room
abbrev pub total : List Cell → List Branch → List Frame → List ℕ → ℕ → List ℕ
total b ns fs ys n = take (length ys) (take n ys ++ todo b ns fs)

pub record Turned (b : List Cell) (ns : List Branch) (fs : List Frame) (ys : List ℕ) (n : ℕ) (gs : List Frame) (zs : List ℕ) (m : ℕ) : Type 0 where
  pub ready : Ready ns 0 gs
  pub falls : weight ns gs < weight ns fs
  pub same : total b ns gs zs m ≡ total b ns fs ys n
  pub counted : m ≤ length zs

abbrev pub Noted : Label → List ℕ → List ℕ → ℕ → List ℕ → ℕ → Type 0
Noted l is ys n zs m = (take m zs ≡ take (length ys) (take n ys ++ ended_cells l is)) × (m ≤ length zs)
