-- Rows of labels as a tree.
use Rattle.std.specs.Prelude.{ℕ, Bool, true, false, not, ◌&&◌, List, [], ◌∷◌, ◌++◌, map, length, is_some, Some, None, Option, ◌==◌, nat_le}
use Rattle.terms.specs.Preorder.{decode, all_small}
use Rattle.terms.specs.declared.pattern.Node.{Node}
use Rattle.terms.specs.declared.pattern.Node.TheVariants.{Var, App}
use Rattle.trie.specs.declared.branch.Label.{Label}
use Rattle.trie.specs.declared.branch.Label.TheVariants.{Star, Symbol, Number}
use Rattle.trie.specs.declared.branch.Branch.{Branch}

-- nodes side by side, by the first of them: its place in the pool, its label, the nodes that may follow it, and those right of it
pub data Tree : Type 0 where
  nil : Tree
  node : (at : ℕ) (label : Label) (down right : Tree) → Tree

abbrev pub blank : Branch
blank = record { label = Star; down = None; right = None }

abbrev pub is_number : Label → Bool
is_number Star = false
is_number (Symbol f a) = false
is_number (Number n) = true

-- the rows below a node: a number ends its row
abbrev pub below : Label → List (List Label) → List (List Label)
below Star ss = map (λ s. Star ∷ s) ss
below (Symbol f a) ss = map (λ s. Symbol f a ∷ s) ss
below (Number n) ss = (Number n ∷ []) ∷ []

-- the rows that the tree spells
abbrev pub strings : Tree → List (List Label)
strings nil = []
strings (node v l d r) = below l (strings d) ++ strings r

abbrev pub places : Tree → List ℕ
places nil = []
places (node v l d r) = v ∷ (places d ++ places r)

-- the labels side by side
abbrev pub heads : Tree → List Label
heads nil = []
heads (node v l d r) = l ∷ heads r

abbrev pub same_label : Label → Label → Bool
same_label Star Star = true
same_label Star (Symbol g b) = false
same_label Star (Number m) = false
same_label (Symbol f a) Star = false
same_label (Symbol f a) (Symbol g b) = f == g && a == b
same_label (Symbol f a) (Number m) = false
same_label (Number n) Star = false
same_label (Number n) (Symbol g b) = false
same_label (Number n) (Number m) = n == m

abbrev pub none_same : Label → List Label → Bool
none_same l [] = true
none_same l (k ∷ ks) = not (same_label l k) && none_same l ks

abbrev pub is_nil : Tree → Bool
is_nil nil = true
is_nil (node v l d r) = false

-- a number has nothing below it, and any other label has something
abbrev pub ends_well : Label → Tree → Bool
ends_well Star d = not (is_nil d)
ends_well (Symbol f a) d = not (is_nil d)
ends_well (Number n) d = is_nil d

-- no two nodes side by side have one label, so that rows share what they begin with; no node is there for nothing
abbrev pub is_trim : Tree → Bool
is_trim nil = true
is_trim (node v l d r) = ends_well l d && (none_same l (heads r) && (is_trim d && is_trim r))

-- the nodes that a row stands for, its variables all alike
abbrev pub nodes_in : List Label → Option (List Node)
nodes_in [] = None
nodes_in (Star ∷ s) = elim (nodes_in s) [ None ↦ None | Some ns ↦ Some (Var 0 ∷ ns) ]
nodes_in (Symbol f a ∷ s) = elim (nodes_in s) [ None ↦ None | Some ns ↦ Some (App f a ∷ ns) ]
nodes_in (Number n ∷ []) = Some []
nodes_in (Number n ∷ (l ∷ s)) = None

abbrev pub fits_pattern : Option (List Node) → Bool
fits_pattern None = false
fits_pattern (Some ns) = nat_le (length ns) 32 && (is_some (decode ns) && all_small ns)

-- each row is that of a pattern, with a number at its end
abbrev pub are_patterns : List (List Label) → Bool
are_patterns [] = true
are_patterns (s ∷ ss) = fits_pattern (nodes_in s) && are_patterns ss
