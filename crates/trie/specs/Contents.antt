-- What a tree in its pool holds.
use Rattle.std.specs.Prelude.{◌≡◌, ℕ, suc, ◌<◌, ◌≤◌, Bool, true, false, ◌⊎◌, List, [], ◌∷◌, ◌++◌, map, length, ◌≢◌}
use Rattle.lists.specs.Members.{In}
use Rattle.terms.specs.Patterns.{nodes_of}
use Rattle.terms.specs.declared.pattern.Node.{Node}
use Rattle.terms.specs.declared.pattern.Node.TheVariants.{Var, App}
use Rattle.terms.specs.declared.pattern.Pattern.{Pattern}
use Rattle.trie.specs.declared.branch.Label.{Label}
use Rattle.trie.specs.declared.branch.Label.TheVariants.{Star, Symbol, Number}
use Rattle.trie.specs.declared.trie.Trie.{Trie}
use Rattle.trie.specs.Trees.{Tree, strings}
use Rattle.trie.specs.Pools.{spelled}

abbrev pub tree_of : Trie → Tree
tree_of t = spelled t.nodes t.marks.root

abbrev pub strings_of : Trie → List (List Label)
strings_of t = strings (tree_of t)

-- a star for each variable
abbrev pub label_of : Node → Label
label_of (Var x) = Star
label_of (App f a) = Symbol f a

abbrev pub labels : List Node → ℕ → List Label
labels ns n = map label_of ns ++ (Number n ∷ [])

abbrev pub string_of : Pattern → ℕ → List Label
string_of p n = labels (nodes_of p) n

-- the row is added to the rows xs, unless it is there or 64 are
abbrev pub Inserted : List (List Label) → List Label → List (List Label) → Bool → Type 0
Inserted xs s ys true = (In s xs → ⊥) × (length xs < 64) × (length ys ≡ suc (length xs))
    × ((u : List Label) → (In u ys → (u ≡ s) ⊎ In u xs) × ((u ≡ s) ⊎ In u xs → In u ys))
Inserted xs s ys false = (In s xs ⊎ (64 ≤ length xs)) × (ys ≡ xs)

-- the row is taken out, if it is there
abbrev pub Removed : List (List Label) → List Label → List (List Label) → Bool → Type 0
Removed xs s ys true = In s xs × (length xs ≡ suc (length ys))
    × ((u : List Label) → (In u ys → In u xs × (u ≢ s)) × (In u xs → (u ≢ s) → In u ys))
Removed xs s ys false = (In s xs → ⊥) × (ys ≡ xs)
