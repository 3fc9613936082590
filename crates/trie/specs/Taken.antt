-- Places of a pool: those of the tree, those taken besides, and those that were given back.
use Rattle.std.specs.Prelude.{◌≡◌, ℕ, ◌+◌, ◌<◌, ◌≤◌, cond, List, [], ◌∷◌, length, Some, None, Option, ◌==◌, nat_lt, slice_index_or}
use Rattle.std.specs.Option.{unwrap_or}
use Rattle.trie.specs.declared.branch.Label.{Label}
use Rattle.trie.specs.declared.branch.Branch.{Branch}
use Rattle.trie.specs.declared.trie.rooms.Marks.{Marks}
use Rattle.trie.specs.Trees.{Tree, nil, node, blank, places}
use Rattle.trie.specs.Pools.{Held, Chained, right_of, down_of, chain}

-- how often a number stands in a list
abbrev pub hit : ℕ → ℕ → ℕ
hit v w = cond (v == w) 1 0

abbrev pub count : ℕ → List ℕ → ℕ
count v [] = 0
count v (w ∷ ws) = hit v w + count v ws

-- one below the bound
abbrev pub cap : ℕ → ℕ → ℕ
cap used v = cond (nat_lt v used) 1 0

-- every place that was ever taken is in the tree t, or is one of `out`, or was given back, and is so once
pub record Kept (ns : List Branch) (m : Marks) (t : Tree) (out : List ℕ) : Type 0 where
  pub spare : List ℕ
  pub held : Held ns m.root t
  pub chained : Chained right_of ns m.free spare
  pub apart : (v : ℕ) → count v (places t) + (count v out + count v spare) ≤ cap m.used v
  pub full : length (places t) + (length out + length spare) ≡ m.used
  pub within : m.used ≤ length ns

-- nodes one below another that spell the labels
abbrev pub Lone : List Label → Tree → Type 0
Lone [] t = t ≡ nil
Lone (k ∷ u) nil = ⊥
Lone (k ∷ u) (node v l d r) = (l ≡ k) × (r ≡ nil) × Lone u d

-- new nodes, as yet outside the tree, spell the labels
pub record Spelt (ns : List Branch) (m : Marks) (t : Tree) (u : List Label) (o : Option ℕ) : Type 0 where
  pub stem : Tree
  pub kept : Kept ns m t (places stem)
  pub held : Held ns o stem
  pub lone : Lone u stem

abbrev pub Within : ℕ → Option ℕ → Type 0
Within n None = Unit {0}
Within n (Some v) = v < n

-- a place that was taken from those given back, or, where there is none, the next
abbrev pub Takes : List Branch → Marks → Marks → ℕ → Option ℕ → Type 0
Takes ns m m' v (Some w) = (v ≡ w) × (m' ≡ record { root = m.root; free = right_of (slice_index_or ns w blank); used = m.used })
Takes ns m m' v None = (v ≡ m.used) × (m' ≡ record { root = m.root; free = None; used = m.used + 1 })

-- the places below one
abbrev pub hanging : List Branch → Option ℕ → List ℕ
hanging ns o = unwrap_or (chain down_of (length ns) ns o) []
