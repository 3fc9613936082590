-- A place in a tree, with what stands around it.
use Rattle.std.specs.Prelude.{◌≡◌, ℕ, ◌<◌, ◌≤◌, true, false, List, [], ◌∷◌, length, drop, Some, None, Ok, Err, Option, Result, slice_index_or, slice_set}
use Rattle.terms.specs.declared.pattern.Node.{Node}
use Rattle.trie.specs.declared.branch.Label.{Label}
use Rattle.trie.specs.declared.branch.Label.TheVariants.{Number}
use Rattle.trie.specs.declared.branch.Branch.{Branch}
use Rattle.trie.specs.declared.trie.links.Link.{Link}
use Rattle.trie.specs.declared.trie.links.Link.TheVariants.{Root, Down, Right}
use Rattle.trie.specs.declared.trie.rooms.Marks.{Marks}
use Rattle.trie.specs.declared.trie.seek.Gap.{Gap}
use Rattle.trie.specs.Trees.{Tree, nil, node, blank, places, heads, same_label, none_same, is_number, is_trim}
use Rattle.trie.specs.Pools.{Held}
use Rattle.trie.specs.Contents.{labels}

-- the node around the place, with what else it leads to, then what is around that node
pub data Way : Type 0 where
  here : Way
  down : (at : ℕ) (label : Label) (right : Tree) (up : Way) → Way
  right : (at : ℕ) (label : Label) (down : Tree) (up : Way) → Way

-- the tree with t at the place
abbrev pub plug : Way → Tree → Tree
plug here t = t
plug (down v l r w) t = plug w (node v l t r)
plug (right v l d w) t = plug w (node v l d t)

abbrev pub link_of : Way → Link
link_of here = Root
link_of (down v l r w) = Down v
link_of (right v l d w) = Right v

abbrev pub reads : List Branch → Option ℕ → Link → Option ℕ
reads ns root Root = root
reads ns root (Down v) = (slice_index_or ns v blank).down
reads ns root (Right v) = (slice_index_or ns v blank).right

abbrev pub nodes_with : List Branch → Link → Option ℕ → List Branch
nodes_with ns Root o = ns
nodes_with ns (Down v) o = slice_set ns v (record { label = (slice_index_or ns v blank).label; down = o; right = (slice_index_or ns v blank).right })
nodes_with ns (Right v) o = slice_set ns v (record { label = (slice_index_or ns v blank).label; down = (slice_index_or ns v blank).down; right = o })

abbrev pub marks_with : Marks → Link → Option ℕ → Marks
marks_with m Root o = record { root = o; free = m.free; used = m.used }
marks_with m (Down v) o = m
marks_with m (Right v) o = m

abbrev pub next_at : List Branch → Option ℕ → Option ℕ
next_at ns None = None
next_at ns (Some v) = (slice_index_or ns v blank).right

abbrev pub Inside : ℕ → Link → Type 0
Inside n Root = Unit {0}
Inside n (Down v) = v < n
Inside n (Right v) = v < n

abbrev pub Beside : Label → List Label → Type 0
Beside l [] = ⊥
Beside l (k ∷ u) = same_label k l ≡ false

-- the labels on the way down to the place, and then u, are s; where the way goes right, s goes on with another label
abbrev pub Along : Way → List Label → List Label → Type 0
Along here u s = u ≡ s
Along (down v l r w) u s = (is_number l ≡ false) × (none_same l (heads r) ≡ true) × Along w (l ∷ u) s
Along (right v l d w) u s = Beside l u × Along w u s

abbrev pub first : Tree → Option ℕ
first nil = None
first (node v l d r) = Some v

-- the link itself, unless its node is the only one below another
abbrev pub chosen : Link → Option ℕ → Link → Link
chosen Root o cut = Root
chosen (Right v) o cut = Right v
chosen (Down v) (Some w) cut = Down v
chosen (Down v) None cut = cut

-- the link below which each node has no other below it or right of it
abbrev pub cut_of : Way → Link
cut_of here = Root
cut_of (down v l r w) = chosen (link_of w) (first r) (cut_of w)
cut_of (right v l d w) = cut_of w

-- a tree in the pool that can be walked
pub record Stands (ns : List Branch) (root : Option ℕ) (t : Tree) : Type 0 where
  pub held : Held ns root t
  pub trim : is_trim t ≡ true
  pub few : length (places t) ≤ length ns

-- the row is not there, and would go on at the link from its place `at`
pub record Missing (t : Tree) (s : List Label) (link : Link) (at : ℕ) : Type 0 where
  pub way : Way
  pub is : plug way nil ≡ t
  pub led : link ≡ link_of way
  pub along : Along way (drop at s) s
  pub within : at < length s

-- the row ends at the number n
pub record Ending (t : Tree) (s : List Label) (n : ℕ) (cut : Link) : Type 0 where
  pub way : Way
  pub at : ℕ
  pub beside : Tree
  pub is : plug way (node at (Number n) nil beside) ≡ t
  pub along : Along way (Number n ∷ []) s
  pub led : cut ≡ chosen (link_of way) (first beside) (cut_of way)

abbrev pub Seeks : Tree → List Node → ℕ → Result Link Gap → Type 0
Seeks t row n (Ok cut) = Ending t (labels row n) n cut
Seeks t row n (Err gap) = Missing t (labels row n) gap.link gap.at
