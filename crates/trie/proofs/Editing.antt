-- What insertion and removal owe, of a tree in its pool and a pattern's row.
use Rattle.std.proofs.Common.{◌≡◌, ℕ, ◌+◌, ◌-◌, ◌<◌, ◌≤◌, true, List, [], length, drop, Option, sym, refl, ap, ◌∙◌, subst, inl, inr, arith}
use Rattle.lists.specs.Members.{In}
use Rattle.terms.specs.Patterns.{nodes_of}
use Rattle.terms.specs.declared.pattern.Node.{Node}
use Rattle.terms.specs.declared.pattern.Pattern.{Pattern}
use Rattle.trie.specs.declared.branch.Label.{Label}
use Rattle.trie.specs.declared.branch.Branch.{Branch}
use Rattle.trie.specs.declared.trie.Trie.{Trie}
use Rattle.trie.specs.declared.trie.links.Link.{Link}
use Rattle.trie.specs.declared.trie.rooms.Marks.{Marks}
use Rattle.trie.specs.Trees.{Tree, strings, places, nodes_in, fits_pattern}
use Rattle.trie.specs.Pools.{spelled, is_sound}
use Rattle.trie.specs.Ways.{reads, next_at, nodes_with, marks_with, Stands, Missing, Ending}
use Rattle.trie.specs.Taken.{Kept, Spelt}
use Rattle.trie.specs.Contents.{tree_of, strings_of, string_of, Inserted, Removed, labels}
use Rattle.trie.proofs.Growing.{Whole, to_sound}
use Rattle.trie.proofs.Holding.{whole}
use Rattle.trie.proofs.Spelling.{labels_row, labels_length}
use Rattle.trie.proofs.Adding.{More}
use Rattle.trie.proofs.Cutting.{Cut, cut, cut_grown}
use Rattle.trie.proofs.Fitting.{pattern_fits}
use Rattle.trie.proofs.Weighing.{missing_out, room_for}
use Rattle.trie.proofs.Changing.{stands, Added, Rid, Asked, asked, unlinked, inserted, removed, spelled_whole}

pub tree_stands : (t : Trie) → Stands t.nodes t.marks.root (tree_of t)
tree_stands t = stands t.nodes t.marks (tree_of t) (whole t)

inserted_true : (s : List Label) (xs ys : List (List Label)) → More s xs ys → length xs < 64 → Inserted xs s ys true
inserted_true s xs ys m few = (m.out, few, m.more, m.all)

removed_true : (s : List Label) (xs ys : List (List Label)) → More s ys xs → Removed xs s ys true
removed_true s xs ys m = (
  (m.all s).1 (inl refl),
  m.more,
  λ u. (λ h. ((m.all u).1 (inr h), λ e. m.out (subst (λ z. In z ys) e h)), λ h other. elim ((m.all u).0 h) [ inl e ↦ absurd (other e) | inr k ↦ k ]),
)

-- the facts that the tree carries, after a change
pub record Carried (ns : List Branch) (m : Marks) (len : ℕ) : Type 0 where
  pub sound : is_sound ns m.root m.free m.used ≡ true
  pub counted : length (strings (spelled ns m.root)) ≡ len

carried : (ns : List Branch) (m : Marks) (t : Tree) (len : ℕ) → Whole ns m t → length (strings t) ≡ len → Carried ns m len
carried ns m t len w e = record { sound = to_sound ns m t w; counted = ap (λ x. length (strings x)) (spelled_whole ns m t w) ∙ e }

module _ (t : Trie) (p : Pattern) (n : ℕ) (row : List Node) (e : row ≡ nodes_of p) where
  abbrev spells : labels row n ≡ string_of p n
  spells = ap (λ x. labels x n) e

  pub absent : (link : Link) (at : ℕ) → Missing (tree_of t) (labels row n) link at → In (string_of p n) (strings_of t) → ⊥
  absent link at m h = missing_out (tree_of t) (labels row n) link at m (labels_row row n) (subst (λ z. In z (strings_of t)) (sym spells) h)

  pub at_within : (link : Link) (at : ℕ) → Missing (tree_of t) (labels row n) link at → at ≤ length row
  at_within link at m = omega (arith, m.within, labels_length row n)

  pub room : (link : Link) (at : ℕ) → Missing (tree_of t) (labels row n) link at → t.len < 64 → length (places (tree_of t)) + (length row + 1 - at) ≤ length t.nodes
  room link at m few =
      let fits : fits_pattern (nodes_in (labels row n)) ≡ true = subst (λ z. fits_pattern (nodes_in z) ≡ true) (sym spells) (pattern_fits p n) in
      let w = whole t in
      let enough = room_for (tree_of t) (labels row n) link at m (labels_row row n) fits w.trim w.patterns (omega (arith, t.counted)) in
      let len = labels_length row n in
      omega (arith, t.room)

  pub inserts : (link : Link) (at : ℕ) → Missing (tree_of t) (labels row n) link at → (ns : List Branch) (m : Marks) (o : Option ℕ) → Spelt ns m (tree_of t) (drop at (labels row n)) o
      → (ns' : List Branch) (m' : Marks) → ns' ≡ nodes_with ns link o → m' ≡ marks_with m link o → Added ns' m' (tree_of t) (string_of p n)
  inserts link at miss ns m o spelt ns' m' en em =
      let fits : fits_pattern (nodes_in (labels row n)) ≡ true = subst (λ z. fits_pattern (nodes_in z) ≡ true) (sym spells) (pattern_fits p n) in
      subst (Added ns' m' (tree_of t)) spells
      (inserted (tree_of t) (labels row n) link at miss ns m o spelt ns' m' en em (labels_row row n) fits (whole t).trim (whole t).patterns)

  abbrev pub cut_here : (link : Link) → Ending (tree_of t) (labels row n) n link → Cut (tree_of t) (labels row n) link
  cut_here link h = cut (tree_of t) (labels row n) n link h

  pub there : (link : Link) → Ending (tree_of t) (labels row n) n link → In (string_of p n) (strings_of t)
  there link h = subst (λ z. In z (strings_of t)) spells (((cut_grown (tree_of t) (labels row n) link (cut_here link h) (labels_row row n) (whole t).trim).0.all (labels row n)).1 (inl refl))

  pub some_row : (link : Link) → Ending (tree_of t) (labels row n) n link → 1 ≤ t.len
  some_row link h = let m = (cut_grown (tree_of t) (labels row n) link (cut_here link h) (labels_row row n) (whole t).trim).0.more in omega (arith, t.counted)

  -- what is handed to be given back
  pub handed : (link : Link) (h : Ending (tree_of t) (labels row n) n link) (ns : List Branch) (m : Marks) (first next : Option ℕ)
      → first ≡ reads t.nodes t.marks.root link → next ≡ next_at t.nodes first → ns ≡ nodes_with t.nodes link next → m ≡ marks_with t.marks link next
      → Asked t.nodes t.marks (tree_of t) (labels row n) link (whole t) (cut_here link h) ns m first
  handed link h ns m first next ef ex en em =
      let c = cut_here link h in
      asked t.nodes t.marks (tree_of t) (labels row n) link (whole t) c ns m first (unlinked t.nodes t.marks (tree_of t) (labels row n) link (whole t) c ns m first next ef ex en em)

  pub removes : (link : Link) (h : Ending (tree_of t) (labels row n) n link) (ns : List Branch) (m : Marks) (first next : Option ℕ)
      → first ≡ reads t.nodes t.marks.root link → next ≡ next_at t.nodes first → ns ≡ nodes_with t.nodes link next → m ≡ marks_with t.marks link next
      → (ns' : List Branch) (m' : Marks) → Kept ns' m' (spelled ns m.root) [] → Rid ns' m' (tree_of t) (string_of p n)
  removes link h ns m first next ef ex en em ns' m' k =
      subst (Rid ns' m' (tree_of t)) spells
      (removed t.nodes t.marks (tree_of t) (labels row n) link (whole t) (cut_here link h) ns' m' (spelled ns m.root) (handed link h ns m first next ef ex en em).tree k (labels_row row n))

  pub added_carried : (ns : List Branch) (m : Marks) → Added ns m (tree_of t) (string_of p n) → Carried ns m (t.len + 1)
  added_carried ns m a = carried ns m a.tree (t.len + 1) a.whole (omega (arith, a.more.more, t.counted))

  pub rid_carried : (ns : List Branch) (m : Marks) → Rid ns m (tree_of t) (string_of p n) → Carried ns m (t.len - 1)
  rid_carried ns m a = carried ns m a.tree (t.len - 1) a.whole (omega (arith, a.more.more, t.counted))

  pub added_true : (ns : List Branch) (m : Marks) → Added ns m (tree_of t) (string_of p n) → t.len < 64 → Inserted (strings_of t) (string_of p n) (strings (spelled ns m.root)) true
  added_true ns m a few =
      subst (λ x. Inserted (strings_of t) (string_of p n) (strings x) true) (sym (spelled_whole ns m a.tree a.whole))
      (inserted_true (string_of p n) (strings_of t) (strings a.tree) a.more (omega (arith, t.counted)))

  pub rid_true : (ns : List Branch) (m : Marks) → Rid ns m (tree_of t) (string_of p n) → Removed (strings_of t) (string_of p n) (strings (spelled ns m.root)) true
  rid_true ns m a =
      subst (λ x. Removed (strings_of t) (string_of p n) (strings x) true) (sym (spelled_whole ns m a.tree a.whole))
      (removed_true (string_of p n) (strings_of t) (strings a.tree) a.more)
