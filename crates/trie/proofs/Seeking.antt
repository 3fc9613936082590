-- A row's way through the tree, node by node.
use Rattle.std.proofs.Common.{◌≡◌, ℕ, suc, ◌+◌, ◌<◌, ◌≤◌, Bool, true, false, List, [], ◌∷◌, length, get_or, drop, Some, None, Option, sym, refl, ap, ◌∙◌, subst, inl, inr, arith, length-append}
use Rattle.std.proofs.lemmas.List.{drop_more, drop_all}
use Rattle.std.proofs.lemmas.Bool.{true≢false, cases_lt}
use Rattle.trie.specs.Contents.{labels}
use Rattle.trie.specs.declared.branch.Label.{Label}
use Rattle.trie.specs.declared.branch.Label.TheVariants.{Star, Number}
use Rattle.trie.specs.declared.branch.Branch.{Branch}
use Rattle.trie.specs.declared.trie.links.Link.{Link}
use Rattle.trie.specs.declared.trie.links.Link.TheVariants.{Root, Down, Right}
use Rattle.trie.specs.Trees.{Tree, nil, node, blank, places, is_nil, is_number, ends_well, same_label, is_trim}
use Rattle.trie.specs.Pools.{Held, spelled}
use Rattle.trie.specs.Ways.{Way, here, down, right, plug, link_of, reads, Inside, Beside, Along, first, chosen, cut_of, Stands, Missing, Ending}
use Rattle.terms.specs.declared.pattern.Node.{Node}
use Rattle.trie.proofs.Counting.{clash}
use Rattle.trie.proofs.Labels.{Trim, trim_parts, apart_sym, same_is}
use Rattle.trie.proofs.Spelling.{labels_length, label_last, label_no_number}
use Rattle.trie.proofs.Growing.{spelled_tree}

pub record Seeking (ns : List Branch) (root : Option ℕ) (t : Tree) (s : List Label) (link cut : Link) (at : ℕ) : Type 0 where
  pub way : Way
  pub tree : Tree
  pub is : plug way tree ≡ t
  pub led : link ≡ link_of way
  pub cuts : cut ≡ cut_of way
  pub along : Along way (drop at s) s
  pub within : at < length s
  pub inside : Inside (length ns) link
  pub held : Held ns (reads ns root link) tree
  pub trim : is_trim tree ≡ true
  pub few : length (places tree) ≤ length ns

pub start : (ns : List Branch) (root : Option ℕ) (t : Tree) (s : List Label) → Stands ns root t → 0 < length s → Seeking ns root t s Root Root 0
start ns root t s h some = record {
  way = here;
  tree = t;
  is = refl;
  led = refl;
  cuts = refl;
  along = refl;
  within = some;
  inside = tt;
  held = h.held;
  trim = h.trim;
  few = h.few;
}

-- what is left to walk
abbrev pub left : List Branch → Option ℕ → Link → ℕ
left ns root link = length (places (spelled ns (reads ns root link)))

left_is : (ns : List Branch) (root : Option ℕ) (t : Tree) (s : List Label) (link cut : Link) (at : ℕ) (k : Seeking ns root t s link cut at) → left ns root link ≡ length (places k.tree)
left_is ns root t s link cut at k = ap (λ x. length (places x)) (spelled_tree ns (reads ns root link) k.tree k.held k.few)

pub missing : (ns : List Branch) (root : Option ℕ) (t : Tree) (s : List Label) (link cut : Link) (at : ℕ) → Seeking ns root t s link cut at → reads ns root link ≡ None → Missing t s link at
missing ns root t s link cut at k e = record { way = k.way; is = ap (plug k.way) (sym none) ∙ k.is; led = k.led; along = k.along; within = k.within }
  where
    empty : (x : Tree) (o : Option ℕ) → o ≡ None → Held ns o x → x ≡ nil
    empty nil o e h = refl
    empty (node v l d r) o e h = clash (cc h.0)

    none : k.tree ≡ nil
    none = empty k.tree (reads ns root link) e k.held

-- the walk stands before the node at v
pub record Before (ns : List Branch) (t : Tree) (s : List Label) (link cut : Link) (at v n : ℕ) : Type 0 where
  pub way : Way
  pub label : Label
  pub down : Tree
  pub right : Tree
  pub is : plug way (node v label down right) ≡ t
  pub led : link ≡ link_of way
  pub cuts : cut ≡ cut_of way
  pub along : Along way (drop at s) s
  pub within : at < length s
  pub below : v < length ns
  pub labelled : (get_or ns v blank).label ≡ label
  pub held_down : Held ns (get_or ns v blank).down down
  pub held_right : Held ns (get_or ns v blank).right right
  pub trim : Trim label down right
  pub few : suc (length (places down) + length (places right)) ≤ length ns
  pub left : suc (length (places down) + length (places right)) ≡ n

pub before : (ns : List Branch) (root : Option ℕ) (t : Tree) (s : List Label) (link cut : Link) (at v : ℕ) → Seeking ns root t s link cut at → reads ns root link ≡ Some v → Before ns t s link cut at v (left ns root link)
before ns root t s link cut at v k e =
    cases k.tree (subst (λ o. Held ns o k.tree) e k.held) k.is k.trim k.few (left_is ns root t s link cut at k)
  where
    cases : (x : Tree) → Held ns (Some v) x → plug k.way x ≡ t → is_trim x ≡ true → length (places x) ≤ length ns → left ns root link ≡ length (places x) → Before ns t s link cut at v (left ns root link)
    cases nil h i m f n = clash cc
    cases (node w l d r) h i m f n =
        let same : w ≡ v = cc h.0 in
        let len = length-append (places d) (places r) in
        record {
          way = k.way;
          label = l;
          down = d;
          right = r;
          is = subst (λ x. plug k.way (node x l d r) ≡ t) same i;
          led = k.led;
          cuts = k.cuts;
          along = k.along;
          within = k.within;
          below = omega (arith, h.1);
          labelled = subst (λ x. (get_or ns x blank).label ≡ l) same h.2;
          held_down = subst (λ x. Held ns (get_or ns x blank).down d) same h.3;
          held_right = subst (λ x. Held ns (get_or ns x blank).right r) same h.4;
          trim = trim_parts w l d r m;
          few = omega arith;
          left = omega arith;
        }

-- the walk went on, with less before it
pub record On (ns : List Branch) (root : Option ℕ) (t : Tree) (s : List Label) (link cut : Link) (at n : ℕ) : Type 0 where
  pub seeking : Seeking ns root t s link cut at
  pub less : left ns root link < n

on : (ns : List Branch) (root : Option ℕ) (t : Tree) (s : List Label) (link cut : Link) (at n : ℕ) (k : Seeking ns root t s link cut at) → length (places k.tree) < n → On ns root t s link cut at n
on ns root t s link cut at n k h = record { seeking = k; less = omega (arith, left_is ns root t s link cut at k) }

pub go_right : (ns : List Branch) (root : Option ℕ) (t : Tree) (s : List Label) (link cut : Link) (at v n : ℕ) → Before ns t s link cut at v n
    → same_label (get_or ns v blank).label (get_or s at Star) ≡ false → On ns root t s (Right v) cut at n
go_right ns root t s link cut at v n b e =
    on ns root t s (Right v) cut at n
    (record {
      way = right v b.label b.down b.way;
      tree = b.right;
      is = b.is;
      led = refl;
      cuts = b.cuts;
      along = (subst (Beside b.label) (sym (drop_more s at Star b.within)) (subst (λ l. same_label (get_or s at Star) l ≡ false) b.labelled (apart_sym (get_or ns v blank).label (get_or s at Star) e)), b.along);
      within = b.within;
      inside = b.below;
      held = b.held_right;
      trim = b.trim.right;
      few = omega (arith, b.few);
    }) (omega (arith, b.left))

pub held_first : (ns : List Branch) (t : Tree) (o : Option ℕ) → Held ns o t → o ≡ first t
held_first ns nil o h = h
held_first ns (node v l d r) o h = h.0

chosen_is : (ns : List Branch) (t : Tree) (s : List Label) (link cut : Link) (at v n : ℕ) (b : Before ns t s link cut at v n) → chosen link (get_or ns v blank).right cut ≡ chosen (link_of b.way) (first b.right) (cut_of b.way)
chosen_is ns t s link cut at v n b =
    ap (λ x. chosen x (get_or ns v blank).right cut) b.led ∙ ap (λ x. chosen (link_of b.way) x cut) (held_first ns b.right (get_or ns v blank).right b.held_right)
    ∙ ap (chosen (link_of b.way) (first b.right)) b.cuts

pub go_down : (ns : List Branch) (root : Option ℕ) (t : Tree) (s : List Label) (link cut : Link) (at v n : ℕ) → Before ns t s link cut at v n
    → (get_or ns v blank).label ≡ get_or s at Star → is_number (get_or s at Star) ≡ false → at + 1 < length s → On ns root t s (Down v) (chosen link (get_or ns v blank).right cut) (at + 1) n
go_down ns root t s link cut at v n b e plain more =
    let same : get_or s at Star ≡ b.label = sym e ∙ b.labelled in
    on ns root t s (Down v) (chosen link (get_or ns v blank).right cut) (at + 1) n
    (record {
      way = down v b.label b.right b.way;
      tree = b.down;
      is = b.is;
      led = refl;
      cuts = chosen_is ns t s link cut at v n b;
      along = (ap is_number (sym same) ∙ plain, b.trim.none, subst (λ u. Along b.way u s) (drop_more s at Star b.within ∙ ap (λ l. l ∷ drop (at + 1) s) same) b.along);
      within = more;
      inside = b.below;
      held = b.held_down;
      trim = b.trim.down;
      few = omega (arith, b.few);
    }) (omega (arith, b.left))

nil_is : (d : Tree) → is_nil d ≡ true → d ≡ nil
nil_is nil e = refl
nil_is (node v l d r) e = absurd (true≢false (sym e))

pub ends : (ns : List Branch) (t : Tree) (s : List Label) (link cut : Link) (at v n m : ℕ) → Before ns t s link cut at v n
    → (get_or ns v blank).label ≡ get_or s at Star → get_or s at Star ≡ Number m → length s ≡ at + 1 → Ending t s m (chosen link (get_or ns v blank).right cut)
ends ns t s link cut at v n m b e last long =
    let label : b.label ≡ Number m = sym b.labelled ∙ e ∙ last in
    let none : b.down ≡ nil = nil_is b.down (subst (λ l. ends_well l b.down ≡ true) label b.trim.ends) in
    let rest : drop at s ≡ Number m ∷ [] = drop_more s at Star b.within ∙ ap (λ l. l ∷ drop (at + 1) s) last ∙ ap (λ u. Number m ∷ u) (drop_all (at + 1) s (omega arith)) in
    record {
      way = b.way;
      at = v;
      beside = b.right;
      is = ap (λ l. plug b.way (node v l nil b.right)) (sym label) ∙ ap (λ d. plug b.way (node v b.label d b.right)) (sym none) ∙ b.is;
      along = subst (λ u. Along b.way u s) rest b.along;
      led = chosen_is ns t s link cut at v n b;
    }

pub below_other : {m n : ℕ} → m ≤ n → (m ≡ n → ⊥) → m < n
below_other {m} {n} h k = elim (cases_lt m n) [ inl l ↦ l | inr g ↦ absurd (k (omega arith)) ]

-- a turn of the walk, by the test of the node's label l against the row's
module _ (ns : List Branch) (root : Option ℕ) (t : Tree) (row : List Node) (n : ℕ) (link cut : Link) (at v : ℕ) (k : Seeking ns root t (labels row n) link cut at) (o : Option ℕ) (is : o ≡ reads ns root link) (some : o ≡ Some v) (l : Label) (next : l ≡ get_or (labels row n) at Star) where
  at_node : Before ns t (labels row n) link cut at v (left ns root link)
  at_node = before ns root t (labels row n) link cut at v k (sym is ∙ some)

  pub v_within : v < length ns
  v_within = at_node.below

  pub turn_right : (b : Bool) → b ≡ same_label (get_or ns v blank).label l → b ≡ false → On ns root t (labels row n) (Right v) cut at (left ns root link)
  turn_right b e fails = go_right ns root t (labels row n) link cut at v (left ns root link) at_node (ap (same_label (get_or ns v blank).label) (sym next) ∙ sym e ∙ fails)

  pub turn_down : (b : Bool) (r : Link) → b ≡ same_label (get_or ns v blank).label l → b ≡ true → (at ≡ length row → ⊥) → r ≡ chosen link (get_or ns v blank).right cut
      → On ns root t (labels row n) (Down v) r (at + 1) (left ns root link)
  turn_down b r e holds more c =
      let len = labels_length row n in
      let inside : at < length row = below_other (omega (arith, k.within)) more in
      subst (λ x. On ns root t (labels row n) (Down v) x (at + 1) (left ns root link)) (sym c)
      (go_down ns root t (labels row n) link cut at v (left ns root link) at_node (same_is (get_or ns v blank).label l (sym e ∙ holds) ∙ next) (label_no_number row n at inside) (omega arith))

  pub turn_end : (b : Bool) (r : Link) → b ≡ same_label (get_or ns v blank).label l → b ≡ true → at ≡ length row → r ≡ chosen link (get_or ns v blank).right cut → Ending t (labels row n) n r
  turn_end b r e holds last c =
      let len = labels_length row n in
      subst (Ending t (labels row n) n) (sym c)
      (ends ns t (labels row n) link cut at v (left ns root link) n at_node (same_is (get_or ns v blank).label l (sym e ∙ holds) ∙ next) (label_last row n at last) (omega arith))
