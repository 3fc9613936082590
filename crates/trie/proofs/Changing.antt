-- The pool after an insertion and after a removal.
use Rattle.std.proofs.Common.{◌≡◌, ℕ, true, List, [], ◌∷◌, length, get_or, drop, Some, Option, sym, refl, ap, ◌∙◌, subst, arith, length-append}
use Rattle.trie.specs.declared.branch.Label.{Label}
use Rattle.trie.specs.declared.branch.Branch.{Branch}
use Rattle.trie.specs.declared.trie.links.Link.{Link}
use Rattle.trie.specs.declared.trie.rooms.Marks.{Marks}
use Rattle.trie.specs.Trees.{Tree, nil, node, blank, strings, places, is_trim, nodes_in, fits_pattern, are_patterns}
use Rattle.trie.specs.Pools.{Held, Chained, down_of, spelled}
use Rattle.trie.specs.Ways.{plug, link_of, reads, next_at, nodes_with, marks_with, Inside, Stands, Missing}
use Rattle.trie.specs.Taken.{Kept, Spelt, Within, hanging}
use Rattle.trie.proofs.Counting.{count_append, cap_most}
use Rattle.trie.proofs.Growing.{Whole, held_few, spelled_is}
use Rattle.trie.proofs.Framing.{count_plug, unplug, inside}
use Rattle.trie.proofs.Linking.{kept_relinked, chain_stays, lone_chain}
use Rattle.trie.proofs.Lending.{Hanging, hanging_is}
use Rattle.trie.proofs.Spelling.{Row}
use Rattle.trie.proofs.Adding.{More, grown}
use Rattle.trie.proofs.Cutting.{Cut, cut_grown}
use Rattle.trie.proofs.Fitting.{fits_more, fits_less}

pub stands : (ns : List Branch) (m : Marks) (t : Tree) → Whole ns m t → Stands ns m.root t
stands ns m t w = record { held = w.kept.held; trim = w.trim; few = held_few ns m t [] w.kept }

-- a pool that keeps t with the row s more
pub record Added (ns : List Branch) (m : Marks) (t : Tree) (s : List Label) : Type 0 where
  pub tree : Tree
  pub whole : Whole ns m tree
  pub more : More s (strings t) (strings tree)

-- a pool that keeps t without the row s
pub record Rid (ns : List Branch) (m : Marks) (t : Tree) (s : List Label) : Type 0 where
  pub tree : Tree
  pub whole : Whole ns m tree
  pub more : More s (strings tree) (strings t)

pub spelled_whole : (ns : List Branch) (m : Marks) (t : Tree) → Whole ns m t → spelled ns m.root ≡ t
spelled_whole ns m t w = spelled_is ns m t [] w.kept

module _ (t : Tree) (s : List Label) (link : Link) (at : ℕ) (miss : Missing t s link at) (ns : List Branch) (m : Marks) (o : Option ℕ) (spelt : Spelt ns m t (drop at s) o) where
  abbrev pub kept_nil : Kept ns m (plug miss.way nil) (places spelt.stem)
  kept_nil = subst (λ x. Kept ns m x (places spelt.stem)) (sym miss.is) spelt.kept

  pub link_inside : Inside (length ns) link
  link_inside = subst (Inside (length ns)) (sym miss.led) (inside ns m.root miss.way nil kept_nil.held)

  pub inserted : (ns' : List Branch) (m' : Marks) → ns' ≡ nodes_with ns link o → m' ≡ marks_with m link o → Row s → fits_pattern (nodes_in s) ≡ true → is_trim t ≡ true → are_patterns (strings t) ≡ true → Added ns' m' t s
  inserted ns' m' en em row fits trim patterns =
      let w = miss.way in
      let g = grown w (drop at s) s spelt.stem miss.along row spelt.lone in
      let more : More s (strings t) (strings (plug w spelt.stem)) = subst (λ x. More s (strings x) (strings (plug w spelt.stem))) miss.is g.more in
      let k = kept_relinked ns m w nil spelt.stem (places spelt.stem) [] o kept_nil spelt.held (λ v. omega arith) (omega arith) in
      let en' : nodes_with ns (link_of w) o ≡ ns' = ap (λ x. nodes_with ns x o) (sym miss.led) ∙ sym en in
      let em' : marks_with m (link_of w) o ≡ m' = ap (λ x. marks_with m x o) (sym miss.led) ∙ sym em in
      record {
        tree = plug w spelt.stem;
        whole = record {
          kept = subst (λ x. Kept ns' x (plug w spelt.stem) []) em' (subst (λ x. Kept x (marks_with m (link_of w) o) (plug w spelt.stem) []) en' k);
          trim = g.trim (subst (λ x. is_trim x ≡ true) (sym miss.is) trim);
          patterns = fits_more s (strings t) (strings (plug w spelt.stem)) more fits patterns;
        };
        more = more;
      }

module _ (ns : List Branch) (m : Marks) (t : Tree) (s : List Label) (link : Link) (w : Whole ns m t) (c : Cut t s link) where
  abbrev pub kept_node : Kept ns m (plug c.way (node c.at c.label c.down c.beside)) []
  kept_node = subst (λ x. Kept ns m x []) (sym c.is) w.kept

  pub cut_inside : Inside (length ns) link
  cut_inside = subst (Inside (length ns)) (sym c.led) (inside ns m.root c.way (node c.at c.label c.down c.beside) kept_node.held)

  abbrev pub node_held : Held ns (reads ns m.root (link_of c.way)) (node c.at c.label c.down c.beside)
  node_held = unplug ns m.root c.way (node c.at c.label c.down c.beside) kept_node.held

  pub leads : reads ns m.root link ≡ Some c.at
  leads = ap (reads ns m.root) c.led ∙ node_held.0

  pub first_within : (o : Option ℕ) → o ≡ reads ns m.root link → Within (length ns) o
  first_within o e = subst (Within (length ns)) (sym (e ∙ leads)) node_held.1

  pub unlinked : (ns' : List Branch) (m' : Marks) (first next : Option ℕ) → first ≡ reads ns m.root link → next ≡ next_at ns first → ns' ≡ nodes_with ns link next → m' ≡ marks_with m link next
      → Hanging ns' m' (plug c.way c.beside) first
  unlinked ns' m' first next ef ex en em =
      let way = c.way in
      let right = (get_or ns c.at blank).right in
      let some : first ≡ Some c.at = ef ∙ leads in
      let is : next ≡ right = ex ∙ ap (next_at ns) some in
      let out = c.at ∷ places c.down in
      let sum = length-append (places c.down) (places c.beside) in
      let k = kept_relinked ns m way (node c.at c.label c.down c.beside) c.beside [] out right kept_node node_held.4
      (λ v. let a = count_append v (places c.down) (places c.beside) in omega arith) (omega arith) in
      let chained : Chained down_of ns (Some c.at) out = (refl, node_held.1, lone_chain ns c.rest c.down (get_or ns c.at blank).down node_held.3 c.lone) in
      let stays = chain_stays down_of ns way right (Some c.at) out chained
      (λ v. let a = kept_node.apart v in let b = count_plug v way (node c.at c.label c.down c.beside) in let d = count_append v (places c.down) (places c.beside) in let e = cap_most m.used v in omega arith) in
      let en' : nodes_with ns (link_of way) right ≡ ns' = ap (λ x. nodes_with ns x right) (sym c.led) ∙ ap (nodes_with ns link) (sym is) ∙ sym en in
      let em' : marks_with m (link_of way) right ≡ m' = ap (λ x. marks_with m x right) (sym c.led) ∙ ap (marks_with m link) (sym is) ∙ sym em in
      record {
        out = out;
        kept = subst (λ x. Kept ns' x (plug way c.beside) out) em' (subst (λ x. Kept x (marks_with m (link_of way) right) (plug way c.beside) out) en' k);
        hangs = subst (λ x. Chained down_of x first out) en' (subst (λ x. Chained down_of (nodes_with ns (link_of way) right) x out) (sym some) stays);
      }

  -- what giving back then asks, in the words of the pool alone
  pub record Asked (ns' : List Branch) (m' : Marks) (first : Option ℕ) : Type 0 where
    pub hangs : Chained down_of ns' first (hanging ns' first)
    pub kept : Kept ns' m' (spelled ns' m'.root) (hanging ns' first)
    pub tree : spelled ns' m'.root ≡ plug c.way c.beside

  pub asked : (ns' : List Branch) (m' : Marks) (first : Option ℕ) → Hanging ns' m' (plug c.way c.beside) first → Asked ns' m' first
  asked ns' m' first h =
      let e = hanging_is ns' m' (plug c.way c.beside) first h in
      let f = spelled_is ns' m' (plug c.way c.beside) h.out h.kept in
      record {
        hangs = subst (Chained down_of ns' first) (sym e) h.hangs;
        kept = subst (λ x. Kept ns' m' x (hanging ns' first)) (sym f) (subst (Kept ns' m' (plug c.way c.beside)) (sym e) h.kept);
        tree = f;
      }

  pub removed : (ns' : List Branch) (m' : Marks) (t' : Tree) → t' ≡ plug c.way c.beside → Kept ns' m' t' [] → Row s → Rid ns' m' t s
  removed ns' m' t' e k row =
      let g = cut_grown t s link c row w.trim in
      record {
        tree = plug c.way c.beside;
        whole = record { kept = subst (λ x. Kept ns' m' x []) e k; trim = g.1; patterns = fits_less s (strings (plug c.way c.beside)) (strings t) g.0 w.patterns };
        more = g.0;
      }
