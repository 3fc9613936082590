-- A link that is written anew.
use Rattle.std.proofs.Common.{◌≡◌, ℕ, ◌+◌, ◌≤◌, List, [], ◌∷◌, ◌++◌, length, get_or, set, Option, sym, refl, ap, ◌∙◌, subst, append-nil, arith, length-set, get_or-set_same}
use Rattle.trie.specs.declared.branch.Label.{Label}
use Rattle.trie.specs.declared.branch.Branch.{Branch}
use Rattle.trie.specs.declared.trie.rooms.Marks.{Marks}
use Rattle.trie.specs.Trees.{Tree, nil, node, blank, places}
use Rattle.trie.specs.Pools.{Held, Chained, right_of, down_of}
use Rattle.trie.specs.Ways.{Way, here, down, right, plug, link_of, nodes_with, marks_with}
use Rattle.trie.specs.Taken.{count, Kept, Lone}
use Rattle.trie.proofs.Counting.{clash, hit_self, count_append, cap_most}
use Rattle.trie.proofs.Framing.{frame, frame_chain, around, count_plug, length_plug, unplug, replug}

pub relinked : (ns : List Branch) (m : Marks) (w : Way) (t t' : Tree) (o : Option ℕ) → Held ns m.root (plug w t) → Held ns o t'
    → ((v : ℕ) → count v (around w) + count v (places t') ≤ 1) → Held (nodes_with ns (link_of w) o) (marks_with m (link_of w) o).root (plug w t')
relinked ns m here t t' o h g once = g
relinked ns m (down v l r w) t t' o h g once =
    let here = once v in
    let a = count_append v (places r) (around w) in
    let one = hit_self v in
    let b : Branch = record { label = (get_or ns v blank).label; down = o; right = (get_or ns v blank).right } in
    let within = (unplug ns m.root w (node v l t r) h).1 in
    let e = get_or-set_same ns v b blank within in
    let len = length-set ns v b in
    replug ns v b w (node v l t r) (node v l t' r) (omega arith)
    (λ p k. (
      k.0,
      omega (arith, within),
      ap (λ x. x.label) e ∙ k.2,
      subst (λ (x : Branch). Held (set ns v b) x.down t') (sym e) (frame ns v b t' o g (omega arith)),
      subst (λ (x : Branch). Held (set ns v b) x.right r) (sym e) (frame ns v b r (get_or ns v blank).right k.4 (omega arith)),
    )) m.root h
relinked ns m (right v l d w) t t' o h g once =
    let here = once v in
    let a = count_append v (places d) (around w) in
    let one = hit_self v in
    let b : Branch = record { label = (get_or ns v blank).label; down = (get_or ns v blank).down; right = o } in
    let within = (unplug ns m.root w (node v l d t) h).1 in
    let e = get_or-set_same ns v b blank within in
    let len = length-set ns v b in
    replug ns v b w (node v l d t) (node v l d t') (omega arith)
    (λ p k. (
      k.0,
      omega (arith, within),
      ap (λ x. x.label) e ∙ k.2,
      subst (λ (x : Branch). Held (set ns v b) x.down d) (sym e) (frame ns v b d (get_or ns v blank).down k.3 (omega arith)),
      subst (λ (x : Branch). Held (set ns v b) x.right t') (sym e) (frame ns v b t' o g (omega arith)),
    )) m.root h

-- a chain that does not meet the link stays
pub chain_stays : (next : Branch → Option ℕ) (ns : List Branch) (w : Way) (o p : Option ℕ) (vs : List ℕ) → Chained next ns p vs
    → ((v : ℕ) → count v (around w) + count v vs ≤ 1) → Chained next (nodes_with ns (link_of w) o) p vs
chain_stays next ns here o p vs h once = h
chain_stays next ns (down v l r w) o p vs h once = let k = once v in let one = hit_self v in frame_chain next ns v _ vs p h (omega arith)
chain_stays next ns (right v l d w) o p vs h once = let k = once v in let one = hit_self v in frame_chain next ns v _ vs p h (omega arith)

free_stays : (m : Marks) (w : Way) (o : Option ℕ) → ((marks_with m (link_of w) o).free ≡ m.free) × ((marks_with m (link_of w) o).used ≡ m.used)
free_stays m here o = (refl, refl)
free_stays m (down v l r w) o = (refl, refl)
free_stays m (right v l d w) o = (refl, refl)

size_stays : (ns : List Branch) (w : Way) (o : Option ℕ) → length (nodes_with ns (link_of w) o) ≡ length ns
size_stays ns here o = refl
size_stays ns (down v l r w) o = length-set ns v _
size_stays ns (right v l d w) o = length-set ns v _

-- the tree with t' in the place of t, where the places that t' lacks or has more are taken besides
pub kept_relinked : (ns : List Branch) (m : Marks) (w : Way) (t t' : Tree) (out out' : List ℕ) (o : Option ℕ) → Kept ns m (plug w t) out → Held ns o t'
    → ((v : ℕ) → count v (places t') + count v out' ≡ count v (places t) + count v out) → length (places t') + length out' ≡ length (places t) + length out
    → Kept (nodes_with ns (link_of w) o) (marks_with m (link_of w) o) (plug w t') out'
kept_relinked ns m w t t' out out' o k h same sum =
    let stays = free_stays m w o in
    let size = size_stays ns w o in
    let len = length_plug w t in
    let len' = length_plug w t' in
    record {
      spare = k.spare;
      held = relinked ns m w t t' o k.held h (λ v. let a = k.apart v in let b = same v in let c = count_plug v w t in let d = cap_most m.used v in omega arith);
      chained = subst (λ p. Chained right_of (nodes_with ns (link_of w) o) p k.spare) (sym stays.0)
          (chain_stays right_of ns w o m.free k.spare k.chained (λ v. let a = k.apart v in let c = count_plug v w t in let d = cap_most m.used v in omega arith));
      apart = λ v. let a = k.apart v in let b = same v in let c = count_plug v w t in let d = count_plug v w t' in rw stays.1 (omega arith);
      full = rw stays.1 (omega (arith, k.full));
      within = rw stays.1 (omega (arith, k.within));
    }

-- nodes one below another are a chain over `down`
pub lone_chain : (ns : List Branch) (u : List Label) (t : Tree) (o : Option ℕ) → Held ns o t → Lone u t → Chained down_of ns o (places t)
lone_chain ns [] nil o h e = h
lone_chain ns [] (node v l d r) o h e = clash cc
lone_chain ns (k ∷ u) nil o h e = absurd e
lone_chain ns (k ∷ u) (node v l d r) o h e =
    let none : places r ≡ [] = ap places e.1 in
    let is : places d ++ places r ≡ places d = ap (λ x. places d ++ x) none ∙ append-nil (places d) in
    (h.0, h.1, subst (Chained down_of ns (get_or ns v blank).down) (sym is) (lone_chain ns u d (get_or ns v blank).down h.3 e.2))
