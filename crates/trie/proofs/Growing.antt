-- The tree and the chain that a pool holds, and reading them from it.
use Rattle.std.proofs.Common.{◌≡◌, ℕ, zero, suc, ◌+◌, ◌<◌, ◌≤◌, true, ◌&&◌, eqb, ltb, List, [], ◌∷◌, ◌++◌, length, get_or, Some, None, Option, unwrap_or, sym, refl, subst, arith, length-append}
use Rattle.std.proofs.lemmas.Bool.{eqb-true, eq-eqb, and_parts, and_from, true≢false, lt-ltb, ltb-true}
use Rattle.trie.specs.declared.branch.Branch.{Branch}
use Rattle.trie.specs.Trees.{Tree, nil, node, blank, strings, places, is_trim, are_patterns}
use Rattle.trie.specs.Pools.{Held, Chained, right_of, grow, joined, chain, linked, all_apart, all_below, shared_out, is_kept, is_sound, spelled}
use Rattle.trie.specs.Taken.{count, cap, Kept}
use Rattle.trie.specs.declared.trie.rooms.Marks.{Marks}
use Rattle.trie.proofs.Counting.{clash, hit_self, count_append, spread, once_apart, once_below, cap_one}

-- each of the numbers is below the bound
abbrev Below : ℕ → List ℕ → Type 0
Below n xs = (v : ℕ) → 1 ≤ count v xs → v < n

pub held_grow : (ns : List Branch) (t : Tree) (deep : ℕ) (o : Option ℕ) → Held ns o t → length (places t) ≤ deep → grow deep ns o ≡ Some t
held_grow ns nil deep o h within = rw h
held_grow ns (node v l d r) zero o h within = absurd (let z : ⊥ = omega arith in z)
held_grow ns (node v l d r) (suc deep) o h within =
    let len = length-append (places d) (places r) in
    let below = held_grow ns d deep (get_or ns v blank).down h.3 (omega arith) in
    let beside = held_grow ns r deep (get_or ns v blank).right h.4 (omega arith) in
    rw (h.0, below, beside, h.2)

pub chained_chain : (next : Branch → Option ℕ) (ns : List Branch) (vs : List ℕ) (deep : ℕ) (o : Option ℕ) → Chained next ns o vs → length vs ≤ deep → chain next deep ns o ≡ Some vs
chained_chain next ns [] deep o h within = rw h
chained_chain next ns (v ∷ vs) zero o h within = absurd (let z : ⊥ = omega arith in z)
chained_chain next ns (v ∷ vs) (suc deep) o h within = rw (h.0, chained_chain next ns vs deep (next (get_or ns v blank)) h.2 (omega arith))

joined_held : (ns : List Branch) (w : ℕ) (t : Tree) (x y : Option Tree)
    → ((d : Tree) → x ≡ Some d → Below (length ns) (places d) → Held ns (get_or ns w blank).down d)
    → ((r : Tree) → y ≡ Some r → Below (length ns) (places r) → Held ns (get_or ns w blank).right r)
    → joined w (get_or ns w blank) x y ≡ Some t → Below (length ns) (places t) → Held ns (Some w) t
joined_held ns w t None y down right j b = clash cc
joined_held ns w t (Some d) None down right j b = clash cc
joined_held ns w t (Some d) (Some r) down right j b =
    let is : node w (get_or ns w blank).label d r ≡ t = cc in
    let all : Below (length ns) (w ∷ (places d ++ places r)) = subst (λ z. Below (length ns) (places z)) (sym is) b in
    subst (λ z. Held ns (Some w) z) is (
      refl,
      all w (let h = hit_self w in omega arith),
      refl,
      down d refl (λ u k. all u (let s = count_append u (places d) (places r) in omega arith)),
      right r refl (λ u k. all u (let s = count_append u (places d) (places r) in omega arith)),
    )

grow_held : (ns : List Branch) (deep : ℕ) (o : Option ℕ) (t : Tree) → grow deep ns o ≡ Some t → Below (length ns) (places t) → Held ns o t
grow_held ns deep None nil e b = refl
grow_held ns deep None (node v l d r) e b = clash cc
grow_held ns zero (Some w) t e b = clash cc
grow_held ns (suc deep) (Some w) t e b =
    joined_held ns w t (grow deep ns (get_or ns w blank).down) (grow deep ns (get_or ns w blank).right)
    (grow_held ns deep (get_or ns w blank).down) (grow_held ns deep (get_or ns w blank).right) e b

linked_chained : (next : Branch → Option ℕ) (ns : List Branch) (w : ℕ) (vs : List ℕ) (x : Option (List ℕ))
    → ((ws : List ℕ) → x ≡ Some ws → Below (length ns) ws → Chained next ns (next (get_or ns w blank)) ws)
    → linked w x ≡ Some vs → Below (length ns) vs → Chained next ns (Some w) vs
linked_chained next ns w vs None more j b = clash cc
linked_chained next ns w vs (Some ws) more j b =
    let is : w ∷ ws ≡ vs = cc in
    let all : Below (length ns) (w ∷ ws) = subst (Below (length ns)) (sym is) b in
    subst (λ z. Chained next ns (Some w) z) is (refl, all w (let h = hit_self w in omega arith), more ws refl (λ u k. all u (omega arith)))

chain_chained : (next : Branch → Option ℕ) (ns : List Branch) (deep : ℕ) (o : Option ℕ) (vs : List ℕ) → chain next deep ns o ≡ Some vs → Below (length ns) vs → Chained next ns o vs
chain_chained next ns deep None [] e b = refl
chain_chained next ns deep None (v ∷ vs) e b = clash cc
chain_chained next ns zero (Some w) vs e b = clash cc
chain_chained next ns (suc deep) (Some w) vs e b = linked_chained next ns w vs (chain next deep ns (next (get_or ns w blank))) (chain_chained next ns deep (next (get_or ns w blank))) e b

-- a pool that keeps a tree of patterns' rows
pub record Whole (ns : List Branch) (m : Marks) (t : Tree) : Type 0 where
  pub kept : Kept ns m t []
  pub trim : is_trim t ≡ true
  pub patterns : are_patterns (strings t) ≡ true

whole_parts : (ns : List Branch) (m : Marks) (x : Option Tree) (y : Option (List ℕ)) → grow (length ns) ns m.root ≡ x → chain right_of (length ns) ns m.free ≡ y
    → is_kept ns m.used x y ≡ true → Whole ns m (unwrap_or x nil)
whole_parts ns m None y ex ey k = absurd (true≢false (sym k))
whole_parts ns m (Some t) None ex ey k = absurd (true≢false (sym k))
whole_parts ns m (Some t) (Some vs) ex ey k =
    let used = m.used in
    let p = and_parts (ltb used (suc (length ns))) (shared_out used (places t ++ vs) && (is_trim t && are_patterns (strings t))) k in
    let q = and_parts (shared_out used (places t ++ vs)) (is_trim t && are_patterns (strings t)) p.1 in
    let r = and_parts (is_trim t) (are_patterns (strings t)) q.1 in
    let s = and_parts (all_apart (places t ++ vs)) (all_below used (places t ++ vs) && eqb (length (places t ++ vs)) used) q.0 in
    let u = and_parts (all_below used (places t ++ vs)) (eqb (length (places t ++ vs)) used) s.1 in
    let fits : used ≤ length ns = omega (arith, ltb-true used (suc (length ns)) p.0) in
    let each : (v : ℕ) → count v (places t) + count v vs ≤ cap used v = λ v. let a = spread used (places t ++ vs) s.0 u.0 v in let b = count_append v (places t) vs in omega arith in
    let total = eqb-true (length (places t ++ vs)) used u.1 in
    let len = length-append (places t) vs in
    record {
      kept = record {
        spare = vs;
        held = grow_held ns (length ns) m.root t ex (λ v h. let a = each v in let b = cap_one used v (omega arith) in omega arith);
        chained = chain_chained right_of ns (length ns) m.free vs ey (λ v h. let a = each v in let b = cap_one used v (omega arith) in omega arith);
        apart = λ v. let a = each v in omega arith;
        full = omega arith;
        within = fits;
      };
      trim = r.0;
      patterns = r.1;
    }

abbrev pub marks : Option ℕ → Option ℕ → ℕ → Marks
marks root free used = record { root = root; free = free; used = used }

pub from_sound : (ns : List Branch) (root free : Option ℕ) (used : ℕ) → is_sound ns root free used ≡ true → Whole ns (marks root free used) (spelled ns root)
from_sound ns root free used e = whole_parts ns (marks root free used) (grow (length ns) ns root) (chain right_of (length ns) ns free) refl refl e

pub held_few : (ns : List Branch) (m : Marks) (t : Tree) (out : List ℕ) → Kept ns m t out → length (places t) ≤ length ns
held_few ns m t out k = omega (arith, k.full, k.within)

pub spelled_tree : (ns : List Branch) (o : Option ℕ) (t : Tree) → Held ns o t → length (places t) ≤ length ns → spelled ns o ≡ t
spelled_tree ns o t h few = rw (held_grow ns t (length ns) o h few)

pub spelled_is : (ns : List Branch) (m : Marks) (t : Tree) (out : List ℕ) → Kept ns m t out → spelled ns m.root ≡ t
spelled_is ns m t out k = spelled_tree ns m.root t k.held (held_few ns m t out k)

pub to_sound : (ns : List Branch) (m : Marks) (t : Tree) → Whole ns m t → is_sound ns m.root m.free m.used ≡ true
to_sound ns m t w =
    let k = w.kept in
    let used = m.used in
    let vs = k.spare in
    let each : (v : ℕ) → count v (places t ++ vs) ≤ cap used v = λ v. let a = k.apart v in let b = count_append v (places t) vs in omega arith in
    let len = length-append (places t) vs in
    rw (held_grow ns t (length ns) m.root k.held (held_few ns m t [] k), chained_chain right_of ns vs (length ns) m.free k.chained (omega (arith, k.full, k.within)))
    (and_from (ltb used (suc (length ns))) (shared_out used (places t ++ vs) && (is_trim t && are_patterns (strings t))) (lt-ltb used (suc (length ns)) (omega (arith, k.within)))
    (and_from (shared_out used (places t ++ vs)) (is_trim t && are_patterns (strings t))
    (and_from (all_apart (places t ++ vs)) (all_below used (places t ++ vs) && eqb (length (places t ++ vs)) used) (once_apart used (places t ++ vs) each)
    (and_from (all_below used (places t ++ vs)) (eqb (length (places t ++ vs)) used) (once_below used (places t ++ vs) each) (eq-eqb (length (places t ++ vs)) used (omega (arith, k.full)))))
    (and_from (is_trim t) (are_patterns (strings t)) w.trim w.patterns)))
