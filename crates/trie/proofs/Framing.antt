-- A write to the pool leaves what does not stand at its place.
use Rattle.std.proofs.Common.{◌≡◌, ℕ, ◌+◌, ◌≢◌, List, [], ◌∷◌, ◌++◌, length, get_or, set, Option, sym, ap, ◌∙◌, subst, arith, length-append, length-set, get_or-set_other}
use Rattle.trie.specs.declared.branch.Branch.{Branch}
use Rattle.trie.specs.Trees.{Tree, nil, node, blank, places}
use Rattle.trie.specs.Pools.{Held, Chained}
use Rattle.trie.specs.Ways.{Way, here, down, right, plug, link_of, reads, Inside}
use Rattle.trie.specs.Taken.{count, hit}
use Rattle.trie.proofs.Counting.{miss, count_append}

-- the node at another place
pub other : (ns : List Branch) (v w : ℕ) (b : Branch) → hit v w ≡ 0 → get_or (set ns v b) w blank ≡ get_or ns w blank
other ns v w b z = let ne : w ≢ v = λ e. miss v w z (sym e) in get_or-set_other ns v w b blank ne

pub frame : (ns : List Branch) (v : ℕ) (b : Branch) (t : Tree) (o : Option ℕ) → Held ns o t → count v (places t) ≡ 0 → Held (set ns v b) o t
frame ns v b nil o h z = h
frame ns v b (node w l d r) o h z =
    let a = count_append v (places d) (places r) in
    let e = other ns v w b (omega arith) in
    let len = length-set ns v b in (
      h.0,
      omega (arith, h.1),
      ap (λ x. x.label) e ∙ h.2,
      subst (λ (x : Branch). Held (set ns v b) x.down d) (sym e) (frame ns v b d (get_or ns w blank).down h.3 (omega arith)),
      subst (λ (x : Branch). Held (set ns v b) x.right r) (sym e) (frame ns v b r (get_or ns w blank).right h.4 (omega arith)),
    )

pub frame_chain : (next : Branch → Option ℕ) (ns : List Branch) (v : ℕ) (b : Branch) (vs : List ℕ) (o : Option ℕ) → Chained next ns o vs → count v vs ≡ 0 → Chained next (set ns v b) o vs
frame_chain next ns v b [] o h z = h
frame_chain next ns v b (w ∷ vs) o h z =
    let e = other ns v w b (omega arith) in
    let len = length-set ns v b in
    (h.0, omega (arith, h.1), subst (λ x. Chained next (set ns v b) (next x) vs) (sym e) (frame_chain next ns v b vs (next (get_or ns w blank)) h.2 (omega arith)))

-- the places around a place in the tree
abbrev pub around : Way → List ℕ
around here = []
around (down v l r w) = v ∷ (places r ++ around w)
around (right v l d w) = v ∷ (places d ++ around w)

pub count_plug : (x : ℕ) (w : Way) (t : Tree) → count x (places (plug w t)) ≡ count x (around w) + count x (places t)
count_plug x here t = omega arith
count_plug x (down v l r w) t =
    let a = count_plug x w (node v l t r) in let b = count_append x (places t) (places r) in let c = count_append x (places r) (around w) in omega arith
count_plug x (right v l d w) t =
    let a = count_plug x w (node v l d t) in let b = count_append x (places d) (places t) in let c = count_append x (places d) (around w) in omega arith

pub length_plug : (w : Way) (t : Tree) → length (places (plug w t)) ≡ length (around w) + length (places t)
length_plug here t = omega arith
length_plug (down v l r w) t =
    let a = length_plug w (node v l t r) in let b = length-append (places t) (places r) in let c = length-append (places r) (around w) in omega arith
length_plug (right v l d w) t =
    let a = length_plug w (node v l d t) in let b = length-append (places d) (places t) in let c = length-append (places d) (around w) in omega arith

-- what stands at the place is held there
pub unplug : (ns : List Branch) (root : Option ℕ) (w : Way) (t : Tree) → Held ns root (plug w t) → Held ns (reads ns root (link_of w)) t
unplug ns root here t h = h
unplug ns root (down v l r w) t h = (unplug ns root w (node v l t r) h).3
unplug ns root (right v l d w) t h = (unplug ns root w (node v l d t) h).4

pub inside : (ns : List Branch) (root : Option ℕ) (w : Way) (t : Tree) → Held ns root (plug w t) → Inside (length ns) (link_of w)
inside ns root here t h = tt
inside ns root (down v l r w) t h = (unplug ns root w (node v l t r) h).1
inside ns root (right v l d w) t h = (unplug ns root w (node v l d t) h).1

-- another tree at the place
pub replug : (ns : List Branch) (v : ℕ) (b : Branch) (w : Way) (t t' : Tree) → count v (around w) ≡ 0
    → ((o : Option ℕ) → Held ns o t → Held (set ns v b) o t') → (o : Option ℕ) → Held ns o (plug w t) → Held (set ns v b) o (plug w t')
replug ns v b here t t' z f o h = f o h
replug ns v b (down u l r w) t t' z f o h =
    let a = count_append v (places r) (around w) in
    let e = other ns v u b (omega arith) in
    let len = length-set ns v b in
    replug ns v b w (node u l t r) (node u l t' r) (omega arith)
    (λ p g. (
      g.0,
      omega (arith, g.1),
      ap (λ x. x.label) e ∙ g.2,
      subst (λ (x : Branch). Held (set ns v b) x.down t') (sym e) (f (get_or ns u blank).down g.3),
      subst (λ (x : Branch). Held (set ns v b) x.right r) (sym e) (frame ns v b r (get_or ns u blank).right g.4 (omega arith)),
    )) o h
replug ns v b (right u l d w) t t' z f o h =
    let a = count_append v (places d) (around w) in
    let e = other ns v u b (omega arith) in
    let len = length-set ns v b in
    replug ns v b w (node u l d t) (node u l d t') (omega arith)
    (λ p g. (
      g.0,
      omega (arith, g.1),
      ap (λ x. x.label) e ∙ g.2,
      subst (λ (x : Branch). Held (set ns v b) x.down d) (sym e) (frame ns v b d (get_or ns u blank).down g.3 (omega arith)),
      subst (λ (x : Branch). Held (set ns v b) x.right t') (sym e) (f (get_or ns u blank).right g.4),
    )) o h
