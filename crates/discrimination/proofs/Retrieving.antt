-- The walk finds exactly the numbers of the rows that the terms fit.
use Rattle.std.proofs.Common.{◌≡◌, ℕ, ◌≤◌, Bool, true, false, cond, ◌&&◌, eqb, List, [], ◌∷◌, ◌++◌, length, Some, None, Option, sym, refl, ap, ◌∙◌, subst, inl, inr, ⊎_elim, arith, length-append}
use Rattle.std.proofs.lemmas.List.{length-map}
use Rattle.std.proofs.lemmas.Bool.{and_parts, and_from, eqb-true, eq-eqb, true≢false}
use Rattle.lists.specs.Members.{In, Once}
use Rattle.lists.proofs.Members.{in_left, in_right, in_parts, from_map, once_append, once_apart}
use Rattle.terms.specs.Term.{Terms, var, app, nil, ◌▹◌, width}
use Rattle.terms.specs.declared.pattern.Node.{Node}
use Rattle.terms.specs.declared.pattern.Node.TheVariants.{Var, App}
use Rattle.linear.specs.Loose.{FitsRow, joined}
use Rattle.trie.specs.declared.branch.Label.{Label}
use Rattle.trie.specs.declared.branch.Label.TheVariants.{Star, Symbol, Number}
use Rattle.trie.specs.Trees.{Tree, nil as leaf, node, strings, below, is_number, is_trim, nodes_in}
use Rattle.trie.specs.Contents.{label_of}
use Rattle.trie.proofs.Labels.{strings_once, trim_parts}
use Rattle.discrimination.specs.Retrieval.{after, ended, walked, spelling, Numbered}
use Rattle.discrimination.proofs.Spelling.{none_some}
use Rattle.discrimination.proofs.Parts.{in_below}

clash : {A : Type 0} → ◌≡◌ {A = ℕ} 0 1 → A
clash e = absurd (let z : ⊥ = omega arith in z)

-- what the walk finds below a node
abbrev onward : Tree → Option Terms → List ℕ
onward d None = []
onward d (Some us) = walked d us

walked_node : (v : ℕ) (l : Label) (d r : Tree) (ts : Terms) → walked (node v l d r) ts ≡ (ended l ts ++ onward d (after l ts)) ++ walked r ts
walked_node v l d r ts =
    elim (after l ts) as (λ o. (ended l ts ++ elim o [ None ↦ [] | Some us ↦ walked d us ]) ++ walked r ts ≡ (ended l ts ++ onward d o) ++ walked r ts) [ None ↦ refl | Some us ↦ refl ]

-- the node of a label, a variable for a star
abbrev node_of : Label → Node
node_of Star = Var 0
node_of (Symbol f a) = App f a
node_of (Number n) = Var 0

-- a row that spells the nodes ns and the number n, and that the terms fit
pub record Row (ss : List (List Label)) (ts : Terms) (n : ℕ) : Type 0 where
  pub nodes : List Node
  pub member : In (spelling nodes n) ss
  pub spells : nodes_in (spelling nodes n) ≡ Some nodes
  pub fits : FitsRow nodes ts

fits_after : (l : Label) (ts us : Terms) (ns : List Node) → after l ts ≡ Some us → FitsRow ns us → FitsRow (node_of l ∷ ns) ts
fits_after (Number n) ts us ns e h = absurd (none_some e)
fits_after Star nil us ns e h = absurd (none_some e)
fits_after Star (t ▹ ts) us ns e h = let z : ts ≡ us = cc in subst (FitsRow ns) (sym z) h
fits_after (Symbol f a) nil us ns e h = absurd (none_some e)
fits_after (Symbol f a) (var x ▹ ts) us ns e h = absurd (none_some e)
fits_after (Symbol f a) (app g vs ▹ ts) us ns e h = chosen (eqb f g && eqb a (width vs)) refl e
  where
    chosen : (c : Bool) → (eqb f g && eqb a (width vs)) ≡ c → cond c (Some (joined vs ts)) None ≡ Some us → FitsRow (App f a ∷ ns) (app g vs ▹ ts)
    chosen true q e =
        let p = and_parts (eqb f g) (eqb a (width vs)) q in
        let z : joined vs ts ≡ us = cc in
        (eqb-true f g p.0, eqb-true a (width vs) p.1, subst (FitsRow ns) (sym z) h)
    chosen false q e = absurd (none_some e)

after_number : (l : Label) (ts us : Terms) → after l ts ≡ Some us → is_number l ≡ false
after_number Star ts us e = refl
after_number (Symbol f a) ts us e = refl
after_number (Number n) ts us e = absurd (none_some e)

label_node : (l : Label) → is_number l ≡ false → label_of (node_of l) ≡ l
label_node Star e = refl
label_node (Symbol f a) e = refl
label_node (Number n) e = absurd (true≢false e)

nodes_more : (l : Label) (s : List Label) (ns : List Node) → is_number l ≡ false → nodes_in s ≡ Some ns → nodes_in (l ∷ s) ≡ Some (node_of l ∷ ns)
nodes_more Star s ns e h = rw h
nodes_more (Symbol f a) s ns e h = rw h
nodes_more (Number n) s ns e h = absurd (true≢false e)

row_below : (l : Label) (ss : List (List Label)) (ts us : Terms) (n : ℕ) → after l ts ≡ Some us → Row ss us n → Row (below l ss) ts n
row_below l ss ts us n e w =
    let plain = after_number l ts us e in
    let s = spelling w.nodes n in
    let same : l ∷ s ≡ spelling (node_of l ∷ w.nodes) n = ap (λ k. k ∷ s) (sym (label_node l plain)) in
    record {
      nodes = node_of l ∷ w.nodes;
      member = subst (λ u. In u (below l ss)) same (in_below l s ss plain w.member);
      spells = ap nodes_in (sym same) ∙ nodes_more l s w.nodes plain w.spells;
      fits = fits_after l ts us w.nodes e w.fits;
    }

row_ended : (l : Label) (ss : List (List Label)) (ts : Terms) (n : ℕ) → In n (ended l ts) → Row (below l ss) ts n
row_ended Star ss ts n h = absurd h
row_ended (Symbol f a) ss ts n h = absurd h
row_ended (Number m) ss nil n (inl e) = record { nodes = []; member = inl (ap (λ k. Number k ∷ []) e); spells = refl; fits = tt }
row_ended (Number m) ss nil n (inr h) = absurd h
row_ended (Number m) ss (t ▹ ts) n h = absurd h

row_left : (ss us : List (List Label)) {ts : Terms} {n : ℕ} → Row ss ts n → Row (ss ++ us) ts n
row_left ss us w = record { nodes = w.nodes; member = in_left _ ss us w.member; spells = w.spells; fits = w.fits }

row_right : (ss us : List (List Label)) {ts : Terms} {n : ℕ} → Row us ts n → Row (ss ++ us) ts n
row_right ss us w = record { nodes = w.nodes; member = in_right _ ss us w.member; spells = w.spells; fits = w.fits }

row_onward : (l : Label) (d : Tree) (ts : Terms) (n : ℕ) (o : Option Terms) → after l ts ≡ o → ((us : Terms) → In n (walked d us) → Row (strings d) us n)
    → In n (onward d o) → Row (below l (strings d)) ts n
row_onward l d ts n None e h i = absurd i
row_onward l d ts n (Some us) e h i = row_below l (strings d) ts us n e (h us i)

row_here : (l : Label) (d : Tree) (ts : Terms) (n : ℕ) → ((us : Terms) → In n (walked d us) → Row (strings d) us n)
    → In n (ended l ts ++ onward d (after l ts)) → Row (below l (strings d)) ts n
row_here l d ts n h i =
    ⊎_elim (row_ended l (strings d) ts n) (row_onward l d ts n (after l ts) refl h) (in_parts n (ended l ts) (onward d (after l ts)) i)

pub sound : (T : Tree) (ts : Terms) (n : ℕ) → In n (walked T ts) → Row (strings T) ts n
sound leaf ts n h = absurd h
sound (node v l d r) ts n h =
    ⊎_elim
    (λ i. row_left (below l (strings d)) (strings r) (row_here l d ts n (λ us. sound d us n) i))
    (λ i. row_right (below l (strings d)) (strings r) (sound r ts n i))
    (in_parts n (ended l ts ++ onward d (after l ts)) (walked r ts) (subst (In n) (walked_node v l d r ts) h))

-- a row that the terms fit is found
found_below : (l : Label) (d : Tree) (ts : Terms) (n : ℕ) (ns : List Node)
    → ((us : Terms) (ms : List Node) → In (spelling ms n) (strings d) → FitsRow ms us → In n (walked d us))
    → In (spelling ns n) (below l (strings d)) → FitsRow ns ts → In n (ended l ts ++ onward d (after l ts))
found_below Star d ts n [] go h f = let r = from_map (λ s. Star ∷ s) (spelling [] n) (strings d) h in let q = r.is in clash cc
found_below Star d nil n (k ∷ ns) go h f = absurd f
found_below Star d (t ▹ ts) n (Var x ∷ ns) go h f =
    let r = from_map (λ s. Star ∷ s) (spelling (Var x ∷ ns) n) (strings d) h in
    let q : spelling ns n ≡ r.of = let e = r.is in cc in
    go ts ns (subst (λ s. In s (strings d)) (sym q) r.member) f
found_below Star d (t ▹ ts) n (App f a ∷ ns) go h k = let r = from_map (λ s. Star ∷ s) (spelling (App f a ∷ ns) n) (strings d) h in let q = r.is in clash cc
found_below (Symbol f a) d ts n [] go h k = let r = from_map (λ s. Symbol f a ∷ s) (spelling [] n) (strings d) h in let q = r.is in clash cc
found_below (Symbol f a) d nil n (k ∷ ns) go h j = absurd j
found_below (Symbol f a) d (t ▹ ts) n (Var x ∷ ns) go h k = let r = from_map (λ s. Symbol f a ∷ s) (spelling (Var x ∷ ns) n) (strings d) h in let q = r.is in clash cc
found_below (Symbol f a) d (var y ▹ ts) n (App g b ∷ ns) go h k = absurd k
found_below (Symbol f a) d (app g us ▹ ts) n (App k b ∷ ns) go h w =
    let r = from_map (λ s. Symbol f a ∷ s) (spelling (App k b ∷ ns) n) (strings d) h in
    let e = r.is in
    let q : spelling ns n ≡ r.of = cc in
    let p : f ≡ g = let z : f ≡ k = cc in z ∙ w.0 in
    let s : a ≡ width us = let z : a ≡ b = cc in z ∙ w.1 in
    let yes : (eqb f g && eqb a (width us)) ≡ true = and_from (eqb f g) (eqb a (width us)) (eq-eqb f g p) (eq-eqb a (width us) s) in
    subst (λ c. In n (onward d (cond c (Some (joined us ts)) None))) (sym yes) (go (joined us ts) ns (subst (λ s. In s (strings d)) (sym q) r.member) w.2)
found_below (Number m) d nil n [] go (inl e) f = let z : n ≡ m = cc in inl z
found_below (Number m) d nil n [] go (inr h) f = absurd h
found_below (Number m) d (t ▹ ts) n [] go h f = absurd f
found_below (Number m) d ts n (Var x ∷ ns) go (inl e) f = clash cc
found_below (Number m) d ts n (Var x ∷ ns) go (inr h) f = absurd h
found_below (Number m) d ts n (App g b ∷ ns) go (inl e) f = clash cc
found_below (Number m) d ts n (App g b ∷ ns) go (inr h) f = absurd h

pub complete : (T : Tree) (ts : Terms) (n : ℕ) (ns : List Node) → In (spelling ns n) (strings T) → FitsRow ns ts → In n (walked T ts)
complete leaf ts n ns h f = absurd h
complete (node v l d r) ts n ns h f =
    subst (In n) (sym (walked_node v l d r ts))
    (⊎_elim
    (λ i. in_left n (ended l ts ++ onward d (after l ts)) (walked r ts) (found_below l d ts n ns (λ us ms. complete d us n ms) i f))
    (λ i. in_right n (ended l ts ++ onward d (after l ts)) (walked r ts) (complete r ts n ns i f))
    (in_parts (spelling ns n) (below l (strings d)) (strings r) h))

-- no more numbers than rows
few_onward : (d : Tree) (o : Option Terms) → ((us : Terms) → length (walked d us) ≤ length (strings d)) → length (onward d o) ≤ length (strings d)
few_onward d None h = omega arith
few_onward d (Some us) h = h us

few_here : (l : Label) (d : Tree) (ts : Terms) → ((us : Terms) → length (walked d us) ≤ length (strings d)) → length (ended l ts ++ onward d (after l ts)) ≤ length (below l (strings d))
few_here Star d ts h = let k = few_onward d (after Star ts) h in omega (arith, length-map (strings d) (λ s. Star ∷ s))
few_here (Symbol f a) d ts h = let k = few_onward d (after (Symbol f a) ts) h in omega (arith, length-map (strings d) (λ s. Symbol f a ∷ s))
few_here (Number n) d nil h = omega arith
few_here (Number n) d (t ▹ ts) h = omega arith

pub few : (T : Tree) (ts : Terms) → length (walked T ts) ≤ length (strings T)
few leaf ts = omega arith
few (node v l d r) ts =
    let here = ended l ts ++ onward d (after l ts) in
    let a = few_here l d ts (few d) in
    let b = few r ts in
    omega (arith, ap length (walked_node v l d r ts), length-append here (walked r ts), length-append (below l (strings d)) (strings r))

-- where no two rows have one number, none is found twice
numbered_below : (l : Label) (ss : List (List Label)) → is_number l ≡ false → Numbered (below l ss) → Numbered ss
numbered_below l ss e h n ns ms i j =
    let label = label_node l e in
    let into : (ks : List Node) → In (spelling ks n) ss → In (spelling (node_of l ∷ ks) n) (below l ss) = λ ks k. subst (λ u. In (u ∷ spelling ks n) (below l ss)) (sym label) (in_below l (spelling ks n) ss e k) in
    let same = h n (node_of l ∷ ns) (node_of l ∷ ms) (into ns i) (into ms j) in
    cc

once_onward : (d : Tree) (o : Option Terms) → ((us : Terms) → Once (walked d us)) → Once (onward d o)
once_onward d None h = tt
once_onward d (Some us) h = h us

once_here : (l : Label) (d : Tree) (ts : Terms) → Numbered (below l (strings d)) → (Numbered (strings d) → (us : Terms) → Once (walked d us)) → Once (ended l ts ++ onward d (after l ts))
once_here Star d ts n h = once_onward d (after Star ts) (h (numbered_below Star (strings d) refl n))
once_here (Symbol f a) d ts n h = once_onward d (after (Symbol f a) ts) (h (numbered_below (Symbol f a) (strings d) refl n))
once_here (Number m) d nil n h = (λ z. z, tt)
once_here (Number m) d (t ▹ ts) n h = tt

pub once : (T : Tree) (ts : Terms) → is_trim T ≡ true → Numbered (strings T) → Once (walked T ts)
once leaf ts trim numbered = tt
once (node v l d r) ts trim numbered =
    let p = trim_parts v l d r trim in
    let here = below l (strings d) in
    let left : Numbered here = λ n ns ms i j. numbered n ns ms (in_left (spelling ns n) here (strings r) i) (in_left (spelling ms n) here (strings r) j) in
    let right : Numbered (strings r) = λ n ns ms i j. numbered n ns ms (in_right (spelling ns n) here (strings r) i) (in_right (spelling ms n) here (strings r) j) in
    subst Once (sym (walked_node v l d r ts))
    (once_append (ended l ts ++ onward d (after l ts)) (walked r ts) (once_here l d ts left (λ h us. once d us p.down h)) (once r ts p.right right) (λ x i k.
    let w = row_here l d ts x (λ us. sound d us x) i in
    let u = sound r ts x k in
    let same = numbered x w.nodes u.nodes (in_left (spelling w.nodes x) here (strings r) w.member) (in_right (spelling u.nodes x) here (strings r) u.member) in
    once_apart here (strings r) (strings_once (node v l d r) trim) (spelling w.nodes x) w.member (subst (λ s. In (s ++ (Number x ∷ [])) (strings r)) (sym same) u.member)))
