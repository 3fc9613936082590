-- Rows of patterns have few nodes: each node is on some row.
use Rattle.std.proofs.Common.{◌≡◌, ℕ, suc, ◌+◌, ◌-◌, ◌*◌, ◌<◌, ◌≤◌, true, false, not, ◌&&◌, leb, List, [], ◌∷◌, ◌++◌, map, length, drop, is_some, Some, None, Option, sym, refl, ap, ◌∙◌, subst, arith, length-append, length-drop}
use Rattle.std.proofs.lemmas.List.{length-map}
use Rattle.std.proofs.lemmas.Bool.{and_parts, true≢false, leb-true}
use Rattle.lists.specs.Members.{In}
use Rattle.terms.specs.Preorder.{decode, all_small}
use Rattle.terms.specs.declared.pattern.Node.{Node}
use Rattle.terms.specs.declared.pattern.Node.TheVariants.{Var, App}
use Rattle.trie.specs.declared.branch.Label.{Label}
use Rattle.trie.specs.declared.branch.Label.TheVariants.{Star, Symbol, Number}
use Rattle.trie.specs.declared.trie.links.Link.{Link}
use Rattle.trie.specs.Trees.{Tree, nil, node, below, strings, places, is_nil, is_number, ends_well, is_trim, nodes_in, fits_pattern, are_patterns}
use Rattle.trie.specs.Ways.{plug, Missing}
use Rattle.trie.specs.Taken.{Lone}
use Rattle.trie.proofs.Counting.{clash}
use Rattle.trie.proofs.Labels.{trim_parts}
use Rattle.trie.proofs.Spelling.{Row}
use Rattle.trie.proofs.Framing.{length_plug}
use Rattle.trie.proofs.Lending.{lone_length}
use Rattle.trie.proofs.Adding.{grown}
use Rattle.trie.proofs.Fitting.{fits_more}

abbrev pub total : List (List Label) → ℕ
total [] = 0
total (s ∷ ss) = length s + total ss

total_append : (xs ys : List (List Label)) → total (xs ++ ys) ≡ total xs + total ys
total_append [] ys = omega arith
total_append (x ∷ xs) ys = omega (arith, total_append xs ys)

total_map : (l : Label) (ss : List (List Label)) → total (map (λ s. l ∷ s) ss) ≡ length ss + total ss
total_map l [] = omega arith
total_map l (s ∷ ss) = omega (arith, total_map l ss)

-- below a node that is no row's end something stands, and a row's end has nothing below it
solid : (l : Label) (d : Tree) → is_number l ≡ false → ends_well l d ≡ true → is_nil d ≡ true → ⊥
solid Star d plain e z = true≢false (sym e ∙ ap not z)
solid (Symbol f a) d plain e z = true≢false (sym e ∙ ap not z)
solid (Number n) d plain e z = true≢false plain

some_row : (t : Tree) → is_trim t ≡ true → (is_nil t ≡ true → ⊥) → 1 ≤ length (strings t)
some_row nil e h = absurd (h refl)
some_row (node v l d r) e h =
    let p = trim_parts v l d r e in
    let len = length-append (below l (strings d)) (strings r) in
    let one = at l p.ends (some_row d p.down) in
    omega arith
  where
    at : (k : Label) → ends_well k d ≡ true → ((is_nil d ≡ true → ⊥) → 1 ≤ length (strings d)) → 1 ≤ length (below k (strings d))
    at Star q f = let m = length-map (strings d) (λ s. Star ∷ s) in let g = f (solid Star d refl q) in omega arith
    at (Symbol x a) q f = let m = length-map (strings d) (λ s. Symbol x a ∷ s) in let g = f (solid (Symbol x a) d refl q) in omega arith
    at (Number n) q f = omega arith

pub weighs : (t : Tree) → is_trim t ≡ true → length (places t) ≤ total (strings t)
weighs nil e = omega arith
weighs (node v l d r) e =
    let p = trim_parts v l d r e in
    let beside = weighs r p.right in
    let len = length-append (places d) (places r) in
    let sum = total_append (below l (strings d)) (strings r) in
    let under = at l p.ends (weighs d p.down) (some_row d p.down) in
    omega arith
  where
    empty : (t : Tree) → is_nil t ≡ true → length (places t) ≡ 0
    empty nil z = refl
    empty (node x k y z) q = absurd (true≢false (sym q))

    at : (k : Label) → ends_well k d ≡ true → length (places d) ≤ total (strings d) → ((is_nil d ≡ true → ⊥) → 1 ≤ length (strings d)) → suc (length (places d)) ≤ total (below k (strings d))
    at Star q w f = let m = total_map Star (strings d) in let g = f (solid Star d refl q) in omega arith
    at (Symbol x a) q w f = let m = total_map (Symbol x a) (strings d) in let g = f (solid (Symbol x a) d refl q) in omega arith
    at (Number n) q w f = let z = empty d q in omega arith

in_length : (s : List Label) (ns : List Node) → nodes_in s ≡ Some ns → length s ≡ suc (length ns)
in_length [] ns e = clash cc
in_length (Star ∷ s) ns e = at (nodes_in s) e (in_length s)
  where
    at : (o : Option (List Node)) → (elim o [ None ↦ None | Some ms ↦ Some (Var 0 ∷ ms) ]) ≡ Some ns → ((ms : List Node) → o ≡ Some ms → length s ≡ suc (length ms)) → length (Star ∷ s) ≡ suc (length ns)
    at None q f = clash cc
    at (Some ms) q f = let g = f ms refl in let z : Var 0 ∷ ms ≡ ns = cc in let y = ap length z in omega arith
in_length (Symbol f a ∷ s) ns e = at (nodes_in s) e (in_length s)
  where
    at : (o : Option (List Node)) → (elim o [ None ↦ None | Some ms ↦ Some (App f a ∷ ms) ]) ≡ Some ns → ((ms : List Node) → o ≡ Some ms → length s ≡ suc (length ms)) → length (Symbol f a ∷ s) ≡ suc (length ns)
    at None q g = clash cc
    at (Some ms) q g = let h = g ms refl in let z : App f a ∷ ms ≡ ns = cc in let y = ap length z in omega arith
in_length (Number n ∷ []) ns e = let z : [] ≡ ns = cc in let y = ap length z in omega arith
in_length (Number n ∷ (l ∷ s)) ns e = clash cc

fits_short : (s : List Label) → fits_pattern (nodes_in s) ≡ true → length s ≤ 33
fits_short s e = at (nodes_in s) refl e
  where
    at : (o : Option (List Node)) → nodes_in s ≡ o → fits_pattern o ≡ true → length s ≤ 33
    at None q h = absurd (true≢false (sym h))
    at (Some ns) q h =
        let p = and_parts (leb (length ns) 32) (is_some (decode ns) && all_small ns) h in let few = leb-true (length ns) 32 p.0 in let len = in_length s ns q in omega arith

pub total_most : (xs : List (List Label)) → are_patterns xs ≡ true → total xs ≤ 33 * length xs
total_most [] e = omega arith
total_most (x ∷ xs) e =
    let p = and_parts (fits_pattern (nodes_in x)) (are_patterns xs) e in let a = fits_short x p.0 in let b = total_most xs p.1 in omega arith

-- the labels as nodes, at no place
stem : List Label → Tree
stem [] = nil
stem (k ∷ u) = node 0 k (stem u) nil

stem_lone : (u : List Label) → Lone u (stem u)
unfolding stem
stem_lone [] = refl
stem_lone (k ∷ u) = (refl, refl, stem_lone u)

-- a row that is missing is not among the tree's
pub missing_out : (t : Tree) (s : List Label) (link : Link) (at : ℕ) → Missing t s link at → Row s → In s (strings t) → ⊥
missing_out t s link at m row h = (grown m.way (drop at s) s (stem (drop at s)) m.along row (stem_lone (drop at s))).more.out (subst (λ x. In s (strings x)) (sym m.is) h)

-- a pool for 64 rows has room for it
pub room_for : (t : Tree) (s : List Label) (link : Link) (at : ℕ) → Missing t s link at → Row s → fits_pattern (nodes_in s) ≡ true → is_trim t ≡ true → are_patterns (strings t) ≡ true → length (strings t) < 64
    → length (places t) + (length s - at) ≤ 2112
room_for t s link at m row fits trim patterns few =
    let u = drop at s in
    let w = m.way in
    let g = grown w u s (stem u) m.along row (stem_lone u) in
    let old : is_trim (plug w nil) ≡ true = subst (λ x. is_trim x ≡ true) (sym m.is) trim in
    let pats : are_patterns (strings (plug w nil)) ≡ true = subst (λ x. are_patterns (strings x) ≡ true) (sym m.is) patterns in
    let heavy = weighs (plug w (stem u)) (g.trim old) in
    let most = total_most (strings (plug w (stem u))) (fits_more s (strings (plug w nil)) (strings (plug w (stem u))) g.more fits pats) in
    let more = g.more.more in
    let few' : length (strings (plug w nil)) < 64 = subst (λ x. length (strings x) < 64) (sym m.is) few in
    let size = length_plug w (stem u) in
    let size' = length_plug w nil in
    let long = lone_length u (stem u) (stem_lone u) in
    let cut = length-drop at s in
    let same = ap (λ x. length (places x)) m.is in
    omega arith
