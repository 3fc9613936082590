-- Rows by their first labels.
use Rattle.std.proofs.Common.{◌≡◌, ℕ, Bool, true, false, not, ◌&&◌, eqb, List, [], ◌∷◌, sym, refl, ap, ◌∙◌, subst, inl, inr, ⊎_elim}
use Rattle.std.proofs.lemmas.Bool.{eqb-true, eq-eqb, and_parts, and_from, true≢false, not-true}
use Rattle.lists.specs.Members.{In, Once}
use Rattle.lists.proofs.Members.{in_parts, from_map, once_append, once_map}
use Rattle.trie.specs.declared.branch.Label.{Label}
use Rattle.trie.specs.declared.branch.Label.TheVariants.{Star, Symbol, Number}
use Rattle.trie.specs.Trees.{Tree, nil, node, below, strings, heads, same_label, none_same, ends_well, is_trim}

pub same_self : (l : Label) → same_label l l ≡ true
same_self Star = refl
same_self (Symbol f a) = and_from (eqb f f) (eqb a a) (eq-eqb f f refl) (eq-eqb a a refl)
same_self (Number n) = eq-eqb n n refl

pub same_is : (k l : Label) → same_label k l ≡ true → k ≡ l
same_is Star Star e = refl
same_is Star (Symbol g b) e = absurd (true≢false (sym e))
same_is Star (Number m) e = absurd (true≢false (sym e))
same_is (Symbol f a) Star e = absurd (true≢false (sym e))
same_is (Symbol f a) (Symbol g b) e =
    let p = and_parts (eqb f g) (eqb a b) e in let x = eqb-true f g p.0 in let y = eqb-true a b p.1 in cc
same_is (Symbol f a) (Number m) e = absurd (true≢false (sym e))
same_is (Number n) Star e = absurd (true≢false (sym e))
same_is (Number n) (Symbol g b) e = absurd (true≢false (sym e))
same_is (Number n) (Number m) e = ap Number (eqb-true n m e)

pub differ : (k l : Label) → same_label k l ≡ false → k ≡ l → ⊥
differ k l e is = true≢false (sym (same_self k) ∙ ap (same_label k) is ∙ e)

pub apart_sym : (k l : Label) → same_label k l ≡ false → same_label l k ≡ false
apart_sym k l e = sides (same_label l k) refl
  where
    sides : (b : Bool) → same_label l k ≡ b → same_label l k ≡ false
    sides true h = absurd (differ k l e (sym (same_is l k h)))
    sides false h = h

-- a row begins with its node's label
pub begins : (l : Label) (ss : List (List Label)) (s : List Label) → In s (below l ss) → (u : List Label) × (s ≡ l ∷ u)
begins Star ss s h = let r = from_map (λ u. Star ∷ u) s ss h in (r.of, r.is)
begins (Symbol f a) ss s h = let r = from_map (λ u. Symbol f a ∷ u) s ss h in (r.of, r.is)
begins (Number n) ss s (inl e) = ([], e)
begins (Number n) ss s (inr h) = absurd h

pub other_label : (k l : Label) (ss : List (List Label)) (s : List Label) → same_label k l ≡ false → In (k ∷ s) (below l ss) → ⊥
other_label k l ss s e h = let b = begins l ss (k ∷ s) h in let q = b.1 in differ k l e cc

pub no_row : (l : Label) (t : Tree) (s : List Label) → none_same l (heads t) ≡ true → In (l ∷ s) (strings t) → ⊥
no_row l nil s e h = h
no_row l (node v k d r) s e h =
    let p = and_parts (not (same_label l k)) (none_same l (heads r)) e in
    ⊎_elim (other_label l k (strings d) s (not-true (same_label l k) p.0)) (no_row l r s p.1) (in_parts (l ∷ s) (below k (strings d)) (strings r) h)

below_once : (l : Label) (ss : List (List Label)) → Once ss → Once (below l ss)
below_once Star ss h = once_map (λ u. Star ∷ u) (λ x y e. cc) ss h
below_once (Symbol f a) ss h = once_map (λ u. Symbol f a ∷ u) (λ x y e. cc) ss h
below_once (Number n) ss h = (λ z. z, tt)

pub record Trim (l : Label) (d r : Tree) : Type 0 where
  pub ends : ends_well l d ≡ true
  pub none : none_same l (heads r) ≡ true
  pub down : is_trim d ≡ true
  pub right : is_trim r ≡ true

pub trim_parts : (v : ℕ) (l : Label) (d r : Tree) → is_trim (node v l d r) ≡ true → Trim l d r
trim_parts v l d r e =
    let p = and_parts (ends_well l d) (none_same l (heads r) && (is_trim d && is_trim r)) e in
    let q = and_parts (none_same l (heads r)) (is_trim d && is_trim r) p.1 in
    let s = and_parts (is_trim d) (is_trim r) q.1 in
    record { ends = p.0; none = q.0; down = s.0; right = s.1 }

pub trim_from : (v : ℕ) (l : Label) (d r : Tree) → Trim l d r → is_trim (node v l d r) ≡ true
trim_from v l d r t =
    and_from (ends_well l d) (none_same l (heads r) && (is_trim d && is_trim r)) t.ends
    (and_from (none_same l (heads r)) (is_trim d && is_trim r) t.none (and_from (is_trim d) (is_trim r) t.down t.right))

-- no row stands twice
pub strings_once : (t : Tree) → is_trim t ≡ true → Once (strings t)
strings_once nil e = tt
strings_once (node v l d r) e =
    let p = trim_parts v l d r e in
    once_append (below l (strings d)) (strings r) (below_once l (strings d) (strings_once d p.down)) (strings_once r p.right)
    (λ s h k. let b = begins l (strings d) s h in no_row l r b.0 p.none (subst (λ z. In z (strings r)) b.1 k))
