-- What a list of entries has under a number.
use Rattle.std.proofs.Common.{◌≡◌, ℕ, zero, suc, ◌<◌, true, false, cond, eqb, ◌⊎◌, List, [], ◌∷◌, ◌++◌, length, get_or, is_some, Some, None, Option, MatchOption, sym, refl, ap, ◌∙◌, subst, inl, inr, arith}
use Rattle.std.proofs.lemmas.Bool.{cases_eq, eq-eqb, ne_eqb, false≢true}
use Rattle.std.specs.List.{AllWithin, HoldsAt}
use Rattle.lists.specs.Members.{In, Once}
use Rattle.lists.proofs.Members.{in_map, from_map}
use Rattle.terms.specs.declared.pattern.Pattern.{Pattern}
use Rattle.index.specs.Maps.{Same, put, without}
use Rattle.entries.specs.Lookup.{numbers, lookup, Placed}
use Rattle.entries.specs.declared.Entry.{Entry}

none_some : {X : Type 0} {x : X} → None ≡ Some x → ⊥
none_some e = let z : ◌≡◌ {A = ℕ} 0 1 = cc in omega arith

here : (e : Entry) (es : List Entry) (n : ℕ) → n ≡ e.number → lookup (e ∷ es) n ≡ Some e.pattern
here e es n h = rw (eq-eqb n e.number h)

there : (e : Entry) (es : List Entry) (n : ℕ) → (n ≡ e.number → ⊥) → lookup (e ∷ es) n ≡ lookup es n
there e es n h = rw (ne_eqb n e.number h)

-- the first entry with the number, or none
no_entry : (es : List Entry) (n : ℕ) → AllWithin (λ e. e.number ≡ n → ⊥) es 0 (length es) → lookup es n ≡ None
no_entry [] n h = refl
no_entry (e ∷ es) n h = there e es n (λ q. h 0 e (omega arith) (omega arith) (sym q)) ∙ no_entry es n (λ k d _ l. h (suc k) d (omega arith) (omega arith))

first_entry : (es : List Entry) (n i : ℕ) (d : Entry) → i < length es → (get_or es i d).number ≡ n → AllWithin (λ e. e.number ≡ n → ⊥) es 0 i → lookup es n ≡ Some (get_or es i d).pattern
first_entry [] n i d l q h = absurd (let z : ⊥ = omega arith in z)
first_entry (e ∷ es) n zero d l q h = here e es n (sym q)
first_entry (e ∷ es) n (suc i) d l q h =
    there e es n (λ z. h 0 e (omega arith) (omega arith) (sym z)) ∙ first_entry es n i d (omega arith) q (λ k x _ m. h (suc k) x (omega arith) (omega arith))

pub placed : (es : List Entry) (n : ℕ) (o : Option ℕ) → MatchOption o (AllWithin (λ e. e.number ≡ n → ⊥) es 0 (length es)) (λ i. (i < length es) × HoldsAt (λ e. e.number ≡ n) es i × AllWithin (λ e. e.number ≡ n → ⊥) es 0 i)
    → Placed es n o
placed es n None h = no_entry es n h
placed es n (Some i) h = (h.0, λ d. (h.1 d, first_entry es n i d h.0 (h.1 d) h.2))

pub in_numbers : (es : List Entry) (n : ℕ) → is_some (lookup es n) ≡ true → In n (numbers es)
in_numbers [] n h = absurd (false≢true h)
in_numbers (e ∷ es) n h = elim (cases_eq n e.number) [ inl q ↦ inl q | inr q ↦ inr (in_numbers es n (sym (ap is_some (there e es n q)) ∙ h)) ]

pub numbers_in : (es : List Entry) (n : ℕ) → In n (numbers es) → is_some (lookup es n) ≡ true
numbers_in [] n h = absurd h
numbers_in (e ∷ es) n (inl q) = ap is_some (here e es n q)
numbers_in (e ∷ es) n (inr h) = elim (cases_eq n e.number) [ inl q ↦ ap is_some (here e es n q) | inr q ↦ ap is_some (there e es n q) ∙ numbers_in es n h ]

none_not : (o : Option Pattern) → o ≡ None → is_some o ≡ true → ⊥
none_not o e h = false≢true (sym (ap is_some e) ∙ h)

none_from : (o : Option Pattern) → (is_some o ≡ true → ⊥) → o ≡ None
none_from None h = refl
none_from (Some p) h = absurd (h refl)

pub absent : (es : List Entry) (n : ℕ) → (In n (numbers es) → ⊥) → lookup es n ≡ None
absent es n h = none_from (lookup es n) (λ k. h (in_numbers es n k))

pub not_in : (es : List Entry) (n : ℕ) → lookup es n ≡ None → In n (numbers es) → ⊥
not_in es n e h = none_not (lookup es n) e (numbers_in es n h)

pub placed_some : (es : List Entry) (n : ℕ) (o : Option ℕ) → Placed es n o → is_some o ≡ true → is_some (lookup es n) ≡ true
placed_some es n None p h = absurd (false≢true h)
placed_some (e ∷ es) n (Some i) p h = ap is_some (p.1 e).1
placed_some [] n (Some i) p h = absurd (let z : ⊥ = omega (arith, p.0) in z)

pub placed_none : (es : List Entry) (n : ℕ) (o : Option ℕ) → Placed es n o → is_some o ≡ false → lookup es n ≡ None
placed_none es n None p h = p
placed_none es n (Some i) p h = absurd (false≢true (sym h))

-- distinct numbers have the patterns beside them
pub listed : (es : List Entry) (e : Entry) → Once (numbers es) → In e es → lookup es e.number ≡ Some e.pattern
listed [] e o h = absurd h
listed (x ∷ es) e o (inl q) = here x es e.number (ap (λ y. y.number) q) ∙ sym (ap (λ y. Some y.pattern) q)
listed (x ∷ es) e o (inr h) =
    let member = in_map (λ y. y.number) e es h in
    there x es e.number (λ q. o.0 (subst (λ n. In n (numbers es)) q member)) ∙ listed es e o.1 h

record Beside (es : List Entry) (n : ℕ) (p : Pattern) : Type 0 where
  of : Entry
  member : In of es
  number : of.number ≡ n
  pattern : of.pattern ≡ p

beside : (es : List Entry) (n : ℕ) (p : Pattern) → lookup es n ≡ Some p → Beside es n p
beside [] n p h = absurd (none_some h)
beside (e ∷ es) n p h = elim (cases_eq n e.number) [
  | inl q ↦ let k : Some e.pattern ≡ Some p = sym (here e es n q) ∙ h in record { of = e; member = inl refl; number = sym q; pattern = cc }
  | inr q ↦ let r = beside es n p (sym (there e es n q) ∙ h) in record { of = r.of; member = inr r.member; number = r.number; pattern = r.pattern }
]

pub lookup_push : (es : List Entry) (e : Entry) → lookup es e.number ≡ None → Same (put (lookup es) e.number e.pattern) (lookup (es ++ e ∷ []))
lookup_push [] e h k = refl
lookup_push (x ∷ es) e h k = elim (cases_eq k x.number) [
  | inl q ↦
      let n : k ≡ e.number → ⊥ = λ z. none_some (sym h ∙ here x es e.number (sym z ∙ q)) in
      here x (es ++ e ∷ []) k q ∙ sym (rw (ne_eqb k e.number n) (here x es k q))
  | inr q ↦
      let rest = lookup_push es e (none_from (lookup es e.number) (λ s. not_in (x ∷ es) e.number h (inr (in_numbers es e.number s)))) k in
      there x (es ++ e ∷ []) k q ∙ rest ∙ ap (cond (eqb k e.number) (Some e.pattern)) (sym (there x es k q))
]

-- a list that has lost the entry of one number
pub record Loses (es rs : List Entry) (n : ℕ) : Type 0 where
  pub once : Once (numbers rs)
  pub from : (e : Entry) → In e rs → In e es × (e.number ≡ n → ⊥)
  pub back : (e : Entry) → In e es → (e.number ≡ n → ⊥) → In e rs

pub lookup_loses : (es rs : List Entry) (n : ℕ) → Once (numbers es) → Loses es rs n → Same (without (lookup es) n) (lookup rs)
lookup_loses es rs n once l k = elim (cases_eq k n) [
  | inl q ↦ absent rs k (λ h. let r = from_map (λ e. e.number) k rs h in (l.from r.of r.member).1 (sym r.is ∙ q)) ∙ sym (rw (eq-eqb k n q))
  | inr q ↦ (elim (cases_option (lookup es k)) [
    | inl none ↦ absent rs k (λ h.
        let r = from_map (λ e. e.number) k rs h in
        not_in es k none (subst (λ m. In m (numbers es)) (sym r.is) (in_map (λ e. e.number) r.of es (l.from r.of r.member).0))) ∙ sym none
    | inr s ↦
        let b = beside es k s.0 s.1 in
        let kept = l.back b.of b.member (λ z. q (sym b.number ∙ z)) in
        ap (lookup rs) (sym b.number) ∙ listed rs b.of l.once kept ∙ ap Some b.pattern ∙ sym s.1
  ]) ∙ sym (rw (ne_eqb k n q))
]
  where
    cases_option : (o : Option Pattern) → (o ≡ None) ⊎ ((p : Pattern) × (o ≡ Some p))
    cases_option None = inl refl
    cases_option (Some p) = inr (p, refl)
