-- The test whether numbers are distinct.
use Rattle.std.proofs.Common.{◌≡◌, ℕ, true, false, not, eqb, List, [], ◌∷◌, sym, refl, ◌∙◌, inl, inr}
use Rattle.std.proofs.lemmas.Bool.{eqb-true, eq-eqb, or_cases, or_left, or_right, and_parts, and_from, not-true, not_from_false, cases_Bool, false≢true}
use Rattle.lists.specs.Members.{In, Once}
use Rattle.entries.specs.Lookup.{has, distinct}

has_in : (n : ℕ) (ns : List ℕ) → has n ns ≡ true → In n ns
has_in n [] h = absurd (false≢true h)
has_in n (m ∷ ms) h = elim (or_cases (eqb n m) (has n ms) h) [ inl e ↦ inl (eqb-true n m e) | inr k ↦ inr (has_in n ms k) ]

in_has : (n : ℕ) (ns : List ℕ) → In n ns → has n ns ≡ true
in_has n [] h = absurd h
in_has n (m ∷ ms) (inl e) = or_left (eqb n m) (has n ms) (eq-eqb n m e)
in_has n (m ∷ ms) (inr h) = or_right (eqb n m) (has n ms) (in_has n ms h)

pub once_distinct : (ns : List ℕ) → Once ns → distinct ns ≡ true
once_distinct [] h = refl
once_distinct (n ∷ ns) h =
    let fresh : has n ns ≡ false = elim (cases_Bool (has n ns)) [ inl e ↦ absurd (h.0 (has_in n ns e)) | inr e ↦ e ] in
    and_from (not (has n ns)) (distinct ns) (not_from_false (has n ns) fresh) (once_distinct ns h.1)

pub distinct_once : (ns : List ℕ) → distinct ns ≡ true → Once ns
distinct_once [] h = tt
distinct_once (n ∷ ns) h =
    let p = and_parts (not (has n ns)) (distinct ns) h in
    (λ k. false≢true (sym (not-true (has n ns) p.0) ∙ in_has n ns k), distinct_once ns p.1)
