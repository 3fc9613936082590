-- The rows stay those of the stored patterns as both change.
use Rattle.std.proofs.Common.{◌≡◌, ℕ, ◌<◌, ◌≤◌, Bool, true, false, List, [], map, length, is_some, Some, None, Option, sym, refl, ap, ◌∙◌, subst, inl, inr, arith}
use Rattle.std.proofs.lemmas.List.{length-map}
use Rattle.std.proofs.lemmas.Bool.{cases_eq, eq-eqb, ne_eqb}
use Rattle.lists.specs.Members.{In, Once}
use Rattle.lists.proofs.Members.{in_map, once_short}
use Rattle.terms.specs.Patterns.{nodes_of}
use Rattle.terms.specs.declared.pattern.Pattern.{Pattern}
use Rattle.trie.specs.declared.branch.Label.{Label}
use Rattle.trie.specs.Contents.{string_of, Inserted, Removed}
use Rattle.index.specs.Maps.{Map, Same, Stores, put, without}
use Rattle.discrimination_tree.specs.Rows.{Tied}
use Rattle.discrimination_tree.proofs.Ties.{Stored, Holds, one_number, holds, tied}

some_none : {o : Option Pattern} {p : Pattern} → o ≡ Some p → o ≡ None → ⊥
some_none e h = let z : ◌≡◌ {A = ℕ} 0 1 = cc in omega arith

some_one : {o : Option Pattern} {p q : Pattern} → o ≡ Some p → o ≡ Some q → p ≡ q
some_one e h = cc

carry : (m m' : Map) (u : List Label) (s : Stored m u) → m' s.number ≡ m s.number → Stored m' u
carry m m' u s e = record { number = s.number; pattern = s.pattern; under = e ∙ s.under; is = s.is }

-- a row whose number has the pattern p
row_at : (m : Map) (u : List Label) (s : Stored m u) (n : ℕ) (p : Pattern) → s.number ≡ n → m n ≡ Some p → u ≡ string_of p n
row_at m u s n p e h =
    let q : s.pattern ≡ p = some_one s.under (ap m e ∙ h) in
    s.is ∙ ap (λ x. string_of x s.number) q ∙ ap (string_of p) e

pub empty : (m : Map) (ss : List (List Label)) → ((n : ℕ) → m n ≡ None) → ss ≡ [] → Tied m ss
empty m ss none e = tied m ss (λ u. (λ i. absurd (subst (In u) e i), λ s. absurd (some_none s.under (none s.number))))

abbrev row_of : Option Pattern → ℕ → List Label
row_of None n = []
row_of (Some p) n = string_of p n

-- there are no more rows than numbers
few : (m : Map) (ns : List ℕ) (ss : List (List Label)) → Stores m ns → Once ss → Holds m ss → length ss ≤ length ns
few m ns ss stores once h =
    let rows = map (λ n. row_of (m n) n) ns in
    let short : length ss ≤ length rows = once_short ss rows once (λ u i.
    let s = (h u).0 i in
    subst (λ v. In v rows) (ap (λ o. row_of o s.number) s.under ∙ sym s.is) (in_map (λ n. row_of (m n) n) s.number ns (stores.all s.number (ap is_some s.under)))) in
    omega (arith, length-map ns (λ n. row_of (m n) n))

module _ (m m' : Map) (n : ℕ) (p : Pattern) (xs ys : List (List Label)) (t : Tied m xs) where
  h : Holds m xs
  h = holds m xs t

  abbrev row : List Label
  row = string_of p n

  there : (s : Stored m row) → s.number ≡ n
  there s = sym (one_number (nodes_of p) (nodes_of s.pattern) n s.number s.is)

  put_in : m n ≡ None → Same (put m n p) m' → Inserted xs row ys true → Holds m' ys
  put_in free same a u =
      let other : (k : ℕ) → (k ≡ n → ⊥) → m' k ≡ m k = λ k e. same k ∙ rw (ne_eqb k n e) in
      let new : m' n ≡ Some p = same n ∙ rw (eq-eqb n n refl) in (
        λ i. elim ((a.3 u).0 i) [
          | inl e ↦ record { number = n; pattern = p; under = new; is = e }
          | inr j ↦ let s = (h u).0 j in carry m m' u s (other s.number (λ e. some_none (ap m (sym e) ∙ s.under) free))
        ],
        λ s. (a.3 u).1 (elim (cases_eq s.number n) [
          | inl e ↦ inl (row_at m' u s n p e new)
          | inr e ↦ inr ((h u).1 (carry m' m u s (sym (other s.number e))))
        ]),
      )

  pub inserted : (ns : List ℕ) (r : Bool) → Stores m ns → Once xs → m n ≡ None → length ns < 64 → Same (put m n p) m' → Inserted xs row ys r → Tied m' ys
  inserted ns true stores once free room same a = tied m' ys (put_in free same a)
  inserted ns false stores once free room same a = absurd (elim a.0 [
    | inl i ↦ let s = (h row).0 i in some_none (ap m (sym (there s)) ∙ s.under) free
    | inr full ↦ let z : ⊥ = omega (arith, few m ns xs stores once h) in z
  ])

  taken_out : m n ≡ Some p → Same (without m n) m' → Removed xs row ys true → Holds m' ys
  taken_out was same a u =
      let other : (k : ℕ) → (k ≡ n → ⊥) → m' k ≡ m k = λ k e. same k ∙ rw (ne_eqb k n e) in
      let gone : m' n ≡ None = same n ∙ rw (eq-eqb n n refl) in (
        λ i. let j = (a.2 u).0 i in let s = (h u).0 j.0 in carry m m' u s (other s.number (λ e. j.1 (row_at m u s n p e was))),
        λ s.
            let apart : s.number ≡ n → ⊥ = λ e. some_none (ap m' (sym e) ∙ s.under) gone in
            (a.2 u).1 ((h u).1 (carry m' m u s (sym (other s.number apart)))) (λ e. apart (one_number (nodes_of s.pattern) (nodes_of p) s.number n (sym s.is ∙ e))),
      )

  pub removed : (r : Bool) → m n ≡ Some p → Same (without m n) m' → Removed xs row ys r → Tied m' ys
  removed true was same a = tied m' ys (taken_out was same a)
  removed false was same a = absurd (a.0 ((h row).1 record { number = n; pattern = p; under = was; is = refl }))
