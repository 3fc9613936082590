-- The next pattern goes under the next number.
use Rattle.std.proofs.Common.{◌≡◌, ℕ, ◌+◌, ◌<◌, ◌≤◌, true, cond, eqb, List, [], ◌∷◌, length, is_some, Some, None, Ok, Err, Result, sym, refl, ap, ◌∙◌, subst, inl, inr, arith}
use Rattle.std.proofs.lemmas.Bool.{cases_eq, ne_eqb, false≢true}
use Rattle.lists.specs.Members.{In}
use Rattle.lists.proofs.Members.{once_short}
use Rattle.refusal.specs.declared.Refusal.{Refusal}
use Rattle.terms.specs.declared.pattern.Pattern.{Pattern}
use Rattle.index.specs.Maps.{Map, Same, Stores, Inserted}
use Rattle.offers.specs.Numbered.{numbered}

past : (ps : List Pattern) (n : ℕ) → length ps < n → numbered ps n ≡ None
past [] n h = refl
past (p ∷ ps) n h = ap (λ b. cond b (Some p) (numbered ps n)) (ne_eqb n (length ps + 1) (λ e. let z : ⊥ = omega (arith, e) in z)) ∙ past ps n (omega arith)

abbrev used : List Pattern → List ℕ
used [] = []
used (p ∷ ps) = (length ps + 1) ∷ used ps

length_used : (ps : List Pattern) → length (used ps) ≡ length ps
length_used [] = refl
length_used (p ∷ ps) = omega (arith, length_used ps)

in_used : (ps : List Pattern) (n : ℕ) → is_some (numbered ps n) ≡ true → In n (used ps)
in_used [] n h = absurd (false≢true h)
in_used (p ∷ ps) n h = elim (cases_eq n (length ps + 1)) [
  | inl e ↦ inl e
  | inr d ↦ inr (in_used ps n (subst (λ b. is_some (cond b (Some p) (numbered ps n)) ≡ true) (ne_eqb n (length ps + 1) d) h))
]

pub room : (ps : List Pattern) (m : Map) (ns : List ℕ) → Same (numbered ps) m → Stores m ns → length ns ≤ length ps
room ps m ns s h =
    let short : length ns ≤ length (used ps) = once_short ns (used ps) h.once (λ n i. in_used ps n (ap is_some (sym (s n)) ∙ h.only n i)) in
    omega (arith, length_used ps)

pub inserted : (ps : List Pattern) (p : Pattern) (m m' : Map) (ns : List ℕ) (capacity n : ℕ) (r : Result (Unit {0}) Refusal) → Same (numbered ps) m → Stores m ns → length ps < capacity → n ≡ length ps + 1
    → Inserted m (length ns) capacity n p m' r → Same (numbered (p ∷ ps)) m'
inserted ps p m m' ns capacity n (Ok u) s h l e i =
    λ k. i.2 k ∙ ap (λ o. cond (eqb k n) (Some p) o) (s k) ∙ ap (λ j. cond (eqb k j) (Some p) (numbered ps k)) e
inserted ps p m m' ns capacity n (Err x) s h l e i = elim i.1 [
  | inl t ↦ absurd (false≢true (ap is_some (sym (s n ∙ past ps n (omega (arith, e)))) ∙ t.0))
  | inr t ↦ absurd (let z : ⊥ = omega (arith, t.1, room ps m ns s h) in z)
]
