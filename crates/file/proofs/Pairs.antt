-- Two maps with the same numbers, as one map of equations.
use Rattle.std.proofs.Common.{◌≡◌, ℕ, ◌≤◌, true, false, cond, eqb, is_some, is_ok, Some, None, Ok, Err, Option, Result, sym, refl, ap, ◌∙◌, ap₂, inl, inr, arith}
use Rattle.refusal.specs.declared.Refusal.{Refusal}
use Rattle.terms.specs.declared.pattern.Pattern.{Pattern}
use Rattle.index.specs.Maps.{Map, Same, put, Inserted, Told}
use Rattle.reduction.specs.declared.oriented.Oriented.{Oriented}
use Rattle.reduction.specs.Redexes.{higher_side, lower_side}
use Rattle.file.specs.Kept.{Paired, joined, equations_of}

-- of two sides that are there together
pub joined_higher : (h l : Option Pattern) → is_some h ≡ is_some l → h ≡ higher_side (joined h l)
joined_higher None l e = refl
joined_higher (Some h) None e = let z : ◌≡◌ {A = ℕ} 0 1 = cc in absurd (let w : ⊥ = omega arith in w)
joined_higher (Some h) (Some l) e = refl

pub joined_lower : (h l : Option Pattern) → is_some h ≡ is_some l → l ≡ lower_side (joined h l)
joined_lower None None e = refl
joined_lower None (Some l) e = let z : ◌≡◌ {A = ℕ} 0 1 = cc in absurd (let w : ⊥ = omega arith in w)
joined_lower (Some h) None e = let z : ◌≡◌ {A = ℕ} 0 1 = cc in absurd (let w : ⊥ = omega arith in w)
joined_lower (Some h) (Some l) e = refl

some_none : {A : Type 0} (o : Option A) → is_some o ≡ false → o ≡ None
some_none None e = refl
some_none (Some x) e = cc

absent : (m low : Map) (n : ℕ) → m n ≡ None → equations_of m low n ≡ None
absent m low n e = ap (λ h. joined h (low n)) e

absent_lower : (m low : Map) (n : ℕ) → Paired m low → m n ≡ None → low n ≡ None
absent_lower m low n k e = some_none (low n) (sym (k n) ∙ ap is_some e)

absent_higher : (m low : Map) (n : ℕ) → Paired m low → low n ≡ None → m n ≡ None
absent_higher m low n k e = some_none (m n) (k n ∙ ap is_some e)

paired_same : (m low m' low' : Map) → Paired m low → Same m m' → Same low low' → Paired m' low'
paired_same m low m' low' k s t n = ap is_some (s n) ∙ k n ∙ sym (ap is_some (t n))

paired_put : (m low m' low' : Map) (n : ℕ) (h l : Pattern) → Paired m low → Same (put m n h) m' → Same (put low n l) low' → Paired m' low'
paired_put m low m' low' n h l k s t = paired_same (put m n h) (put low n l) m' low' both s t
  where
    both : Paired (put m n h) (put low n l)
    both i = elim (eqb i n) as (λ b. is_some (cond b (Some h) (m i)) ≡ is_some (cond b (Some l) (low i))) [ true ↦ refl | false ↦ k i ]

equations_put : (m low m' low' : Map) (n : ℕ) (e : Oriented) → Same (put m n e.higher) m' → Same (put low n e.lower) low' → Same (put (equations_of m low) n e) (equations_of m' low')
equations_put m low m' low' n e s t i = ap₂ joined (s i) (t i) ∙ (elim (eqb i n) as (λ b. joined (cond b (Some e.higher) (m i)) (cond b (Some e.lower) (low i)) ≡ cond b (Some e) (joined (m i) (low i))) [ true ↦ refl | false ↦ refl ])

pub inserts : (m low m' low' : Map) (size sizeₗ capacity n : ℕ) (e : Oriented) (r : Result (Unit {0}) Refusal) → Paired m low → sizeₗ ≡ size → capacity ≤ 128
    → Inserted m size capacity n e.higher m' (Ok tt) → Inserted low sizeₗ 128 n e.lower low' r → Paired m' low' × Inserted (equations_of m low) size capacity n e (equations_of m' low') r
inserts m low m' low' size sizeₗ capacity n e (Ok u) k q w a b =
    (paired_put m low m' low' n e.higher e.lower k a.2 b.2, (absent m low n a.0, a.1, equations_put m low m' low' n e a.2 b.2))
inserts m low m' low' size sizeₗ capacity n e (Err f) k q w a b = absurd (elim b.1 [
  | inl t ↦ none_some (low n) (absent_lower m low n k a.0) t.0
  | inr t ↦ (let z : ⊥ = omega (arith, t.1, a.1) in z)
])
  where
    none_some : (o : Option Pattern) → o ≡ None → is_some o ≡ true → ⊥
    none_some None p s = let z : ◌≡◌ {A = ℕ} 0 1 = cc in omega arith
    none_some (Some x) p s = let z : ◌≡◌ {A = ℕ} 0 1 = cc in omega arith

pub free : (m low : Map) (n : ℕ) (r : Result Pattern Refusal) → Paired m low → Told low n r → is_ok r ≡ false → equations_of m low n ≡ None
free m low n (Ok p) k t e = let z : ◌≡◌ {A = ℕ} 0 1 = cc in absurd (let w : ⊥ = omega arith in w)
free m low n (Err f) k t e = absent m low n (absent_higher m low n k t.0)
