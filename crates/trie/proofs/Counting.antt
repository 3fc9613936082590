-- Laws of how often a number stands in a list.
use Rattle.std.proofs.Common.{◌≡◌, ℕ, ◌+◌, ◌<◌, ◌≤◌, true, false, cond, not, eqb, ltb, List, [], ◌∷◌, ◌++◌, refl, inl, inr, arith}
use Rattle.std.proofs.lemmas.Bool.{eqb-false, eq-eqb, ne_eqb, and_parts, and_from, or_parts, or_from, not-true, not_from_false, lt-ltb, le-ltb, ltb-true, cases_lt, cases_eq}
use Rattle.trie.specs.Pools.{is_in, all_apart, all_below}
use Rattle.trie.specs.Taken.{hit, count, cap}

-- numbers that differ are not equal
pub clash : {A : Type 0} → ◌≡◌ {A = ℕ} 0 1 → A
clash e = absurd (omega arith)

pub hit_self : (v : ℕ) → hit v v ≡ 1
hit_self v = rw (eq-eqb v v refl)

pub hit_is : (v w : ℕ) → v ≡ w → hit v w ≡ 1
hit_is v w e = rw (eq-eqb v w e)

pub hit_not : (v w : ℕ) → (v ≡ w → ⊥) → hit v w ≡ 0
hit_not v w h = rw (ne_eqb v w h)

pub miss : (v w : ℕ) → hit v w ≡ 0 → v ≡ w → ⊥
miss v w h e = let z = hit_is v w e in omega arith

pub cap_below : (used v : ℕ) → v < used → cap used v ≡ 1
cap_below used v h = rw (lt-ltb v used h)

pub cap_above : (used v : ℕ) → used ≤ v → cap used v ≡ 0
cap_above used v h = rw (le-ltb v used h)

pub cap_one : (used v : ℕ) → 1 ≤ cap used v → v < used
cap_one used v h = elim (cases_lt v used) [ inl k ↦ k | inr k ↦ absurd (let z = cap_above used v k in let f : ⊥ = omega arith in f) ]

pub cap_most : (used v : ℕ) → cap used v ≤ 1
cap_most used v = elim (ltb v used) as (λ b. cond b 1 0 ≤ 1) [ true ↦ omega arith | false ↦ omega arith ]

pub count_append : (v : ℕ) (xs ys : List ℕ) → count v (xs ++ ys) ≡ count v xs + count v ys
count_append v [] ys = omega arith
count_append v (x ∷ xs) ys = omega (arith, count_append v xs ys)

absent : (v : ℕ) (xs : List ℕ) → is_in v xs ≡ false → count v xs ≡ 0
absent v [] e = refl
absent v (w ∷ ws) e =
    let p = or_parts (eqb v w) (is_in v ws) e in let h = hit_not v w (eqb-false v w p.0) in let r = absent v ws p.1 in omega arith

not_there : (v : ℕ) (xs : List ℕ) → count v xs ≡ 0 → is_in v xs ≡ false
not_there v [] h = refl
not_there v (w ∷ ws) h = or_from (eqb v w) (is_in v ws) (ne_eqb v w (miss v w (omega arith))) (not_there v ws (omega arith))

-- numbers apart and below a bound
pub spread : (used : ℕ) (xs : List ℕ) → all_apart xs ≡ true → all_below used xs ≡ true → (v : ℕ) → count v xs ≤ cap used v
spread used [] a b v = omega arith
spread used (x ∷ xs) a b v =
    let p = and_parts (not (is_in x xs)) (all_apart xs) a in
    let q = and_parts (ltb x used) (all_below used xs) b in
    let more = spread used xs p.1 q.1 v in
    elim (cases_eq v x) [
      | inl e ↦ let one = cap_below used v (rw e (ltb-true x used q.0)) in
          let none = absent v xs (rw e (not-true (is_in x xs) p.0)) in
          let h = hit_is v x e in omega arith
      | inr n ↦ let h = hit_not v x n in omega arith
    ]

pub once_apart : (used : ℕ) (xs : List ℕ) → ((v : ℕ) → count v xs ≤ cap used v) → all_apart xs ≡ true
once_apart used [] h = refl
once_apart used (x ∷ xs) h =
    and_from (not (is_in x xs)) (all_apart xs)
    (not_from_false (is_in x xs) (not_there x xs (let one = hit_self x in let most = h x in let c = cap_most used x in omega arith)))
    (once_apart used xs (λ v. let all = h v in omega arith))

pub once_below : (used : ℕ) (xs : List ℕ) → ((v : ℕ) → count v xs ≤ cap used v) → all_below used xs ≡ true
once_below used [] h = refl
once_below used (x ∷ xs) h =
    and_from (ltb x used) (all_below used xs)
    (lt-ltb x used (cap_one used x (let one = hit_self x in let most = h x in omega arith)))
    (once_below used xs (λ v. let all = h v in omega arith))
