-- Counts of variables and weights, under instances and in one argument place.
use mathlib.Core.Path.{◌≡◌, refl, sym, ◌∙◌, ap, ap₂}
use mathlib.Core.Logic.{◌⊎◌, inl, inr}
use native.Mathlib.Omega.{arith}
use native.Mathlib.Nat.{mul-le-mul_right}
use native.Mathlib.Decide.{ℕ_discrete, dec_lt}
use Prim.Native.Nat.{ℕ, zero, suc, ◌+◌, ◌-◌, ◌*◌, ◌<◌, ◌≤◌}
use Rattle.terms.specs.Term.{Term, Terms, var, app, nil, ◌▹◌, sub, subs, Occ, Occs}
use Rattle.rewriting.specs.Replace.{Arg, first, later}
use Rattle.rewriting.specs.Count.{count, counts, Covers, weigh, weighs}

-- sums over the variables of a term
abbrev mutual
  total : (ℕ → ℕ) → Term → ℕ
  total d (var x) = d x
  total d (app f ts) = totals d ts

  totals : (ℕ → ℕ) → Terms → ℕ
  totals d nil = 0
  totals d (t ▹ ts) = total d t + totals d ts

mutual
  total_plus : (c d e : ℕ → ℕ) → ((x : ℕ) → e x ≡ c x + d x) → (t : Term) → total e t ≡ total c t + total d t
  total_plus c d e h (var x) = h x
  total_plus c d e h (app f ts) = totals_plus c d e h ts

  totals_plus : (c d e : ℕ → ℕ) → ((x : ℕ) → e x ≡ c x + d x) → (ts : Terms) → totals e ts ≡ totals c ts + totals d ts
  totals_plus c d e h nil = omega arith
  totals_plus c d e h (t ▹ ts) = let p = total_plus c d e h t in let q = totals_plus c d e h ts in omega arith

mutual
  total_agree : (c d : ℕ → ℕ) (t : Term) → ((x : ℕ) → Occ x t → c x ≡ d x) → total c t ≡ total d t
  total_agree c d (var x) h = h x refl
  total_agree c d (app f ts) h = totals_agree c d ts h

  totals_agree : (c d : ℕ → ℕ) (ts : Terms) → ((x : ℕ) → Occs x ts → c x ≡ d x) → totals c ts ≡ totals d ts
  totals_agree c d nil h = refl
  totals_agree c d (t ▹ ts) h = ap₂ ◌+◌ (total_agree c d t (λ x o. h x (inl o))) (totals_agree c d ts (λ x o. h x (inr o)))

single : ℕ → ℕ → ℕ → ℕ
single n k x = elim (ℕ_discrete n x) [ yes e ↦ k | no h ↦ 0 ]

single_count : (n k x : ℕ) → single n k x ≡ count n (var x) * k
unfolding single
single_count n k x = by (ℕ_discrete n x)
  where
    by : (d : Dec (n ≡ x)) → elim d as (λ _. ℕ) [ yes e ↦ k | no h ↦ 0 ] ≡ (elim d as (λ _. ℕ) [ yes e ↦ 1 | no h ↦ 0 ]) * k
    by (yes e) = omega arith
    by (no h) = omega arith

mutual
  total_single : (n k : ℕ) (t : Term) → total (single n k) t ≡ count n t * k
  total_single n k (var x) = single_count n k x
  total_single n k (app f ts) = totals_single n k ts

  totals_single : (n k : ℕ) (ts : Terms) → totals (single n k) ts ≡ counts n ts * k
  totals_single n k nil = omega arith
  totals_single n k (t ▹ ts) = let p = total_single n k t in let q = totals_single n k ts in omega arith

mutual
  total_zero : (t : Term) → total (λ x. 0) t ≡ 0
  total_zero (var x) = refl
  total_zero (app f ts) = totals_zero ts

  totals_zero : (ts : Terms) → totals (λ x. 0) ts ≡ 0
  totals_zero nil = refl
  totals_zero (t ▹ ts) = let p = total_zero t in let q = totals_zero ts in omega arith

cut : (ℕ → ℕ) → ℕ → ℕ → ℕ
cut d n x = elim (dec_lt x n) [ yes h ↦ d x | no h ↦ 0 ]

cut_in : (d : ℕ → ℕ) (n x : ℕ) → x < n → d x ≡ cut d n x
unfolding cut
cut_in d n x h = by (dec_lt x n)
  where
    by : (k : Dec (x < n)) → d x ≡ elim k as (λ _. ℕ) [ yes h ↦ d x | no h ↦ 0 ]
    by (yes k) = refl
    by (no k) = absurd (k h)

cut_out : (d : ℕ → ℕ) (n x : ℕ) → n ≤ x → 0 ≡ cut d n x
unfolding cut
cut_out d n x h = by (dec_lt x n)
  where
    by : (k : Dec (x < n)) → 0 ≡ elim k as (λ _. ℕ) [ yes h ↦ d x | no h ↦ 0 ]
    by (yes k) = let z : ⊥ = omega arith in absurd z
    by (no k) = refl

cut_suc : (d : ℕ → ℕ) (n x : ℕ) → cut d (suc n) x ≡ cut d n x + single n (d n) x
unfolding single
cut_suc d n x = by (ℕ_discrete n x) (dec_lt x n)
  where
    by : (k : Dec (n ≡ x)) (l : Dec (x < n)) → cut d (suc n) x ≡ cut d n x + elim k as (λ _. ℕ) [ yes e ↦ d n | no h ↦ 0 ]
    by (yes e) l = let p = cut_in d (suc n) x (omega arith) in let q = cut_out d n x (omega arith) in let r : d n ≡ d x = ap d e in omega arith
    by (no h) (yes l) = let p = cut_in d (suc n) x (omega arith) in let q = cut_in d n x l in omega arith
    by (no h) (no l) = let p = cut_out d (suc n) x (omega arith) in let q = cut_out d n x (omega arith) in omega arith

total_cut : (d : ℕ → ℕ) (s t : Term) → Covers s t → (n : ℕ) → total (cut d n) t ≤ total (cut d n) s
total_cut d s t h zero =
    let e : (u : Term) → total (cut d 0) u ≡ 0 = λ u. total_agree (cut d 0) (λ x. 0) u (λ x o. sym (cut_out d 0 x (omega arith))) ∙ total_zero u in
    omega (arith, e s, e t)
total_cut d s t h (suc n) =
    let e : (u : Term) → total (cut d (suc n)) u ≡ total (cut d n) u + total (single n (d n)) u = total_plus (cut d n) (single n (d n)) (cut d (suc n)) (cut_suc d n) in
    let i = total_cut d s t h n in
    let m : count n t * d n ≤ count n s * d n = mul-le-mul_right (d n) (h n) in
    omega (arith, e s, e t, total_single n (d n) s, total_single n (d n) t)

abbrev mutual
  top : Term → ℕ
  top (var x) = suc x
  top (app f ts) = tops ts

  tops : Terms → ℕ
  tops nil = 0
  tops (t ▹ ts) = top t + tops ts

mutual
  occ_top : (x : ℕ) (t : Term) → Occ x t → x < top t
  occ_top x (var y) o = omega arith
  occ_top x (app f ts) o = occs_top x ts o

  occs_top : (x : ℕ) (ts : Terms) → Occs x ts → x < tops ts
  occs_top x nil o = absurd o
  occs_top x (t ▹ ts) (inl o) = let p = occ_top x t o in omega arith
  occs_top x (t ▹ ts) (inr o) = let p = occs_top x ts o in omega arith

-- fewer of each variable, a smaller sum
pub total_mono : (d : ℕ → ℕ) (s t : Term) → Covers s t → total d t ≤ total d s
total_mono d s t h =
    let n : ℕ = top s + top t in
    let es : total d s ≡ total (cut d n) s = total_agree d (cut d n) s (λ x o. cut_in d n x (omega (arith, occ_top x s o))) in
    let et : total d t ≡ total (cut d n) t = total_agree d (cut d n) t (λ x o. cut_in d n x (omega (arith, occ_top x t o))) in
    let m = total_cut d s t h n in
    omega arith

-- counts and weights of instances
mutual
  count_sub : (x : ℕ) (σ : ℕ → Term) (t : Term) → count x (sub σ t) ≡ total (λ y. count x (σ y)) t
  count_sub x σ (var y) = refl
  count_sub x σ (app f ts) = counts_subs x σ ts

  counts_subs : (x : ℕ) (σ : ℕ → Term) (ts : Terms) → counts x (subs σ ts) ≡ totals (λ y. count x (σ y)) ts
  counts_subs x σ nil = refl
  counts_subs x σ (t ▹ ts) = ap₂ ◌+◌ (count_sub x σ t) (counts_subs x σ ts)

pub covers_stable : (σ : ℕ → Term) (s t : Term) → Covers s t → Covers (sub σ s) (sub σ t)
covers_stable σ s t h x = omega (arith, count_sub x σ s, count_sub x σ t, total_mono (λ y. count x (σ y)) s t h)

-- one place
pub arg_counts : (x : ℕ) {s t : Term} {ts us : Terms} → Arg s t ts us → counts x us + count x s ≡ counts x ts + count x t
arg_counts x first = omega arith
arg_counts x (later a) = let p = arg_counts x a in omega arith

pub arg_weighs : (w : ℕ → ℕ) {s t : Term} {ts us : Terms} → Arg s t ts us → weighs w us + weigh w s ≡ weighs w ts + weigh w t
arg_weighs w first = omega arith
arg_weighs w (later a) = let p = arg_weighs w a in omega arith

-- variables and counts
mutual
  pub occ_count : (x : ℕ) (t : Term) → Occ x t → 1 ≤ count x t
  occ_count x (var y) o = by (ℕ_discrete x y)
    where
      by : (d : Dec (x ≡ y)) → 1 ≤ elim d as (λ _. ℕ) [ yes e ↦ 1 | no h ↦ 0 ]
      by (yes e) = omega arith
      by (no h) = absurd (h o)
  occ_count x (app f ts) o = occs_counts x ts o

  occs_counts : (x : ℕ) (ts : Terms) → Occs x ts → 1 ≤ counts x ts
  occs_counts x nil o = absurd o
  occs_counts x (t ▹ ts) (inl o) = let p = occ_count x t o in omega arith
  occs_counts x (t ▹ ts) (inr o) = let p = occs_counts x ts o in omega arith

mutual
  pub count_occ : (x : ℕ) (t : Term) → 1 ≤ count x t → Occ x t
  count_occ x (var y) h = by (ℕ_discrete x y) h
    where
      by : (d : Dec (x ≡ y)) → 1 ≤ elim d as (λ _. ℕ) [ yes e ↦ 1 | no h ↦ 0 ] → x ≡ y
      by (yes e) k = e
      by (no h) k = let z : ⊥ = omega arith in absurd z
  count_occ x (app f ts) h = counts_occs x ts h

  counts_occs : (x : ℕ) (ts : Terms) → 1 ≤ counts x ts → Occs x ts
  counts_occs x nil h = let z : ⊥ = omega arith in absurd z
  counts_occs x (t ▹ ts) h = by (count_occ x t) (counts_occs x ts) (dec_lt 0 (count x t))
    where
      by : (1 ≤ count x t → Occ x t) → (1 ≤ counts x ts → Occs x ts) → Dec (0 < count x t) → Occ x t ⊎ Occs x ts
      by p q (yes k) = inl (p k)
      by p q (no k) = inr (q (omega arith))

module _ (w : ℕ → ℕ) (pos : (f : ℕ) → 1 ≤ w f) where
  weigh_pos : (t : Term) → 1 ≤ weigh w t
  weigh_pos (var x) = omega arith
  weigh_pos (app f ts) = omega (arith, pos f)

  mutual
    weigh_sub : (σ : ℕ → Term) (t : Term) → weigh w (sub σ t) ≡ weigh w t + total (λ y. weigh w (σ y) - 1) t
    weigh_sub σ (var x) = omega (arith, weigh_pos (σ x))
    weigh_sub σ (app f ts) = let p = weighs_subs σ ts in omega arith

    weighs_subs : (σ : ℕ → Term) (ts : Terms) → weighs w (subs σ ts) ≡ weighs w ts + totals (λ y. weigh w (σ y) - 1) ts
    weighs_subs σ nil = omega arith
    weighs_subs σ (t ▹ ts) = let p = weigh_sub σ t in let q = weighs_subs σ ts in omega arith

  -- the weights of two instances
  pub heavier : (σ : ℕ → Term) (s t : Term) → Covers s t → weigh w (sub σ t) + weigh w s ≤ weigh w (sub σ s) + weigh w t
  heavier σ s t h = omega (arith, weigh_sub σ s, weigh_sub σ t, total_mono (λ y. weigh w (σ y) - 1) s t h)

pub covers_occ : (s t : Term) → Covers s t → (x : ℕ) → Occ x t → Occ x s
covers_occ s t h x o = count_occ x s (omega (arith, occ_count x t o, h x))
