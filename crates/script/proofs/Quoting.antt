-- A text between double quotes, and what stands between them.
use Rattle.std.proofs.Common.{◌≡◌, ℕ, suc, ◌+◌, ◌-◌, ◌≤◌, List, [], ◌∷◌, ◌++◌, length, get_or, take, drop, sym, refl, ap, ◌∙◌, arith}
use Rattle.std.proofs.lemmas.List.{take_more, take_all, length_push, get_or_push, append_cancel_right}
use Rattle.script.specs.Escapes.{Quoted}

ends : (t : List ℕ) (k : ℕ) → length t ≡ k + 1 → get_or t k 0 ≡ 34 → t ≡ take k t ++ 34 ∷ []
ends t k size e = sym (take_all (k + 1) t (omega arith)) ∙ take_more t k 0 (omega arith) ∙ ap (λ b. take k t ++ b ∷ []) e

pub between : (t : List ℕ) → 2 ≤ length t → get_or t 0 0 ≡ 34 → get_or t (length t - 1) 0 ≡ 34 → t ≡ 34 ∷ (take (length t - 1 - 1) (drop 1 t) ++ 34 ∷ [])
between [] h e f = absurd (omega arith)
between (b ∷ []) h e f = absurd (omega arith)
between (b ∷ c ∷ t) h e f =
    let size : length (b ∷ c ∷ t) - 1 - 1 ≡ length t = omega arith in
    let at : suc (length t) ≡ length (b ∷ c ∷ t) - 1 = omega arith in
    let last : get_or (c ∷ t) (length t) 0 ≡ 34 = ap (λ n. get_or (b ∷ c ∷ t) n 0) at ∙ f in
    ap (λ a. a ∷ c ∷ t) e ∙ ap (λ r. 34 ∷ r) (ends (c ∷ t) (length t) (omega arith) last ∙ ap (λ n. take n (c ∷ t) ++ 34 ∷ []) (sym size))

module _ (text bytes : List ℕ) (q : Quoted text bytes) where
  pub quoted_long : 2 ≤ length text
  quoted_long = omega (arith, ap length q.whole, length_push q.inner 34)

  pub quoted_first : get_or text 0 0 ≡ 34
  quoted_first = ap (λ (t : List ℕ). get_or t 0 0) q.whole

  pub quoted_last : get_or text (length text - 1) 0 ≡ 34
  quoted_last =
      let at : length text - 1 ≡ suc (length q.inner) = omega (arith, ap length q.whole, length_push q.inner 34) in
      ap (λ n. get_or text n 0) at ∙ ap (λ (t : List ℕ). get_or t (suc (length q.inner)) 0) q.whole ∙ get_or_push q.inner 34 0 (length q.inner) refl

  pub quoted_inner : (inner : List ℕ) → text ≡ 34 ∷ (inner ++ 34 ∷ []) → inner ≡ q.inner
  quoted_inner inner e =
      let both : inner ++ 34 ∷ [] ≡ q.inner ++ 34 ∷ [] = cc (e, q.whole) in
      append_cancel_right inner q.inner (34 ∷ []) both
