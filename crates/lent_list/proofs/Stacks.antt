-- A stack in the front of an array: the first d elements, of which the last is the top.
use Rattle.std.proofs.Common.{◌≡◌, ℕ, ◌+◌, ◌-◌, ◌<◌, ◌≤◌, List, [], ◌∷◌, reverse, length, get_or, take, set, sym, ap, ◌∙◌, arith}
use Rattle.std.proofs.lemmas.List.{take_more, take_more_set, reverse-append, length-reverse, length-take-le}

module _ {X : Type 0} where
  pub peel : (xs : List X) (d : ℕ) (e : X) → 0 < d → d ≤ length xs → reverse (take d xs) ≡ get_or xs (d - 1) e ∷ reverse (take (d - 1) xs)
  peel xs d e pos h =
      let up : d - 1 + 1 ≡ d = omega arith in
      let l : d - 1 < length xs = omega arith in
      ap (λ k. reverse (take k xs)) (sym up) ∙ (ap reverse (take_more xs (d - 1) e l) ∙ reverse-append (take (d - 1) xs) (get_or xs (d - 1) e ∷ []))

  pub pushed : (xs : List X) (d : ℕ) (x : X) → d < length xs → reverse (take (d + 1) (set xs d x)) ≡ x ∷ reverse (take d xs)
  pushed xs d x l = ap reverse (take_more_set xs d x l) ∙ reverse-append (take d xs) (x ∷ [])

  pub replaced : (xs : List X) (d : ℕ) (x : X) → 0 < d → d ≤ length xs → reverse (take d (set xs (d - 1) x)) ≡ x ∷ reverse (take (d - 1) xs)
  replaced xs d x pos h =
      let up : d - 1 + 1 ≡ d = omega arith in
      ap (λ k. reverse (take k (set xs (d - 1) x))) (sym up) ∙ pushed xs (d - 1) x (omega arith)

  pub height : (xs : List X) (d : ℕ) → d ≤ length xs → length (reverse (take d xs)) ≡ d
  height xs d h = length-reverse (take d xs) ∙ length-take-le d xs h
