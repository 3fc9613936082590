-- The value of a row of digits, read from the left.
use Rattle.std.proofs.Common.{◌≡◌, ℕ, ◌+◌, ◌-◌, ◌*◌, ◌^◌, ◌<◌, ◌≤◌, true, List, [], ◌∷◌, length, get_or, decimal, ap, ◌∙◌, inl, inr, arith, rules}
use Rattle.std.specs.Str.{all_ascii_digits}
use Rattle.std.proofs.lemmas.Str.Parse.{IsNumeralModel, numerals_by_fold}
use Rattle.std.proofs.lemmas.Bool.{cases_lt}
use Rattle.std.proofs.lemmas.Fmt.{digits_decimal, digits_value-decimal, decimal_nonempty, first_decimal, decimal_digit}

abbrev pub value : ℕ → List ℕ → ℕ
value n [] = n
value n (c ∷ cs) = value (10 * n + (c - 48)) cs

pub value_grows : (n : ℕ) (cs : List ℕ) → n ≤ value n cs
value_grows n [] = omega arith
value_grows n (c ∷ cs) = omega (arith, value_grows (10 * n + (c - 48)) cs)

pub own : IsNumeralModel (λ ds. all_ascii_digits ds ≡ true) (value 0)
own = numerals_by_fold _ (search rules) value (search rules)

-- what is known of the text of a number
module _ (t : List ℕ) (n : ℕ) (small : n < 2 ^ 64) (is : t ≡ decimal n) where
  pub digits_all : all_ascii_digits t ≡ true
  digits_all = ap all_ascii_digits is ∙ digits_decimal own n small

  pub value_is : value 0 t ≡ n
  value_is = ap (value 0) is ∙ digits_value-decimal own n small

  pub length_some : 0 < length t
  length_some = omega (arith, ap length is, decimal_nonempty n small)

  pub zero_alone : 1 < length t → get_or t 0 0 ≡ 48 → ⊥
  zero_alone long zero =
      elim (cases_lt 0 n) [
        | inl some ↦ omega (arith, first_decimal n some small, ap (λ (xs : List ℕ). get_or xs 0 0) is)
        | inr none ↦ omega (arith, ap length is, ap length (decimal_digit n (omega arith)))
      ]
