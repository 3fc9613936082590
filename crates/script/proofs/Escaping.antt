-- The first byte that a text with escapes stands for, and bytes in front of the rest.
use Rattle.std.proofs.Common.{◌≡◌, ℕ, ◌+◌, ◌*◌, ◌/◌, ◌%◌, ◌<◌, List, [], ◌∷◌, ◌++◌, length, get_or, drop, Some, None, Option, refl, ap, ◌∙◌, arith}
use Rattle.std.proofs.lemmas.Bool.{ne_eqb}
use Rattle.std.proofs.lemmas.Bool.Decides.{nat_tests}
use Rattle.script.specs.Escapes.{hex_digit, hex_letter, pair, onto, unescaped, CodesStand, PlainStand}

-- bytes in front of those that the rest stands for
abbrev pub before : List ℕ → Option (List ℕ) → Option (List ℕ)
before [] o = o
before (b ∷ bs) o = onto (Some b) (before bs o)

before_push : (xs : List ℕ) (b : ℕ) (o : Option (List ℕ)) → before (xs ++ b ∷ []) o ≡ before xs (onto (Some b) o)
before_push [] b o = refl
before_push (x ∷ xs) b o = ap (onto (Some x)) (before_push xs b o)

pub before_none : (xs : List ℕ) → before xs None ≡ None
before_none [] = refl
before_none (x ∷ xs) = ap (onto (Some x)) (before_none xs)

pub before_all : (xs : List ℕ) → before xs (Some []) ≡ Some xs
before_all [] = refl
before_all (x ∷ xs) = ap (onto (Some x)) (before_all xs)

-- one more byte was read
pub before_more : (text rest after bytes pushed : List ℕ) (byte : ℕ) → unescaped text ≡ before bytes (unescaped rest) → unescaped rest ≡ onto (Some byte) (unescaped after) → pushed ≡ bytes ++ byte ∷ [] → unescaped text ≡ before pushed (unescaped after)
before_more text rest after bytes pushed byte e f p = rw (p, before_push bytes byte (unescaped after)) (e ∙ ap (before bytes) f)

pub code_first : (t : List ℕ) → 3 < length t → get_or t 0 0 ≡ 92 → get_or t 1 0 ≡ 120 → unescaped t ≡ onto (pair (hex_digit (get_or t 2 0)) (hex_digit (get_or t 3 0))) (unescaped (drop 4 t))
code_first [] h e f = absurd (omega arith)
code_first (b ∷ []) h e f = absurd (omega arith)
code_first (b ∷ c ∷ []) h e f = absurd (omega arith)
code_first (b ∷ c ∷ d ∷ []) h e f = absurd (omega arith)
code_first (b ∷ c ∷ d ∷ g ∷ t) h e f = rw (e, f)

pub plain_stand : PlainStand
plain_stand [] h = refl
plain_stand (b ∷ bs) h = rw (ne_eqb b 34 h.0.0, ne_eqb b 92 h.0.1, ne_eqb b 10 h.0.2, plain_stand bs h.1)

letter_back : (d : ℕ) → d < 16 → hex_digit (hex_letter d) ≡ Some d
letter_back d h = grind (arith, nat_tests)

pub codes_stand : CodesStand
codes_stand [] h = refl
codes_stand (b ∷ bs) h =
    let high : b / 16 < 16 = omega (arith, h.0) in
    let low : b % 16 < 16 = omega arith in
    let back : 16 * (b / 16) + b % 16 ≡ b = omega arith in
    rw (letter_back (b / 16) high, letter_back (b % 16) low, codes_stand bs h.1) (ap (λ n. Some (n ∷ bs)) back)
