-- What a slice pattern takes off the front of a text.
use Rattle.std.proofs.Common.{◌≡◌, ℕ, ◌+◌, ◌-◌, ◌<◌, ◌≤◌, false, ◌&&◌, eqb, ◌⊎◌, List, [], ◌∷◌, length, get_or, take, drop, Some, None, Option, sym, refl, ap, ◌∙◌, inl, inr, arith, length-drop}
use Rattle.std.specs.Option.{option_map}
use Rattle.std.specs.List.{prefix_len}
use Rattle.signature.specs.Words.{wordly}
use Rattle.std.proofs.lemmas.List.{take_rest}
use Rattle.std.proofs.lemmas.Bool.{eq-eqb, ne_eqb, cond-false, and_left, and_right}
use Rattle.std.proofs.lemmas.Bool.Decides.{nat_tests}
use Rattle.lexer.specs.Tokens.{in_line, length_of_block, starts, block, first}
use Rattle.lexer.specs.declared.token.Kind.TheVariants.{Word, Variable}
use Rattle.lexer.specs.declared.token.Front.TheVariants.{Gap, Piece}

pub nothing : (xs : List ℕ) → length xs < 1 → xs ≡ []
nothing [] h = refl
nothing (x ∷ xs) h = absurd (omega arith)

pub head_tail : (xs : List ℕ) → 0 < length xs → xs ≡ get_or xs 0 0 ∷ drop 1 xs
head_tail [] h = absurd (omega arith)
head_tail (x ∷ xs) h = refl

-- the tail that a pattern binds behind n bytes
pub tail_length : (n : ℕ) (xs : List ℕ) → length (take (length xs - n) (drop n xs)) ≡ length xs - n
tail_length n xs = ap length (take_rest xs n) ∙ length-drop n xs

pub block_none : (xs : List ℕ) → length xs < 1 → length_of_block xs ≡ None
block_none xs h = ap length_of_block (nothing xs h)

-- the star and the slash stand here
pub block_here : (xs : List ℕ) → 1 < length xs → get_or xs 0 0 ≡ 42 → get_or xs 1 0 ≡ 47 → length_of_block xs ≡ Some 2
block_here [] h p q = absurd (omega arith)
block_here (x ∷ []) h p q = absurd (omega arith)
block_here (x ∷ (y ∷ ys)) h p q = rw (eq-eqb x 42 p, eq-eqb y 47 q)

-- they do not
abbrev pub Apart : List ℕ → Type 0
Apart xs = (length xs < 2) ⊎ ((get_or xs 0 0 ≡ 42 → ⊥) ⊎ (get_or xs 1 0 ≡ 47 → ⊥))

apart_false : (x : ℕ) (xs : List ℕ) → Apart (x ∷ xs) → (eqb x 42 && starts 47 xs) ≡ false
apart_false x [] a = and_right (eqb x 42) false refl
apart_false x (y ∷ ys) (inl h) = absurd (omega arith)
apart_false x (y ∷ ys) (inr (inl n)) = and_left (eqb x 42) (eqb y 47) (ne_eqb x 42 n)
apart_false x (y ∷ ys) (inr (inr n)) = and_right (eqb x 42) (eqb y 47) (ne_eqb y 47 n)

pub block_more : (xs : List ℕ) → 0 < length xs → Apart xs → length_of_block xs ≡ option_map (λ n. 1 + n) (length_of_block (take (length xs - 1) (drop 1 xs)))
block_more [] h a = absurd (omega arith)
block_more (x ∷ xs) h a = cond-false _ _ _ (apart_false x xs a) ∙ ap (λ t. option_map (λ n. 1 + n) (length_of_block t)) (sym (take_rest (x ∷ xs) 1))

pub shifted : (m : ℕ) (o : Option ℕ) → option_map (λ k. m + k) (option_map (λ n. 1 + n) o) ≡ option_map (λ k. m + 1 + k) o
shifted m None = refl
shifted m (Some k) = ap Some (omega arith)

-- what stands first, by the first bytes
pub first_comment : (xs : List ℕ) → 0 < length xs → get_or xs 0 0 ≡ 37 → first xs ≡ Some (Gap (1 + prefix_len in_line (take (length xs - 1) (drop 1 xs))))
first_comment [] h e = absurd (omega arith)
first_comment (b ∷ bs) h e = rw (e, take_rest (b ∷ bs) 1)

pub first_block : (xs : List ℕ) → 1 < length xs → get_or xs 0 0 ≡ 47 → get_or xs 1 0 ≡ 42 → first xs ≡ Some (block (length_of_block (take (length xs - 2) (drop 2 xs))))
first_block [] h p q = absurd (omega arith)
first_block (b ∷ []) h p q = absurd (omega arith)
first_block (b ∷ (c ∷ cs)) h p q = rw (p, q, take_rest (b ∷ (c ∷ cs)) 2)

pub first_word : (xs : List ℕ) → 0 < length xs → 97 ≤ get_or xs 0 0 → get_or xs 0 0 ≤ 122 → first xs ≡ Some (Piece Word (1 + prefix_len wordly (take (length xs - 1) (drop 1 xs))))
first_word [] h lo hi = absurd (omega arith)
first_word (b ∷ bs) h lo hi = let e = take_rest (b ∷ bs) 1 in grind (arith, nat_tests)

pub first_variable : (xs : List ℕ) → 0 < length xs → 65 ≤ get_or xs 0 0 → get_or xs 0 0 ≤ 90 → first xs ≡ Some (Piece Variable (1 + prefix_len wordly (take (length xs - 1) (drop 1 xs))))
first_variable [] h lo hi = absurd (omega arith)
first_variable (b ∷ bs) h lo hi = let e = take_rest (b ∷ bs) 1 in grind (arith, nat_tests)
