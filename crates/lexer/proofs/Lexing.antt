-- The bound on the recursion is only a bound: one token after another, as the text has them.
use Rattle.std.proofs.Common.{◌≡◌, ℕ, zero, suc, ◌+◌, ◌-◌, ◌<◌, ◌≤◌, true, ◌&&◌, eqb, List, [], ◌∷◌, length, take, drop, IfSome, Some, None, Option, sym, refl, ap, ◌∙◌, ap₂, arith, length-drop, slice_range}
use mathlib.Core.Bool.{false≢true}
use Rattle.std.specs.Option.{option_map}
use Rattle.std.proofs.lemmas.List.Sums.{prefix_len-le-length}
use Rattle.std.proofs.lemmas.List.{take_rest, length-take-le, drop-drop}
use Rattle.std.proofs.lemmas.Bool.{cond_both, and_parts}
use Rattle.signature.specs.Words.{lower, upper, wordly}
use Rattle.lexer.specs.Tokens.{in_line, length_of_block, starts, blank, block, front, first, Lexeme, lexed, lex, tokens_from}
use Rattle.lexer.specs.Next.{end_of}
use Rattle.lexer.specs.declared.token.Kind.{Kind}
use Rattle.lexer.specs.declared.token.Front.{Front}
use Rattle.lexer.specs.declared.token.Front.TheVariants.{Gap, Piece}

abbrev UpTo : ℕ → Option ℕ → Type 0
UpTo m o = IfSome o (λ n. n ≤ m)

up_more : (m : ℕ) (o : Option ℕ) → UpTo m o → UpTo (suc m) (option_map (λ n. 1 + n) o)
up_more m None h = tt
up_more m (Some n) h = omega arith

starts_some : (c : ℕ) (bs : List ℕ) → starts c bs ≡ true → 1 ≤ length bs
starts_some c [] e = absurd (false≢true e)
starts_some c (b ∷ bs) e = omega arith

block_within : (bs : List ℕ) → UpTo (length bs) (length_of_block bs)
block_within [] = tt
block_within (b ∷ bs) =
    cond_both (eqb b 42 && starts 47 bs) _ _ (UpTo (length (b ∷ bs)))
    (λ e. omega (arith, starts_some 47 bs (and_parts (eqb b 42) (starts 47 bs) e).1))
    (λ _. up_more (length bs) (length_of_block bs) (block_within bs))

-- some bytes, and no more than there are
abbrev pub Moves : ℕ → Front → Type 0
Moves m (Gap n) = (1 ≤ n) × (n ≤ m)
Moves m (Piece k n) = (1 ≤ n) × (n ≤ m)

block_moves : (m : ℕ) (o : Option ℕ) → 2 ≤ m → UpTo (m - 2) o → Moves m (block o)
block_moves m None h u = (omega arith, omega arith)
block_moves m (Some n) h u = (omega arith, omega arith)

pub front_moves : (b : ℕ) (bs : List ℕ) → Moves (length (b ∷ bs)) (front b bs)
front_moves b bs =
    let P = Moves (length (b ∷ bs)) in
    cond_both (blank b) _ _ P (λ _. (omega arith, omega arith)) (λ _.
    cond_both (eqb b 37) _ _ P (λ _. (omega arith, omega (arith, prefix_len-le-length in_line bs))) (λ _.
    cond_both (eqb b 47 && starts 42 bs) _ _ P (λ e. in_block (starts_some 42 bs (and_parts (eqb b 47) (starts 42 bs) e).1)) (λ _.
    cond_both (eqb b 33 && starts 61 bs) _ _ P (λ e. (omega arith, omega (arith, starts_some 61 bs (and_parts (eqb b 33) (starts 61 bs) e).1))) (λ _.
    cond_both (lower b) _ _ P (λ _. (omega arith, omega (arith, prefix_len-le-length wordly bs))) (λ _.
    cond_both (upper b) _ _ P (λ _. (omega arith, omega (arith, prefix_len-le-length wordly bs))) (λ _. (omega arith, omega arith)))))))
  where
    in_block : 1 ≤ length bs → Moves (length (b ∷ bs)) (block (length_of_block (drop 1 bs)))
    in_block h =
        let size : length (b ∷ bs) - 2 ≡ length (drop 1 bs) = omega (arith, length-drop 1 bs) in
        block_moves (length (b ∷ bs)) (length_of_block (drop 1 bs)) (omega arith) (rw size (block_within (drop 1 bs)))

module _ (k j : ℕ) (bs : List ℕ) (n : ℕ) (same : (cs : List ℕ) (p : ℕ) → length cs < k → length cs < j → lex k cs p ≡ lex j cs p) where
  lexed_same : (f : Front) → Moves (length bs) f → length bs ≤ k → length bs ≤ j → lexed (lex k) bs n (Some f) ≡ lexed (lex j) bs n (Some f)
  lexed_same (Gap l) m h g = same (drop l bs) (n + l) (omega (arith, length-drop l bs, m.0, m.1)) (omega (arith, length-drop l bs, m.0, m.1))
  lexed_same (Piece kind l) m h g = ap (λ ts. record { kind = kind; bytes = take l bs; place = n } ∷ ts) (same (drop l bs) (n + l) (omega (arith, length-drop l bs, m.0, m.1)) (omega (arith, length-drop l bs, m.0, m.1)))

lex_same : (k j : ℕ) (bs : List ℕ) (n : ℕ) → length bs < k → length bs < j → lex k bs n ≡ lex j bs n
lex_same zero j bs n h g = absurd (omega arith)
lex_same (suc k) zero bs n h g = absurd (omega arith)
lex_same (suc k) (suc j) [] n h g = refl
lex_same (suc k) (suc j) (b ∷ bs) n h g = lexed_same k j (b ∷ bs) n (λ cs p. lex_same k j cs p) (front b bs) (front_moves b bs) (omega arith) (omega arith)

pub tokens_none : (n : ℕ) → tokens_from [] n ≡ []
unfolding tokens_from
tokens_none n = refl

pub tokens_end : (bs : List ℕ) (n : ℕ) → first bs ≡ None → tokens_from bs n ≡ []
unfolding tokens_from
tokens_end bs n e = rw e

pub tokens_gap : (bs : List ℕ) (n m : ℕ) → first bs ≡ Some (Gap m) → tokens_from bs n ≡ tokens_from (drop m bs) (n + m)
unfolding tokens_from
tokens_gap [] n m e = cc
tokens_gap (b ∷ bs) n m e =
    let is : front b bs ≡ Gap m = cc in
    let moves : Moves (length (b ∷ bs)) (Gap m) = rw is at (front_moves b bs) in
    ap (lexed (lex (suc (length bs))) (b ∷ bs) n) e ∙ lex_same (suc (length bs)) (suc (length (drop m (b ∷ bs)))) (drop m (b ∷ bs)) (n + m) (omega (arith, length-drop m (b ∷ bs), moves.0, moves.1)) (omega arith)

pub tokens_piece : (bs : List ℕ) (n : ℕ) (kind : Kind) (m : ℕ) → first bs ≡ Some (Piece kind m) → tokens_from bs n ≡ record { kind = kind; bytes = take m bs; place = n } ∷ tokens_from (drop m bs) (n + m)
unfolding tokens_from
tokens_piece [] n kind m e = cc
tokens_piece (b ∷ bs) n kind m e =
    let is : front b bs ≡ Piece kind m = cc in
    let moves : Moves (length (b ∷ bs)) (Piece kind m) = rw is at (front_moves b bs) in
    ap (lexed (lex (suc (length bs))) (b ∷ bs) n) e ∙ ap (λ ts. record { kind = kind; bytes = take m (b ∷ bs); place = n } ∷ ts) (lex_same (suc (length bs)) (suc (length (drop m (b ∷ bs)))) (drop m (b ∷ bs)) (n + m) (omega (arith, length-drop m (b ∷ bs), moves.0, moves.1)) (omega arith))

-- what stands first in the rest of a text
pub stands : (text rest : List ℕ) (place : ℕ) (o : Option Front) → rest ≡ slice_range text place (length text) → first rest ≡ o → first (drop place text) ≡ o
stands text rest place o is e = ap first (sym (is ∙ take_rest text place)) ∙ e

-- the same of what a text has from a place on
pub moved : (text : List ℕ) (place : ℕ) (f : Front) → first (drop place text) ≡ Some f → Moves (length text - place) f
moved text place f is = by (drop place text) (length-drop place text) is
  where
    by : (bs : List ℕ) → length bs ≡ length text - place → first bs ≡ Some f → Moves (length text - place) f
    by [] l is = cc
    by (b ∷ bs) l is =
        let same : front b bs ≡ f = cc in
        rw (← l, ← same) (front_moves b bs)

-- a token found behind separators
pub found : (text : List ℕ) (at place : ℕ) (kind : Kind) (n : ℕ) (bytes : List ℕ) → tokens_from (drop at text) at ≡ tokens_from (drop place text) place → at ≤ place → place ≤ length text → first (drop place text) ≡ Some (Piece kind n) → bytes ≡ take (place + n - place) (drop place text) → let t : Lexeme = record { kind = kind; bytes = bytes; place = place } in (tokens_from (drop at text) at ≡ t ∷ tokens_from (drop (end_of t) text) (end_of t)) × (at < end_of t) × (end_of t ≤ length text) × (at ≤ place) × (tokens_from (drop at text) at ≡ tokens_from (drop place text) place) × (bytes ≡ take (length bytes) (drop place text))
found text at place kind n bytes same low within first_is is =
    let m = moved text place (Piece kind n) first_is in
    let back : place + n - place ≡ n = omega arith in
    let here : bytes ≡ take n (drop place text) = is ∙ ap (λ k. take k (drop place text)) back in
    let size : length bytes ≡ n = ap length here ∙ length-take-le n (drop place text) (omega (arith, length-drop place text, m.1)) in
    (same ∙ tokens_piece (drop place text) place kind n first_is ∙ ap₂ (λ (bs : List ℕ) (ts : List Lexeme). record { kind = kind; bytes = bs; place = place } ∷ ts) (sym here) (ap (λ bs. tokens_from bs (place + n)) (drop-drop n place text) ∙ ap (λ k. tokens_from (drop (place + k) text) (place + k)) (sym size)), omega (arith, size, m.0), omega (arith, size, m.1), low, same, here ∙ ap (λ k. take k (drop place text)) (sym size))
