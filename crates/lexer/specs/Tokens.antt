-- A text as its tokens: what stands first in it, again and again.
use Rattle.std.specs.Prelude.{ℕ, zero, suc, ◌+◌, Bool, false, cond, not, ◌&&◌, ◌||◌, List, [], ◌∷◌, length, take, drop, Some, None, Option, ◌==◌}
use Rattle.std.specs.Option.{option_map}
use Rattle.std.specs.List.{prefix_len}
use Rattle.signature.specs.Words.{lower, upper, wordly}
use Rattle.lexer.specs.declared.token.Kind.{Kind}
use Rattle.lexer.specs.declared.token.Kind.TheVariants.{Word, Variable, Open, Close, Comma, Dot, Equal, Unequal, Stray}
use Rattle.lexer.specs.declared.token.Front.{Front}
use Rattle.lexer.specs.declared.token.Front.TheVariants.{Gap, Piece}

-- space, tab, carriage return, line feed
abbrev pub blank : ℕ → Bool
blank b = b == 32 || (b == 9 || (b == 13 || b == 10))

abbrev pub starts : ℕ → List ℕ → Bool
starts c [] = false
starts c (b ∷ bs) = b == c

-- a comment from % goes over all but the line's end, as a word goes over what is wordly
abbrev pub in_line : ℕ → Bool
in_line b = not (b == 10)

-- how many bytes there are up to the first star with a slash behind it, both counted
abbrev pub length_of_block : List ℕ → Option ℕ
length_of_block [] = None
length_of_block (b ∷ bs) = cond (b == 42 && starts 47 bs) (Some 2) (option_map (λ n. 1 + n) (length_of_block bs))

-- the token that a single byte is; one that starts no token is Stray, which fits nowhere
abbrev pub mark : ℕ → Kind
mark b = cond (b == 40) Open (cond (b == 41) Close (cond (b == 44) Comma (cond (b == 46) Dot (cond (b == 61) Equal Stray))))

-- a block comment, or the stray slash of one that is never closed
abbrev pub block : Option ℕ → Front
block None = Piece Stray 1
block (Some n) = Gap (2 + n)

-- what stands first where there is a byte, and how many bytes it has
abbrev pub front : ℕ → List ℕ → Front
front b bs =
    cond (blank b) (Gap 1)
    (cond (b == 37) (Gap (1 + prefix_len in_line bs))
    (cond (b == 47 && starts 42 bs) (block (length_of_block (drop 1 bs)))
    (cond (b == 33 && starts 61 bs) (Piece Unequal 2)
    (cond (lower b) (Piece Word (1 + prefix_len wordly bs))
    (cond (upper b) (Piece Variable (1 + prefix_len wordly bs))
    (Piece (mark b) 1))))))

abbrev pub first : List ℕ → Option Front
first [] = None
first (b ∷ bs) = Some (front b bs)

-- a token with its bytes and the place of its first byte in the text
pub record Lexeme : Type 0 where
  pub kind : Kind
  pub bytes : List ℕ
  pub place : ℕ

-- what stands first, and then what `later` finds behind it
abbrev pub lexed : (List ℕ → ℕ → List Lexeme) → List ℕ → ℕ → Option Front → List Lexeme
lexed later bs n None = []
lexed later bs n (Some (Gap m)) = later (drop m bs) (n + m)
lexed later bs n (Some (Piece kind m)) = record { kind = kind; bytes = take m bs; place = n } ∷ later (drop m bs) (n + m)

-- the tokens of the bytes from place n on; k bounds the recursion, and one more than the number of bytes suffices
abbrev pub lex : ℕ → List ℕ → ℕ → List Lexeme
lex zero bs n = []
lex (suc k) bs n = lexed (lex k) bs n (first bs)

unfoldable pub tokens_from : List ℕ → ℕ → List Lexeme
tokens_from bs n = lex (suc (length bs)) bs n

-- the tokens of a text
abbrev pub tokens : List ℕ → List Lexeme
tokens bs = tokens_from bs 0
