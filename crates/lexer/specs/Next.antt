-- The first token of what is left of a text.
use Rattle.std.specs.Prelude.{◌≡◌, ℕ, ◌+◌, ◌<◌, ◌≤◌, List, [], ◌∷◌, length, take, drop, Some, None, Option}
use Rattle.lexer.specs.Tokens.{Lexeme, tokens_from}
use Rattle.lexer.specs.declared.token.Token.{Token}

abbrev pub lexeme_of : Token → Lexeme
lexeme_of t = record { kind = t.kind; bytes = t.bytes.now; place = t.place }

-- the place behind a token
abbrev pub end_of : Lexeme → ℕ
end_of t = t.place + length t.bytes

-- from the place `at` on there is no token, or one with the others behind it, and only separators before it
abbrev pub Next : List ℕ → ℕ → Option Token → Type 0
Next text at None = tokens_from (drop at text) at ≡ []
Next text at (Some t) =
    (tokens_from (drop at text) at ≡ lexeme_of t ∷ tokens_from (drop (end_of (lexeme_of t)) text) (end_of (lexeme_of t)))
    × (at < end_of (lexeme_of t))
    × (end_of (lexeme_of t) ≤ length text)
    × (at ≤ t.place)
    × (tokens_from (drop at text) at ≡ tokens_from (drop t.place text) t.place)
    × (t.bytes.now ≡ take (length t.bytes.now) (drop t.place text))
