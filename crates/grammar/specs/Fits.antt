-- Which tokens make a formula, and which is the first that cannot follow.
use Rattle.std.specs.Prelude.{◌≡◌, ℕ, List, [], ◌∷◌, ◌++◌}
use Rattle.lexer.specs.Tokens.{Lexeme}
use Rattle.grammar.specs.Syntax.{Parsed, Formula}

-- the tokens are one formula
abbrev pub Complete : List Lexeme → Type 0
Complete ts = (p : Parsed) × Formula ts p []

-- the tokens begin some formula
abbrev pub Begins : List Lexeme → Type 0
Begins ts = (us : List Lexeme) × Complete (ts ++ us)

-- the tokens of a text of len bytes break the grammar at a place: the tokens before it begin some formula, and with the token there
-- they begin none; or all of them begin a formula, and they give out before its end
pub data Misfit (ts : List Lexeme) (len : ℕ) : ℕ → Type 0 where
  at_token : (t : Lexeme) (before after : List Lexeme) → ts ≡ before ++ t ∷ after → Begins before → (Begins (before ++ t ∷ []) → ⊥) → Misfit ts len t.place
  at_end : Begins ts → (Complete ts → ⊥) → Misfit ts len len

-- no tokens are one formula in two ways
abbrev pub Unambiguous : List Lexeme → Type 0
Unambiguous ts = (x y : Parsed) → Formula ts x [] → Formula ts y [] → x ≡ y
