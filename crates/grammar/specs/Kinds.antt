-- Whether two kinds of token, or two words, are the same.
use Rattle.std.specs.Prelude.{ℕ, Bool, List, ◌==◌}
use Rattle.std.specs.Str.{bytes_eq}
use Rattle.lexer.specs.declared.token.Kind.{Kind}
use Rattle.lexer.specs.declared.token.Kind.TheVariants.{Word, Variable, Open, Close, Comma, Dot, Equal, Unequal, Stray}

abbrev pub code : Kind → ℕ
code Word = 0
code Variable = 1
code Open = 2
code Close = 3
code Comma = 4
code Dot = 5
code Equal = 6
code Unequal = 7
code Stray = 8

abbrev pub same_kind : Kind → Kind → Bool
same_kind a b = code a == code b

abbrev pub same_bytes : List ℕ → List ℕ → Bool
same_bytes = bytes_eq
