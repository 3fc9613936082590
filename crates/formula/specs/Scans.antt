-- Counting arguments over tokens: the symbols whose parentheses are open wait on a stack, the innermost first.
use Rattle.std.specs.Prelude.{ℕ, ◌+◌, min, Bool, false, cond, List, [], ◌∷◌, Some, None, Option, ◌==◌, nat_lt}
use Rattle.std.specs.Option.{unwrap_or}
use Rattle.terms.specs.declared.pattern.Node.{Node}
use Rattle.terms.specs.declared.pattern.Node.TheVariants.{Var, App}
use Rattle.signature.specs.declared.signature.Signature.{Signature}
use Rattle.lexer.specs.Tokens.{Lexeme}
use Rattle.lexer.specs.declared.token.Kind.TheVariants.{Word, Variable, Open, Close, Comma, Dot, Equal, Unequal, Stray}
use Rattle.grammar.specs.Kinds.{same_kind}
use Rattle.formula.specs.Symbols.{symbol_of}
use Rattle.formula.specs.declared.frame.Frame.{Frame}

-- no arity for a name that no line has
abbrev pub arity_in : Option Node → Option ℕ
arity_in None = None
arity_in (Some (Var x)) = None
arity_in (Some (App f a)) = Some a

abbrev pub arity_for : Signature → List ℕ → Option ℕ
arity_for s w = arity_in (symbol_of s w)

-- the arguments that a symbol wants whose parentheses are open: 0, which one or more never are, for a name that no line has
abbrev pub wanted : Signature → List ℕ → ℕ
wanted s w = unwrap_or (arity_for s w) 0

-- so many arguments are as many as the arity
abbrev pub as_many : ℕ → Option ℕ → Bool
as_many n None = false
as_many n (Some a) = n == a

abbrev pub low : Option ℕ → ℕ → Option ℕ
low None p = Some p
low (Some q) p = Some (min q p)

-- a place is noted unless all is right there
abbrev pub note : Bool → Option ℕ → ℕ → Option ℕ
note right b p = cond right b (low b p)

-- one argument more; five are as wrong as any more
abbrev pub bumped : ℕ → ℕ
bumped n = cond (nat_lt n 5) (n + 1) n

abbrev pub opens : List Lexeme → Bool
opens [] = false
opens (t ∷ ts) = same_kind t.kind Open

abbrev pub at_comma : List Frame → List Frame
at_comma [] = []
at_comma (f ∷ fs) = record { place = f.place; arity = f.arity; args = bumped f.args } ∷ fs

abbrev pub at_close : List Frame → List Frame
at_close [] = []
at_close (f ∷ fs) = fs

abbrev pub noted_at_close : List Frame → Option ℕ → Option ℕ
noted_at_close [] b = b
noted_at_close (f ∷ fs) b = note (f.args == f.arity) b f.place

-- the stack behind a token, and the lowest place noted
abbrev pub stacked : Signature → List Frame → Lexeme → Bool → List Frame
stacked s fs t o = elim t.kind [ Word ↦ cond o (record { place = t.place; arity = wanted s t.bytes; args = 1 } ∷ fs) fs | Variable ↦ fs | Open ↦ fs | Close ↦ at_close fs | Comma ↦ at_comma fs | Dot ↦ fs | Equal ↦ fs | Unequal ↦ fs | Stray ↦ fs ]

abbrev pub noted : Signature → List Frame → Option ℕ → Lexeme → Bool → Option ℕ
noted s fs b t o = elim t.kind [ Word ↦ cond o b (note (as_many 0 (arity_for s t.bytes)) b t.place) | Variable ↦ b | Open ↦ b | Close ↦ noted_at_close fs b | Comma ↦ b | Dot ↦ b | Equal ↦ b | Unequal ↦ b | Stray ↦ b ]

-- the lowest place noted over all tokens
abbrev pub scan : Signature → List Frame → Option ℕ → List Lexeme → Option ℕ
scan s fs b [] = b
scan s fs b (t ∷ ts) = scan s (stacked s fs t (opens ts)) (noted s fs b t (opens ts)) ts
