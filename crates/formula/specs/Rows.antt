-- Laying out a side over tokens: up to the sign or the end, cells become nodes, and all else is passed over.
use Rattle.std.specs.Prelude.{◌≡◌, ℕ, ◌<◌, ◌≤◌, cond, List, [], ◌∷◌, ◌++◌, map, length, take, drop, Some, None, Ok, Err, Option, Result, nat_lt}
use Rattle.terms.specs.declared.pattern.Node.{Node}
use Rattle.terms.specs.declared.pattern.Node.TheVariants.{Var}
use Rattle.signature.specs.declared.signature.Signature.{Signature}
use Rattle.lexer.specs.Tokens.{Lexeme}
use Rattle.lexer.specs.declared.token.Kind.TheVariants.{Word, Variable, Open, Close, Comma, Dot, Equal, Unequal, Stray}
use Rattle.row.specs.Items.{items}
use Rattle.formula.specs.Symbols.{index_of, symbol_of}
use Rattle.formula.specs.Numbering.{with_name}
use Rattle.formula.specs.declared.variables.Span.{Span}
use Rattle.formula.specs.declared.variables.Variables.{Variables}

pub record Row : Type 0 where
  pub variables : List (List ℕ)
  pub nodes : List Node
  pub rest : List Lexeme

abbrev pub row_of : Signature → List (List ℕ) → List Node → List Lexeme → Result Row ℕ
row_of s vs ns [] = Ok (record { variables = vs; nodes = ns; rest = [] })
row_of s vs ns (t ∷ ts) = elim t.kind [
  | Word ↦ cond (nat_lt (length ns) 32) (elim (symbol_of s t.bytes) [ None ↦ Err t.place | Some n ↦ row_of s vs (ns ++ n ∷ []) ts ]) (Err t.place)
  | Variable ↦ cond (nat_lt (length ns) 32) (cond (nat_lt (index_of t.bytes vs) 16) (row_of s (with_name vs t.bytes) (ns ++ Var (index_of t.bytes vs) ∷ []) ts) (Err t.place)) (Err t.place)
  | Open ↦ row_of s vs ns ts
  | Close ↦ row_of s vs ns ts
  | Comma ↦ row_of s vs ns ts
  | Dot ↦ row_of s vs ns ts
  | Equal ↦ Ok (record { variables = vs; nodes = ns; rest = t ∷ ts })
  | Unequal ↦ Ok (record { variables = vs; nodes = ns; rest = t ∷ ts })
  | Stray ↦ row_of s vs ns ts
]

-- the names that a table of variables stands for in a text
abbrev pub spanned : List ℕ → List Span → List (List ℕ)
spanned text ss = map (λ (s : Span). take s.len (drop s.place text)) ss

abbrev pub names_in : List ℕ → Variables → List (List ℕ)
names_in text v = spanned text (items v.spans)

-- a variable took the next number, if one was left
abbrev pub Added : Variables → Span → Variables → Option ℕ → Type 0
Added v s w None = (16 ≤ length (items v.spans)) × (w ≡ v)
Added v s w (Some k) = (length (items v.spans) < 16) × (k ≡ length (items v.spans)) × (items w.spans ≡ items v.spans ++ s ∷ [])
