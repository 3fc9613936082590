-- The symbols that a formula uses, and with how many arguments.
use Rattle.std.specs.Prelude.{◌≡◌, ℕ, ◌+◌, ◌≤◌, Bool, true, false, not, List, [], ◌∷◌, ◌++◌, Some, None, ◌==◌}
use Rattle.terms.specs.declared.pattern.Node.TheVariants.{Var, App}
use Rattle.signature.specs.declared.signature.Signature.{Signature}
use Rattle.lexer.specs.Tokens.{Lexeme}
use Rattle.grammar.specs.Syntax.{Tree, Trees, leaf, node, nil, ◌▹◌}
use Rattle.formula.specs.Symbols.{symbol_of}

pub record Use : Type 0 where
  pub word : Lexeme
  pub args : ℕ

abbrev pub count : Trees → ℕ
count nil = 0
count (t ▹ ts) = 1 + count ts

abbrev mutual
  pub uses : Tree → List Use
  uses (leaf v) = []
  uses (node w ts) = record { word = w; args = count ts } ∷ usess ts

  pub usess : Trees → List Use
  usess nil = []
  usess (t ▹ ts) = uses t ++ usess ts

-- no line of the signature has this name and this many arguments
abbrev pub misused : Signature → Use → Bool
misused s u = elim (symbol_of s u.word.bytes) [ None ↦ true | Some n ↦ elim n [ Var x ↦ true | App f a ↦ not (a == u.args) ] ]

pub data Listed (u : Use) : List Use → Type 0 where
  here : {us : List Use} → Listed u (u ∷ us)
  later : {v : Use} {us : List Use} → Listed u us → Listed u (v ∷ us)

-- p is the place of a misused symbol, and none stands before it
pub record FirstMisused (s : Signature) (us : List Use) (p : ℕ) : Type 0 where
  pub culprit : Use
  pub among : Listed culprit us
  pub bad : misused s culprit ≡ true
  pub place : culprit.word.place ≡ p
  pub first : (u : Use) → Listed u us → misused s u ≡ true → p ≤ u.word.place

abbrev pub NoneMisused : Signature → List Use → Type 0
NoneMisused s us = (u : Use) → Listed u us → misused s u ≡ false
