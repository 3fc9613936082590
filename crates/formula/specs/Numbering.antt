-- Variables get numbers by first occurrence, left side first; a side has at most 32 cells, a formula at most 16 variables.
use Rattle.std.specs.Prelude.{ℕ, cond, List, [], ◌∷◌, ◌++◌, length, Some, None, Ok, Err, Result, nat_lt}
use Rattle.terms.specs.Term as terms
use Rattle.terms.specs.declared.pattern.Node.{Node}
use Rattle.terms.specs.declared.pattern.Node.TheVariants.{Var}
use Rattle.signature.specs.declared.signature.Signature.{Signature}
use Rattle.lexer.specs.Tokens.{Lexeme}
use Rattle.lexer.specs.declared.token.Kind.TheVariants.{Variable}
use Rattle.grammar.specs.Kinds.{same_kind}
use Rattle.grammar.specs.Syntax.{Tree, Trees, leaf, node, nil, ◌▹◌}
use Rattle.formula.specs.Symbols.{index_of, number_in, symbol_of}

-- the cells of a side in the order of the text, which is preorder
abbrev mutual
  pub cells : Tree → List Lexeme
  cells (leaf v) = v ∷ []
  cells (node w ts) = w ∷ cellss ts

  pub cellss : Trees → List Lexeme
  cellss nil = []
  cellss (t ▹ ts) = cells t ++ cellss ts

-- the variables met so far, in order, and one more if it is new
abbrev pub with_name : List (List ℕ) → List ℕ → List (List ℕ)
with_name vs v = cond (nat_lt (index_of v vs) (length vs)) vs (vs ++ v ∷ [])

-- the cells of a side as nodes behind ns, with the variables met; or the place of the first that is one too many
abbrev pub laid : Signature → List (List ℕ) → List Node → List Lexeme → Result (List (List ℕ) × List Node) ℕ
laid s vs ns [] = Ok (vs, ns)
laid s vs ns (t ∷ ts) =
    cond (nat_lt (length ns) 32)
    (cond (same_kind t.kind Variable)
    (cond (nat_lt (index_of t.bytes vs) 16) (laid s (with_name vs t.bytes) (ns ++ Var (index_of t.bytes vs) ∷ []) ts) (Err t.place))
    (elim (symbol_of s t.bytes) [ None ↦ Err t.place | Some n ↦ laid s vs (ns ++ n ∷ []) ts ]))
    (Err t.place)

-- both sides, with the variables of the formula
pub record Sides : Type 0 where
  pub variables : List (List ℕ)
  pub left : List Node
  pub right : List Node

abbrev pub with_right : List Node → Result (List (List ℕ) × List Node) ℕ → Result Sides ℕ
with_right l (Ok p) = Ok (record { variables = p.0; left = l; right = p.1 })
with_right l (Err p) = Err p

abbrev pub with_left : Signature → List Lexeme → Result (List (List ℕ) × List Node) ℕ → Result Sides ℕ
with_left s ts (Ok p) = with_right p.1 (laid s p.0 [] ts)
with_left s ts (Err p) = Err p

abbrev pub both_laid : Signature → Tree → Tree → Result Sides ℕ
both_laid s l r = with_left s (cells r) (laid s [] [] (cells l))

-- the term that is written: its symbols by their lines, its variables by their numbers
abbrev mutual
  pub resolved : Signature → List (List ℕ) → Tree → terms.Term
  resolved s vs (leaf v) = terms.var (index_of v.bytes vs)
  resolved s vs (node w ts) = terms.app (number_in s w.bytes) (resolveds s vs ts)

  pub resolveds : Signature → List (List ℕ) → Trees → terms.Terms
  resolveds s vs nil = terms.nil
  resolveds s vs (t ▹ ts) = terms.◌▹◌ (resolved s vs t) (resolveds s vs ts)
