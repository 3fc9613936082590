-- The grammar as its productions. `P ts x rest` says: the tokens ts begin with the phrase x, and rest is what follows it.
--   formula := cnf ( name , role , body ) .
--   body    := literal | ( literal )
--   literal := term = term | term != term
--   term    := variable | word | word ( term , .. term )
use Rattle.std.specs.Prelude.{◌≡◌, ◌⊎◌, List, ◌∷◌, codes}
use Rattle.lexer.specs.Tokens.{Lexeme}
use Rattle.lexer.specs.declared.token.Kind.{Kind}
use Rattle.lexer.specs.declared.token.Kind.TheVariants.{Word, Variable, Open, Close, Comma, Dot, Equal, Unequal}

infixr 67 ◌▹◌
mutual
  -- a term as it is written: variables and words are still tokens
  pub data Tree : Type 0 where
    leaf : Lexeme → Tree
    node : Lexeme → Trees → Tree

  pub data Trees : Type 0 where
    nil : Trees
    ◌▹◌ : Tree → Trees → Trees

abbrev pub Is : Kind → Lexeme → Type 0
Is k t = t.kind ≡ k

mutual
  pub data Term : List Lexeme → Tree → List Lexeme → Type 0 where
    variable : {v : Lexeme} {rest : List Lexeme} → Is Variable v → Term (v ∷ rest) (leaf v) rest
    constant : {w : Lexeme} {rest : List Lexeme} → Is Word w → Term (w ∷ rest) (node w nil) rest
    applied : {w o : Lexeme} {ts rest : List Lexeme} {us : Trees} → Is Word w → Is Open o → Args ts us rest → Term (w ∷ (o ∷ ts)) (node w us) rest

  -- the arguments behind an opening parenthesis, with the closing one
  pub data Args : List Lexeme → Trees → List Lexeme → Type 0 where
    last : {c : Lexeme} {ts rest : List Lexeme} {t : Tree} → Term ts t (c ∷ rest) → Is Close c → Args ts (t ▹ nil) rest
    more : {m : Lexeme} {ts us rest : List Lexeme} {t : Tree} {more_trees : Trees} → Term ts t (m ∷ us) → Is Comma m → Args us more_trees rest → Args ts (t ▹ more_trees) rest

-- two sides and the sign between them
pub record Literal : Type 0 where
  pub left : Tree
  pub sign : Lexeme
  pub right : Tree

pub data Sides : List Lexeme → Literal → List Lexeme → Type 0 where
  sides : {ts us rest : List Lexeme} {l r : Tree} {s : Lexeme} → Term ts l (s ∷ us) → Is Equal s ⊎ Is Unequal s → Term us r rest → Sides ts (record { left = l; sign = s; right = r }) rest

pub data Body : List Lexeme → Literal → List Lexeme → Type 0 where
  bare : {ts rest : List Lexeme} {x : Literal} → Sides ts x rest → Body ts x rest
  wrapped : {o c : Lexeme} {ts rest : List Lexeme} {x : Literal} → Is Open o → Sides ts x (c ∷ rest) → Is Close c → Body (o ∷ ts) x rest

-- what a formula says
pub record Parsed : Type 0 where
  pub name : Lexeme
  pub role : Lexeme
  pub body : Literal

pub data Formula : List Lexeme → Parsed → List Lexeme → Type 0 where
  formula : {w o n m r k c d : Lexeme} {ts rest : List Lexeme} {x : Literal} → Is Word w → w.bytes ≡ codes "cnf" → Is Open o → Is Word n → Is Comma m → Is Word r → Is Comma k → Body ts x (c ∷ (d ∷ rest)) → Is Close c → Is Dot d → Formula (w ∷ (o ∷ (n ∷ (m ∷ (r ∷ (k ∷ ts)))))) (record { name = n; role = r; body = x }) rest
