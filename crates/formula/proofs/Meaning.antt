-- From what the passes over a formula's tokens find to what the formula says.
use Rattle.std.proofs.Common.{◌≡◌, ℕ, ◌≤◌, List, [], ◌∷◌, length, drop, is_some, Some, None, Ok, Err, Result, unwrap_or, sym, refl, ap, ◌∙◌, arith}
use Rattle.terms.specs.Term as terms
use Rattle.terms.specs.Sig.{Over}
use Rattle.terms.specs.Preorder.{preorder, decode, Fits}
use Rattle.terms.specs.Patterns.{nodes_of, term_of}
use Rattle.terms.specs.declared.pattern.Node.{Node}
use Rattle.terms.specs.declared.pattern.Pattern.{Pattern}
use Rattle.terms.proofs.Rows.{decode_preorder}
use Rattle.signature.specs.Signatures.{sig_of}
use Rattle.signature.specs.declared.signature.Signature.{Signature}
use Rattle.lexer.specs.Tokens.{Lexeme, tokens}
use Rattle.lexer.specs.declared.token.Kind.TheVariants.{Close, Dot}
use Rattle.grammar.specs.Fits.{Complete}
use Rattle.grammar.specs.Syntax.{Tree, Term, Literal, Sides, sides, Body, bare, wrapped, Parsed, Formula, formula, Is}
use Rattle.grammar.specs.Outcomes.{Checked, fits}
use Rattle.formula.specs.Uses.{uses, FirstMisused, NoneMisused}
use Rattle.formula.specs.Scans.{scan}
use Rattle.formula.specs.Numbering.{cells, laid, both_laid, with_left, with_right, resolved}
use Rattle.formula.specs.Rows.{Row, row_of}
use Rattle.formula.specs.Outcomes.{all_uses}
use Rattle.formula.proofs.Lowest.{misuse, first_misused, none_misused}
use Rattle.formula.proofs.Scanning.{body_scan}
use Rattle.formula.proofs.Laying.{Pair, ended, Halves, body_halves}
use Rattle.formula.proofs.Resolving.{term_laid, laid_within, over, none_left, none_right, Within, extends_same}

pub checked_ok : {text : List ℕ} → Checked text (Ok tt) → (length text ≤ 32768) × Complete (tokens text)
checked_ok (fits h c) = (h, c)

-- the parts of a formula's tokens
pub record Parts (all : List Lexeme) (x : Parsed) : Type 0 where
  pub closing : Lexeme
  pub dot : Lexeme
  pub literal : Body (drop 6 all) x.body (closing ∷ (dot ∷ []))
  pub closes : Is Close closing
  pub ends : Is Dot dot
  pub behind : List Lexeme
  pub role_is : drop 4 all ≡ x.role ∷ behind

pub parts : {all : List Lexeme} {x : Parsed} → Formula all x [] → Parts all x
parts (formula {k = k} {c = c} {d = d} {ts = ts} kw cnf ko kn km kr kk b kc kd) = record { closing = c; dot = d; literal = b; closes = kc; ends = kd; behind = k ∷ ts; role_is = refl }

record Sided (t : Tree) : Type 0 where
  from : List Lexeme
  to : List Lexeme
  term : Term from t to

both_terms : {ts us : List Lexeme} {x : Literal} → Sides ts x us → Sided x.left × Sided x.right
both_terms (sides {ts = ts} {us = us} {rest = rest} {s = t} l k r) = (record { from = ts; to = t ∷ us; term = l }, record { from = us; to = rest; term = r })

body_terms : {ts us : List Lexeme} {x : Literal} → Body ts x us → Sided x.left × Sided x.right
body_terms (bare b) = both_terms b
body_terms (wrapped ko b kc) = both_terms b

ended_err : (s : Signature) (r : Result Pair ℕ) (rest : List Lexeme) (q : ℕ) → ended s r rest ≡ Err q → r ≡ Err q
ended_err s (Ok p) rest q e = let z : ◌≡◌ {A = ℕ} 0 1 = cc in absurd (omega arith)
ended_err s (Err p) rest q e = ap Err (same e)
  where
    same : {m n : ℕ} → ◌≡◌ {A = Result Row ℕ} (Err m) (Err n) → m ≡ n
    same e = cc

row_same : {x y : Row} → ◌≡◌ {A = Result Row ℕ} (Ok x) (Ok y) → x ≡ y
row_same e = cc

ended_ok : (s : Signature) (r : Result Pair ℕ) (rest : List Lexeme) (w : Row) → ended s r rest ≡ Ok w → (r ≡ Ok (w.variables, w.nodes)) × (w.rest ≡ rest)
ended_ok s (Ok p) rest w e = let same = row_same e in (ap (λ (v : Row). Ok (v.variables, v.nodes)) same, sym (ap (λ (v : Row). v.rest) same))
ended_ok s (Err p) rest w e = let z : ◌≡◌ {A = ℕ} 0 1 = cc in absurd (omega arith)

-- a row that was laid out is a pattern's, and the pattern is the term written
pub row_fits : (s : Signature) (t : terms.Term) (ns : List Node) → Within s ns → ns ≡ preorder t → Fits ns
row_fits s t ns w e = record { short = w.few; whole = ap (λ ms. is_some (decode ms)) e ∙ ap is_some (decode_preorder t); within = w.tidy }

pub pattern_term : (t : terms.Term) (p : Pattern) (ns : List Node) → nodes_of p ≡ ns → ns ≡ preorder t → term_of p ≡ t
pattern_term t p ns e f = ap (λ ms. unwrap_or (decode ms) (terms.var 0)) (e ∙ f) ∙ ap (λ o. unwrap_or o (terms.var 0)) (decode_preorder t)

module _ (s : Signature) (all : List Lexeme) (x : Parsed) (is : Formula all x []) where
  pub halves : Halves s (drop 6 all) x.body
  halves = let p = parts is in body_halves s p.literal p.closes p.ends

  scanned : scan s [] None (drop 6 all) ≡ misuse s (all_uses x.body) None
  scanned = let p = parts is in body_scan s p.literal p.closes p.ends None

  pub unknown_at : (ts : List Lexeme) (p : ℕ) → ts ≡ drop 6 all → Some p ≡ scan s [] None ts → FirstMisused s (all_uses x.body) p
  unknown_at ts p e h = first_misused s (all_uses x.body) p (sym (h ∙ ap (scan s [] None) e ∙ scanned))

  pub all_known : (ts : List Lexeme) → ts ≡ drop 6 all → None ≡ scan s [] None ts → NoneMisused s (all_uses x.body)
  all_known ts e h = none_misused s (all_uses x.body) (sym (h ∙ ap (scan s [] None) e ∙ scanned))

  pub left_large : (ts : List Lexeme) (q : ℕ) → ts ≡ drop 6 all → row_of s [] [] ts ≡ Err q → both_laid s x.body.left x.body.right ≡ Err q
  left_large ts q e h = ap (with_left s (cells x.body.right)) (ended_err s (laid s [] [] (cells x.body.left)) _ q (sym (halves.left [] []) ∙ ap (row_of s [] []) (sym e) ∙ h))

  -- both rows, one behind the other
  pub record Rows (ts : List Lexeme) (l : Row) : Type 0 where
    pub is_left : laid s [] [] (cells x.body.left) ≡ Ok (l.variables, l.nodes)
    pub rest_is : l.rest ≡ x.body.sign ∷ halves.rest

  pub left_row : (ts : List Lexeme) (l : Row) → ts ≡ drop 6 all → row_of s [] [] ts ≡ Ok l → Rows ts l
  left_row ts l e h =
      let r = ended_ok s (laid s [] [] (cells x.body.left)) (x.body.sign ∷ halves.rest) l (sym (halves.left [] []) ∙ ap (row_of s [] []) (sym e) ∙ h) in
      record { is_left = r.0; rest_is = r.1 }

  module _ (ts : List Lexeme) (l : Row) (first : Rows ts l) (us : List Lexeme) (us-is : us ≡ drop 1 l.rest) where
    us_rest : us ≡ halves.rest
    us_rest = us-is ∙ ap (drop 1) first.rest_is

    pub right_large : (q : ℕ) → row_of s l.variables [] us ≡ Err q → both_laid s x.body.left x.body.right ≡ Err q
    right_large q h =
        let r = ended_err s (laid s l.variables [] (cells x.body.right)) [] q (sym (halves.right l.variables []) ∙ ap (row_of s l.variables []) (sym us_rest) ∙ h) in
        ap (with_left s (cells x.body.right)) first.is_left ∙ ap (with_right l.nodes) r

    module _ (r : Row) (h : row_of s l.variables [] us ≡ Ok r) (known : NoneMisused s (all_uses x.body)) where
      is_right : laid s l.variables [] (cells x.body.right) ≡ Ok (r.variables, r.nodes)
      is_right = (ended_ok s (laid s l.variables [] (cells x.body.right)) [] r (sym (halves.right l.variables []) ∙ ap (row_of s l.variables []) (sym us_rest) ∙ h)).0

      pub both : both_laid s x.body.left x.body.right ≡ Ok (record { variables = r.variables; left = l.nodes; right = r.nodes })
      both = ap (with_left s (cells x.body.right)) first.is_left ∙ ap (with_right l.nodes) is_right

      known_left : NoneMisused s (uses x.body.left)
      known_left = none_left s (uses x.body.left) (uses x.body.right) known

      known_right : NoneMisused s (uses x.body.right)
      known_right = none_right s (uses x.body.left) (uses x.body.right) known

      pub right_nodes : r.nodes ≡ preorder (resolved s r.variables x.body.right)
      right_nodes = (term_laid s (body_terms (parts is).literal).1.term known_right l.variables [] (r.variables, r.nodes) is_right).are r.variables (extends_same r.variables)

      pub left_nodes : l.nodes ≡ preorder (resolved s r.variables x.body.left)
      left_nodes =
          let grown = (term_laid s (body_terms (parts is).literal).1.term known_right l.variables [] (r.variables, r.nodes) is_right).extends in
          (term_laid s (body_terms (parts is).literal).0.term known_left [] [] (l.variables, l.nodes) first.is_left).are r.variables grown

      nothing : Within s []
      nothing = record { few = omega arith; tidy = refl }

      pub left_fits : Fits l.nodes
      left_fits = row_fits s _ l.nodes (laid_within s (cells x.body.left) [] [] (l.variables, l.nodes) nothing first.is_left) left_nodes

      pub right_fits : Fits r.nodes
      right_fits = row_fits s _ r.nodes (laid_within s (cells x.body.right) l.variables [] (r.variables, r.nodes) nothing is_right) right_nodes

      pub left_over : Over (sig_of s) (resolved s r.variables x.body.left)
      left_over = over s r.variables x.body.left known_left

      pub right_over : Over (sig_of s) (resolved s r.variables x.body.right)
      right_over = over s r.variables x.body.right known_right
