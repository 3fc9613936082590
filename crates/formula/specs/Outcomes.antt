-- What reading a formula comes to.
use Rattle.std.specs.Prelude.{◌≡◌, ℕ, List, [], ◌++◌, length, Ok, Err, Result}
use Rattle.refusal.specs.declared.Refusal.{Refusal}
use Rattle.refusal.specs.declared.Refusal.TheVariants.{Symbol, Size}
use Rattle.terms.specs.Sig.{Over}
use Rattle.terms.specs.Patterns.{term_of}
use Rattle.signature.specs.Signatures.{sig_of}
use Rattle.signature.specs.declared.signature.Signature.{Signature}
use Rattle.lexer.specs.Tokens.{tokens}
use Rattle.grammar.specs.Syntax.{Parsed, Formula, Literal}
use Rattle.grammar.specs.Outcomes.{Checked}
use Rattle.formula.specs.Uses.{Use, uses, FirstMisused, NoneMisused}
use Rattle.formula.specs.Numbering.{Sides, both_laid, resolved}
use Rattle.formula.specs.Roles.{role_named, sign_of}
use Rattle.formula.specs.declared.equation.Equation.{Equation}

abbrev pub all_uses : Literal → List Use
all_uses x = uses x.left ++ uses x.right

-- the formula as it was read: both sides are the terms written, over the signature
pub record Read (s : Signature) (p : Parsed) (e : Equation) : Type 0 where
  pub sides : Sides
  pub laid : both_laid s p.body.left p.body.right ≡ Ok sides
  pub left : term_of e.left ≡ resolved s sides.variables p.body.left
  pub right : term_of e.right ≡ resolved s sides.variables p.body.right
  pub left_over : Over (sig_of s) (term_of e.left)
  pub right_over : Over (sig_of s) (term_of e.right)
  pub role : e.role ≡ role_named p.role.bytes
  pub sign : e.sign ≡ sign_of p.body.sign.kind
  pub count : e.variables ≡ length sides.variables

-- each check goes over the whole formula before the next
pub data Outcome (s : Signature) (text : List ℕ) : Result Equation Refusal → Type 0 where
  ungrammatical : {f : Refusal} → Checked text (Err f) → Outcome s text (Err f)
  unknown : {p : ℕ} (x : Parsed) → Checked text (Ok tt) → Formula (tokens text) x [] → FirstMisused s (all_uses x.body) p → Outcome s text (Err (Symbol p))
  too_large : {p : ℕ} (x : Parsed) → Checked text (Ok tt) → Formula (tokens text) x [] → NoneMisused s (all_uses x.body) → both_laid s x.body.left x.body.right ≡ Err p → Outcome s text (Err (Size p))
  read : {e : Equation} (x : Parsed) → Checked text (Ok tt) → Formula (tokens text) x [] → NoneMisused s (all_uses x.body) → Read s x e → Outcome s text (Ok e)
