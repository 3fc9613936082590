-- Which formulas may become rewrite rules, how their sides compare, and their text.
use Rattle.std.specs.Prelude.{◌≡◌, ℕ, List, [], length, take, vec_items}
use Rattle.terms.specs.Term.{Term}
use Rattle.terms.specs.Patterns.{term_of}
use Rattle.signature.specs.Signatures.{sig_of, names_of}
use Rattle.signature.specs.Written.{written}
use Rattle.signature.specs.declared.signature.Signature.{Signature}
pub use Rattle.formula.specs.Roles.{rule}
use Rattle.formula.specs.declared.equation.Equation.{Equation}
use Rattle.rewriting.specs.Order.{Within}
use Rattle.rewriting.specs.Kbo.{Kbo}
use Rattle.rewriting.specs.Lpo.{Lpo}
use Rattle.order.specs.Sides.{Turned}
use Rattle.bank.specs.declared.cell.Cell.{Cell}
use Rattle.bank.specs.Means.{Means}
use Rattle.enter.specs.Grown.{Grown}
use Rattle.writer.specs.Outcome.{Readable}
use Rattle.sides.specs.declared.Higher.{Higher}
use Rattle.sides.specs.declared.Sides.{Sides}

pub record Compared (s : Signature) (e : Equation) (h : Higher) : Type 0 where
  pub weighed : Turned (Within (sig_of s) (Kbo (sig_of s).weight)) h.knuth_bendix (term_of e.left) (term_of e.right)
  pub path : Turned (Within (sig_of s) Lpo) h.path (term_of e.left) (term_of e.right)

-- the term was entered into a bank of the counted cells before, which grew to after, n cells; the text is the term's
pub record Held (s : Signature) (t : Term) (before after : List Cell) (n : ℕ) (text : List ℕ) : Type 0 where
  pub cell : ℕ
  pub grown : Grown (sig_of s) before t after cell
  pub counted : n ≡ length after
  pub is : text ≡ written (names_of s) t

-- the cell is one of a bank that keeps its rules, and the text is its term's
pub record Told (s : Signature) (cells : List Cell) (n i : ℕ) (text : List ℕ) : Type 0 where
  pub readable : Readable s cells n i
  pub term : Term
  pub means : Means (take n cells) i term
  pub is : text ≡ written (names_of s) term

-- both texts, and the number of cells of a bank that holds both sides and nothing else
pub record Texts (s : Signature) (e : Equation) (texts : Sides) : Type 0 where
  pub first : List Cell
  pub both : List Cell
  pub n : ℕ
  pub left : Held s (term_of e.left) [] first n (vec_items texts.left)
  pub right : Held s (term_of e.right) first both texts.cells (vec_items texts.right)
