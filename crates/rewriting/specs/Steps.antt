-- Rewriting over a signature.
use Rattle.std.specs.Prelude.{ℕ}
use Rattle.terms.specs.Term.{Term, sub}
use Rattle.terms.specs.Sig.{Sig, Over}
use Rattle.rewriting.specs.Replace.{Put}

-- t is s, a term over the signature, with the instance of a rule's right side for that of its left side at one place
pub record Rewrites (S : Sig) (rule : Term → Term → Type 0) (s t : Term) : Type 0 where
  pub left : Term
  pub right : Term
  pub by : rule left right
  pub inst : ℕ → Term
  pub put : Put (sub inst left) (sub inst right) s t
  pub over : Over S s
