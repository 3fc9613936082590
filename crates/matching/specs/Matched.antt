-- What matching answers: the bindings that make the pattern's instance, or that the cell stands for none.
use Rattle.std.specs.Prelude.{◌≡◌, ℕ, ◌<◌, true, List, length, is_some, Some, None, Option, slice_index_or}
use Rattle.terms.specs.Term.{Term, Occ, sub}
use Rattle.terms.specs.Sig.{Sig}
use Rattle.terms.specs.Patterns.{term_of}
use Rattle.terms.specs.declared.pattern.Pattern.{Pattern}
use Rattle.bank.specs.declared.cell.Cell.{Cell}
use Rattle.bank.specs.Rules.{Rules}
use Rattle.bank.specs.Means.{Means}
use Rattle.bank.specs.Bindings.{Binds, Instance}

-- the bindings θ bind every variable of p, and cell i stands for the instance that they make
pub record Bound (b : List Cell) (p : Term) (θ : List (Option ℕ)) (i : ℕ) : Type 0 where
  pub inst : ℕ → Term
  pub binds : Binds b θ inst
  pub means : Means b i (sub inst p)
  pub covers : (x : ℕ) → Occ x p → is_some (slice_index_or θ x None) ≡ true

-- a bank that breaks its rules gets some answer
abbrev pub Matched : List Cell → Pattern → ℕ → Option (List (Option ℕ)) → Type 0
Matched b p i None = (S : Sig) → Rules S b → i < length b → Instance b (term_of p) i → ⊥
Matched b p i (Some θ) = (length θ ≡ 16) × ((S : Sig) → Rules S b → i < length b → Bound b (term_of p) θ i)
