-- Both terms of a goal in the bank.
use Rattle.std.proofs.Common.{◌≡◌, ℕ, List, [], length, take, Some, Ok, sym, subst}
use Rattle.terms.specs.Patterns.{term_of}
use Rattle.terms.specs.declared.pattern.Pattern.{Pattern}
use Rattle.signature.specs.declared.signature.Signature.{Signature}
use Rattle.bank.specs.declared.cell.Cell.{Cell}
use Rattle.bank.specs.Means.{Means}
use Rattle.bank.proofs.Readings.{grown}
use Rattle.enter.specs.Enter.{enter}
use Rattle.enter.specs.Outcome.{Entered}
use Rattle.run.specs.Goals.{EnteredBoth}

pub both_entered : (s : Signature) (p q : Pattern) (cells cells₁ cells₂ : List Cell) (n₁ n₂ i j : ℕ) → length cells₁ ≡ length cells
    → Entered s p cells 0 cells₁ n₁ (Ok i) → Entered s q cells₁ n₁ cells₂ n₂ (Ok j) → EnteredBoth s p q cells cells₂ n₂ (Ok (i, j))
both_entered s p q cells cells₁ cells₂ n₁ n₂ i j same f g = (
  g.2,
  record {
    first = take n₁ cells₁;
    left = f.3;
    right = subst (λ l. enter l [] (term_of q) (take n₁ cells₁) ≡ Some (take n₂ cells₂, j)) same g.3;
  },
  record {
    rules = g.4.rules;
    left = subst (λ z. Means z i (term_of p)) (sym g.4.grows) (grown (take n₁ cells₁) g.4.more (term_of p) f.4.means);
    right = g.4.means;
  },
)
