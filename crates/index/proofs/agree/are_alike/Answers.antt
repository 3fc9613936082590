use Rattle.std.proofs.Common.{sym, refl, ◌∙◌}
use Rattle.std.proofs.lemmas.Bool.{false≢true}
use Rattle.index.proofs.agree.are_alike.Goals as goal

pub returns-then-has_all : goal.returns-then-has_all
returns-then-has_all c = (
  λ e n. (c.if-has_all.ensures.0 refl n, c.has_all-then-has_all.ensures.0 e n),
  λ h. c.has_all-then-has_all.ensures.1 (λ n. (h n).1),
)

pub returns-else-has_all : goal.returns-else-has_all
returns-else-has_all c = (
  λ e. absurd (false≢true (sym c.if-has_all.false ∙ e)),
  λ h. c.has_all.ensures.1 (λ n. (h n).0),
)
