use Rattle.std.proofs.Common.{◌≡◌, refl}
use Rattle.std.proofs.lemmas.Bool.{both_ways}
use Rattle.terms.specs.Term.{Term}
use Rattle.rewriting.specs.Lpo.{LpoSome}
use Rattle.rewriting.specs.Replace.{args}
use Rattle.rewriting.proofs.LpoCases.{by_some, by_heads, not_lpo, heads_apart}
use Rattle.lpo.specs.Seen.{Says, SaysHeads}
use Rattle.lpo.specs.declared.sides.Compared.{Compared}
use Rattle.lpo.specs.declared.sides.Compared.TheVariants.{Above, Equal, Neither}
use Rattle.lpo.proofs.sides.Sides.compare.Goals as goal

pub returns-then-some_argument : goal.returns-then-some_argument
returns-then-some_argument c = by_some _ _ (c.some_argument.ensures.0 c.if-some_argument.true)

pub returns-then-each_argument : goal.returns-then-each_argument
returns-then-each_argument c = by_heads _ _ c.in-Above.ensures (c.each_argument.ensures.0 c.if-each_argument.true)

pub returns-else-each_argument : goal.returns-else-each_argument
returns-else-each_argument c = (
  not_lpo _ _ (λ h. both_ways _ c.if-some_argument.false (c.some_argument.ensures.1 h)) (λ h. both_ways _ c.if-each_argument.false (c.each_argument.ensures.1 h.1)),
  heads_apart _ _ c.in-Above.ensures,
)

-- where no argument is as high, heads that are not above say what the terms do
not_above : (r : Compared) (s t : Term) → SaysHeads r s t → (r ≡ Above → ⊥) → (LpoSome (args s) t → ⊥) → Says r s t
not_above Above s t h n some = absurd (n refl)
not_above Equal s t h n some = h
not_above Neither s t h n some = (not_lpo s t some (λ l. h.0 l.0), h.1)

pub returns-in_default : goal.returns-in_default
returns-in_default c = not_above _ _ _ c.heads.ensures c.in_default.not-Above (λ h. both_ways _ c.if-some_argument.false (c.some_argument.ensures.1 h))
