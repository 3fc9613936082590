use Rattle.std.proofs.Common.{◌+◌, ◌<◌, ◌≢◌, length, ap, ◌∙◌, arith, below_more}
use Rattle.std.proofs.lemmas.List.{length-set, get_or-set_same, get_or-set_other}
use Rattle.terms.specs.Term.{cells}
use Rattle.subterms.specs.Places.{at}
use Rattle.subterms.proofs.Patterns.{pattern_short}
use Rattle.subterms.proofs.Subterms.new.Goals as goal

pub loop-p-preserved : goal.loop-p-preserved
loop-p-preserved c =
    let p = c.loop-p.p in
    let ends = c.loop-p.ends in
    let room : p < length ends = omega (arith, ap length c.nodes-nodes.ensures, pattern_short c.args.pattern.now) in (
      length-set ends p _ ∙ c.loop-p.invariant.0,
      below_more _ _ (λ k h. let ne : k ≢ p = omega arith in get_or-set_other ends p k c.end.result 0 ne ∙ c.loop-p.invariant.1 k h) (get_or-set_same ends p c.end.result 0 room ∙ (c.end.ensures (omega (arith, c.loop-p-test.true)) ∙ ap (λ k. k + cells (at c.nodes-nodes.result.now k)) (omega arith))),
    )

pub invariant_of-result : goal.invariant_of-result
invariant_of-result c = record { ended = λ k h. (rw c.nodes-nodes.ensures at c.loop-p.invariant.1) k (omega (arith, h, ap length c.nodes-nodes.ensures)) }
