use Rattle.std.proofs.Common.{◌≡◌, ◌+◌, sym, ap, ◌∙◌, subst, arith}
use Rattle.offers.specs.Rules.{left_out}
use Rattle.offers.proofs.Gathering.{Going, start, goes_on, finished}
use Rattle.offers.proofs.gather.gather.Goals as goal
use Rattle.offers.proofs.gather.gather.Goals.{then-not-add_higher, else-not-add_higher}

pub loop-formula-init : goal.loop-formula-init
loop-formula-init c = start c.args.signature.now c.args.formulas.now c.new-patterns.result c.new-patterns.ensures

pub loop-formula-preserved : goal.loop-formula-preserved
loop-formula-preserved c =
    let n = c.loop-formula.left_out in
    let is : left_out c.add_higher.result n ≡ c.if-not-add_higher.left_out = elim c.if-not-add_higher.branch [
      | then-not-add_higher w ↦ ap (λ b. left_out b n) w.if-not-add_higher.true ∙ sym w.left_out-is
      | else-not-add_higher w ↦ ap (λ b. left_out b n) w.if-not-add_higher.false ∙ sym w.left_out-is
    ] in
    subst (λ k. Going c.args.signature.now c.args.formulas.now c.add_higher.new.patterns k (c.loop-formula.formula-index + 1)) is
    (goes_on c.formula-item.result c.add_higher.result c.loop-formula.invariant c.loop-formula-test.true c.formula-item.is c.add_higher.ensures)

pub overflow_add-left_out : goal.overflow_add-left_out
overflow_add-left_out c = omega (arith, c.loop-formula.invariant.few, c.loop-formula-test.true)

pub returns : goal.returns
returns c = finished c.loop-formula.invariant c.loop-formula-test.false
