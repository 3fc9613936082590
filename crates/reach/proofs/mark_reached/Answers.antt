use Rattle.std.proofs.Common.{◌-◌, inl, inr, arith}
use Rattle.reach.proofs.Reaching.{begins, skips, passes, ends, unasked, at_bottom, one_less}
use Rattle.reach.proofs.mark_reached.Goals as goal

pub returns-then-root-bank : goal.returns-then-root-bank
returns-then-root-bank c = unasked _ _ _ (elim c.then-root-bank.either [ inl h ↦ inl h | inr h ↦ inr h.1 ])

pub loop-k-init : goal.loop-k-init
loop-k-init c = begins _ _ c.clear.new.marks c.clear.ensures c.if-root-marks.false

pub loop-k-preserved-then-marks-k : goal.loop-k-preserved-then-marks-k
loop-k-preserved-then-marks-k c =
    passes _ _ (c.loop-k.k - 1) c.loop-k.marks c.mark_arguments.new.marks (omega (arith, c.loop-k.auto.k)) (one_less _ _ _ _ c.loop-k-test.true c.loop-k.invariant) c.if-marks-k.true c.mark_arguments.auto.marks c.mark_arguments.ensures

pub loop-k-preserved : goal.loop-k-preserved
loop-k-preserved c = skips _ _ _ _ (one_less _ _ _ _ c.loop-k-test.true c.loop-k.invariant) c.if-marks-k.false

pub returns : goal.returns
returns c = ends _ _ _ (at_bottom _ _ _ _ c.loop-k-test.false c.loop-k.invariant)
