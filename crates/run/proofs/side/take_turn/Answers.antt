use Rattle.std.proofs.Common.{◌≡◌, Some, None, Err, refl, rules}
use Rattle.reduction.specs.declared.outcome.Outcome.TheVariants.{Finished, NoRoom}
use Rattle.run.proofs.side.take_turn.Goals as goal
use Rattle.run.proofs.Turning.{finishes, spends, blocks, goes_on}

pub returns-in_err-redex : goal.returns-in_err-redex
returns-in_err-redex g c =
    let none : c.next_redex-redex.result ≡ None = search rules in
    let end : c.from_residual.result ≡ Err Finished = search rules in
    rw end (λ S E h. finishes S E _ _ c.args.side _ _ _ _ _ _ h c.mark_reached.new.marks _ c.mark_reached.auto.marks c.next_redex-redex.auto.settled c.mark_reached.ensures (rw none at c.next_redex-redex.ensures))

pub returns-then-steps-trace : goal.returns-then-steps-trace
returns-then-steps-trace g c S E h =
    let some : c.next_redex-redex.result ≡ Some c.in_ok-redex.redex = search rules in
    spends S E _ _ c.args.side _ _ _ _ _ _ h c.mark_reached.new.marks _ c.mark_reached.auto.marks c.next_redex-redex.auto.settled c.mark_reached.ensures c.in_ok-redex.redex (rw some at c.next_redex-redex.ensures) c.if-steps-trace.true

pub returns-in_err-applied : goal.returns-in_err-applied
returns-in_err-applied g c =
    let some : c.next_redex-redex.result ≡ Some c.in_ok-redex.redex = search rules in
    let none : c.apply-applied.result ≡ None = search rules in
    let end : c.from_residual-in_err-applied.result ≡ Err NoRoom = search rules in
    rw end (λ S E h. blocks S E _ _ c.args.side _ _ _ _ _ _ h c.mark_reached.new.marks _ c.mark_reached.auto.marks c.next_redex-redex.auto.settled c.mark_reached.ensures c.in_ok-redex.redex (rw some at c.next_redex-redex.ensures) _ _ c.if-steps-trace.false (rw none at c.apply-applied.ensures))

pub returns : goal.returns
returns g c =
    let some : c.next_redex-redex.result ≡ Some c.in_ok-redex.redex = search rules in
    let applied : c.apply-applied.result ≡ Some c.in_ok-applied.applied = search rules in
    (c.if-steps-trace.false, refl, λ S E h. goes_on S E _ _ c.args.side _ _ _ _ _ _ h c.mark_reached.new.marks _ c.mark_reached.auto.marks c.next_redex-redex.auto.settled c.mark_reached.ensures c.in_ok-redex.redex (rw some at c.next_redex-redex.ensures) _ _ c.if-steps-trace.false c.in_ok-applied.applied _ (rw applied at c.apply-applied.ensures) refl)
