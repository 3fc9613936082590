use Rattle.run.proofs.Entering.{both_entered}
use Rattle.run.proofs.goal.enter_both.Goals as goal

pub returns-in-Ok : goal.returns-in-Ok
returns-in-Ok c = both_entered c.args.signature.now c.args.left.now c.args.right.now _ _ _ _ _ _ _ c.enter.auto.cells c.in_ok-left.ensures c.in-Ok.ensures
