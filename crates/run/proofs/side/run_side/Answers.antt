use Rattle.std.proofs.Common.{refl}
use Rattle.run.proofs.side.run_side.Goals as goal
use Rattle.run.proofs.Looping.{starts, next, ends, less}

pub loop-after-init : goal.loop-after-init
loop-after-init g c = starts _ _ _ _ _ _ _ _ _

pub loop-after-smaller : goal.loop-after-smaller
loop-after-smaller g c = less _ _ _ _ c.in-Ok.ensures.0 c.in-Ok.ensures.1 c.take_turn.auto.trace

pub loop-after-preserved : goal.loop-after-preserved
loop-after-preserved g c = next _ _ _ _ _ _ _ _ _ _ _ _ _ _ _ c.loop-after.invariant _ _ _ _ _ _ c.in-Ok.ensures.2

pub returns-in-Err : goal.returns-in-Err
returns-in-Err g c = ends _ _ _ _ _ _ _ _ _ _ _ _ _ _ _ c.loop-after.invariant _ _ _ _ _ c.in-Err.outcome _ refl refl c.in-Err.ensures
