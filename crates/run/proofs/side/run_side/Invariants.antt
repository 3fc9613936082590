use Rattle.std.proofs.Common.{◌-◌, length}
use Rattle.entries.specs.Stored.{map_of}
use Rattle.run.proofs.Looping.{Looping}
use Rattle.run.proofs.side.run_side.Given as goal

abbrev pub invariant-loop-after : goal.invariant-loop-after
invariant-loop-after g l = Looping (g.I.Index.stored l.index) (map_of l.lowers) l.side l.initial.root l.initial.cells l.initial.count.len l.initial.trace l.initial.steps.len l.initial.settled l.root l.cells l.count.len l.trace l.steps.len l.settled

abbrev pub decreases-loop-after : goal.decreases-loop-after
decreases-loop-after g l = length l.trace - l.steps.len
