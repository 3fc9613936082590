use Rattle.std.proofs.Common.{take}
use Rattle.reach.specs.Marks.{Joined}
use Rattle.reach.proofs.mark_all.Given as goal

abbrev pub invariant-loop-cell : goal.invariant-loop-cell
invariant-loop-cell l = Joined l.initial.marks (take l.cell-index l.cells) l.marks
