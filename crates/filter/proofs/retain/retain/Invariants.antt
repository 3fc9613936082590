use Rattle.filter.proofs.Keeping.{Keeping}
use Rattle.filter.proofs.retain.retain.Given as goal

abbrev pub invariant-loop-i : goal.invariant-loop-i
invariant-loop-i g l = Keeping (goal.F-post g l.keeps) l.initial.list l.list l.i l.kept
