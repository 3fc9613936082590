use Rattle.reach.proofs.Reaching.{Passed}
use Rattle.reach.proofs.mark_reached.Given as goal

abbrev pub invariant-loop-k : goal.invariant-loop-k
invariant-loop-k l = Passed l.bank l.root l.k l.marks
