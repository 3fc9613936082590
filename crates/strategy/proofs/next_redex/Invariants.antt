use Rattle.strategy.proofs.Searching.{Searching}
use Rattle.strategy.proofs.next_redex.Given as goal

abbrev pub invariant-loop-k : goal.invariant-loop-k
invariant-loop-k g l = Searching (g.I.Index.stored l.index) l.bank l.root l.k l.marks l.initial.settled l.settled
