use Rattle.rebuild.proofs.Looping.{Looping}
use Rattle.rebuild.proofs.rebuild.Given as goal

abbrev pub invariant-loop-k : goal.invariant-loop-k
invariant-loop-k l = Looping l.initial.cells l.initial.count.len l.root l.change.replaced l.change.put_in l.marks l.cells l.count.len l.forms l.k
