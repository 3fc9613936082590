use Rattle.matching.specs.Solving.{pending}
use Rattle.matching.proofs.Going.{Going}
use Rattle.matching.proofs.match_cell.Given as goal

abbrev pub invariant-loop-node : goal.invariant-loop-node
invariant-loop-node l = Going l.bank l.pattern l.cell l.bindings (pending l.pending) l.node-index
