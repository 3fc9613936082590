use Rattle.std.proofs.Common.{◌≡◌, ◌≤◌, count_by, take}
use Rattle.subterms.proofs.Counting.{is_var}
use Rattle.subterms.proofs.variables.occurrences.Given as goal

abbrev pub invariant-loop-node : goal.invariant-loop-node
invariant-loop-node l = (l.n ≡ count_by (is_var l.x) (take l.node-index l.row)) × (l.n ≤ l.node-index)
