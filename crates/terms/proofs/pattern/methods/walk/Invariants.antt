use Rattle.std.proofs.Common.{◌≡◌, ◌-◌, ◌≤◌, true, length, drop}
use Rattle.terms.specs.Preorder.{all_small, row, Reads}
use Rattle.terms.proofs.pattern.methods.walk.Given as goal

abbrev pub invariant-loop-node : goal.invariant-loop-node
invariant-loop-node l = record {
  deep : l.depth ≤ length l.yielded;
  small : all_small (drop (length l.nodes - length l.yielded) l.nodes) ≡ true;
  reads : Reads (row (drop (length l.nodes - length l.yielded) l.nodes)) l.depth;
}
