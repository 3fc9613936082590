use Rattle.std.proofs.Common.{◌≡◌, ◌+◌, ◌≤◌, ◌++◌, length, reverse}
use Rattle.row.specs.Items.{items}
use Rattle.row.proofs.Row.push_reversed.Given as goal

abbrev pub invariant-loop-left : goal.invariant-loop-left
invariant-loop-left g l = record {
  fits : l.self.len + length l.left ≤ g.row.N;
  listed : items l.self ++ reverse l.left ≡ items l.fn.self ++ reverse l.fn.more;
}

abbrev pub decreases-loop-left : goal.decreases-loop-left
decreases-loop-left g l = length l.left
