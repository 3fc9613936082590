use Rattle.std.proofs.Common.{◌≡◌, ◌+◌, ◌-◌, ◌≤◌, length, take, drop}
use Rattle.terms.specs.Preorder.{Reads, row}
use Rattle.row.specs.Items.{items}
use Rattle.enter.specs.Machine.{Waiting, Grew, wanted, opens, onward, forest, whole}
use Rattle.enter.proofs.machine.run.Given as goal

-- the nodes that are left are the terms that the waiting symbols want, and the same comes of them as of all the nodes
abbrev pub invariant-loop-node : goal.invariant-loop-node
invariant-loop-node l =
    Waiting (opens l.waiting)
    × Reads (row (drop l.node-index l.nodes)) (wanted (opens l.waiting))
    × (length (items l.waiting) + (length l.nodes - l.node-index) ≤ 32)
    × Grew l.initial.cells l.initial.count.len l.cells l.count.len
    × (whole (length l.initial.cells) l.bindings (forest l.nodes 0) (take l.initial.count.len l.initial.cells)
    ≡ onward (length l.cells) l.bindings (opens l.waiting) (forest l.nodes l.node-index) (take l.count.len l.cells))
