use Rattle.std.proofs.Common.{◌<◌, length, arith}
use Rattle.filter.proofs.Keeping.{start, keeps, skips, past, finished}
use Rattle.filter.proofs.retain.retain.Goals as goal
use Rattle.filter.proofs.retain.retain.Goals.{then-keeps, else-keeps}

pub loop-i-init : goal.loop-i-init
loop-i-init g c = start _ c.args.list.now

pub loop-i-preserved : goal.loop-i-preserved
loop-i-preserved g c =
    let xs = c.args.list.now in
    let lx : c.loop-i.i < length xs = omega (arith, c.min-i-end.ensures, c.loop-i-test.true) in
    elim c.if-keeps.branch [
      | then-keeps w ↦ rw (w.list-is, w.kept-is) (keeps _ xs c.loop-i.list c.loop-i.i c.loop-i.kept c.loop-i.invariant lx w.if-keeps.ensures)
      | else-keeps w ↦ rw (w.list-is, w.kept-is) (skips _ xs c.loop-i.list c.loop-i.i c.loop-i.kept c.loop-i.invariant lx w.if-keeps.ensures)
    ]

pub returns : goal.returns
returns g c = record {
  within = omega (arith, c.loop-i.invariant.few, c.loop-i.invariant.size, c.loop-i.auto.i-end, c.min-i-end.ensures);
  past = past _ c.args.list.now c.loop-i.list c.loop-i.i c.loop-i.kept c.args.count.now.len c.loop-i.invariant (omega (arith, c.loop-i.auto.i-end, c.min-i-end.ensures));
  retained = finished _ c.args.list.now c.loop-i.list c.loop-i.i c.loop-i.kept c.args.count.now.len c.loop-i.invariant (omega (arith, c.loop-i-test.false, c.loop-i.auto.i-end, c.min-i-end.ensures));
}
