use Rattle.reach.proofs.Marking.{marks_more, passes_more}
use Rattle.reach.proofs.mark_all.Goals as goal
use Rattle.reach.proofs.mark_all.Goals.{then-at-marks, else-at-marks}

pub loop-cell-preserved : goal.loop-cell-preserved
loop-cell-preserved c =
    let xs = c.args.marks.now in
    let js = c.args.cells.now in
    elim c.if-at-marks.branch [
      | then-at-marks w ↦ rw w.marks-is (marks_more xs c.loop-cell.marks js c.loop-cell.cell-index c.loop-cell.invariant c.loop-cell-test.true c.loop-cell.auto.marks w.if-at-marks.true)
      | else-at-marks w ↦ rw w.marks-is (passes_more xs c.loop-cell.marks js c.loop-cell.cell-index c.loop-cell.invariant c.loop-cell-test.true c.loop-cell.auto.marks w.if-at-marks.false)
    ]
