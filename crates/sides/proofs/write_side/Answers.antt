use Rattle.std.proofs.lemmas.Result.{IfOk-weaker}
use Rattle.sides.proofs.Round.{held}
use Rattle.sides.proofs.write_side.Goals as goal

pub returns : goal.returns
returns c =
    let n = c.enter.new.count.len in
    IfOk-weaker c.text_of.result _ _ (λ v. held c.args.signature.now _ c.enter.new.cells _ c.in_ok-cell.cell n _ c.in_ok-cell.ensures.4 c.in_ok-cell.ensures.2) c.text_of.ensures
