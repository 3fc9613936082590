use Rattle.std.proofs.Common.{false, replicate, refl, inr}
use Rattle.std.proofs.lemmas.Result.{err_from_is_err_and}
use Rattle.run.proofs.Going.{answered, unsettled}
use Rattle.run.proofs.goal.run_goal.Goals as goal

pub returns-in_err-left : goal.returns-in_err-left
returns-in_err-left g c =
    let p = err_from_is_err_and c.from_residual-in_err-left.result c.from_residual-in_err-left.ensures.1 in
    let d = c.in_err-left.ensures in
    let room = c.in_ok-check_room.ensures in
    rw (p.1, p.2) (refl, refl, inr (room, d.0, λ o q. d.1 room.0 o q))

pub returns : goal.returns
returns g c = (
  c.in_ok-check_room.ensures,
  λ E filed.
      answered c.args.signature.now _ _ c.args.left.now c.args.right.now _ _ c.in_ok-check_room.ensures.0 _ _ _ _ c.enter_both.auto.cells c.in_ok-left.ensures (replicate 2048 false) refl (unsettled 2048) _ _ _ _ _ _ c.run_side-left.ensures _ _ _ _ _ _ c.run_side-right.ensures E filed _ refl refl (refl, refl, c.verdict.ensures),
)
