use Rattle.std.proofs.Common.{ap}
use Rattle.std.proofs.lemmas.Result.{err_from_is_err_and}
use Rattle.entries.specs.Stored.{map_of}
use Rattle.entries.specs.declared.Entries.{Entries}
use Rattle.session.specs.Simplifies.{Refused}
use Rattle.session.proofs.GoalRuns.{refuses, runs, lent}
use Rattle.session.proofs.Session.simplify.Goals as goal

pub returns-in_err-check_room : goal.returns-in_err-check_room
returns-in_err-check_room g c =
    let p = err_from_is_err_and c.from_residual.result c.from_residual.ensures.1 in
    let no = c.in_err-check_room.ensures in
    refuses _ _ c.args.self.now _ _ _ _ _ _ _ (rw (p.1, p.2, no.1)) (Refused.outside no.0)

pub returns-in_err-goal : goal.returns-in_err-goal
returns-in_err-goal g c =
    let p = err_from_is_err_and c.from_residual-in_err-goal.result c.from_residual-in_err-goal.ensures.1 in
    refuses _ _ c.args.self.now _ _ _ _ _ _ _ (rw (p.1, p.2)) (Refused.unread c.in_ok-check_room.ensures c.in_err-goal.ensures.outcome)

pub returns-in_err-check_goal : goal.returns-in_err-check_goal
returns-in_err-check_goal g c =
    let p = err_from_is_err_and c.from_residual-in_err-check_goal.result c.from_residual-in_err-check_goal.ensures.1 in
    let no = c.in_err-check_goal.ensures in
    refuses _ _ c.args.self.now _ _ _ _ _ _ _ (rw (p.1, p.2, no.1)) (Refused.no_goal (record { limited = c.in_ok-check_room.ensures; read = c.in_ok-goal.ensures.outcome }) no.0)

pub returns : goal.returns
returns g c =
    runs _ _ c.args.self.now _ _ _ _ _ c.in_ok-goal.goal (record { limited = c.in_ok-check_room.ensures; read = c.in_ok-goal.ensures.outcome }) c.in_ok-check_goal.ensures _ _ _ _ _
    (lent g.I.Index.stored c.args.self.now.signature _ c.args.self.now.file.index _ (map_of c.args.self.now.file.lowers) c.in_ok-goal.goal _ _ _ _ _ _ _ _ _ c.index-index.ensures (ap (λ (x : Entries 128). map_of x) c.lowers-lowers.ensures) c.run_goal.ensures)
