use Rattle.std.proofs.Common.{refl}
use Rattle.std.proofs.lemmas.Result.{err_from_is_err_and}
use Rattle.session.specs.Calls.{RemoveRefused}
use Rattle.session.proofs.Promising.{remove_refuses, removes}
use Rattle.session.proofs.Session.remove.Goals as goal

pub returns-then-self : goal.returns-then-self
returns-then-self g c = remove_refuses _ _ _ c.args.self.now _ _ _ refl (RemoveRefused.shut c.if-self.true)

pub returns-in_err-number : goal.returns-in_err-number
returns-in_err-number g c =
    let p = err_from_is_err_and c.from_residual.result c.from_residual.ensures.1 in
    let no = c.in_err-number.ensures in
    remove_refuses _ _ _ c.args.self.now _ _ _ (rw (p.1, p.2, no.1)) (RemoveRefused.no_number c.if-self.false no.0)

pub returns : goal.returns
returns g c =
    let in-range = c.in_ok-number.ensures in
    removes _ _ _ c.args.self.now _ _ c.remove.new.self _ in-range.1 (record { unsealed = c.if-self.false; range = in-range.0 }) c.remove.ensures.kept c.remove.ensures.removed
