use Rattle.std.proofs.Common.{Ok, Err, refl}
use Rattle.std.proofs.lemmas.Result.{err_from_is_err_and}
use Rattle.session.specs.Calls.{AddRefused}
use Rattle.session.proofs.Promising.{add_refuses, free_at, adds}
use Rattle.session.proofs.Session.add.Goals as goal

pub returns-then-self : goal.returns-then-self
returns-then-self g c = add_refuses _ _ _ _ c.args.self.now _ _ _ _ refl (λ k. AddRefused.shut c.if-self.true)

pub returns-in_err-number : goal.returns-in_err-number
returns-in_err-number g c =
    let p = err_from_is_err_and c.from_residual.result c.from_residual.ensures.1 in
    let no = c.in_err-number.ensures in
    add_refuses _ _ _ _ c.args.self.now _ _ _ _ (rw (p.1, p.2, no.1)) (λ k. AddRefused.no_number c.if-self.false no.0)

pub returns-in_err-equation : goal.returns-in_err-equation
returns-in_err-equation g c =
    let p = err_from_is_err_and c.from_residual-in_err-equation.result c.from_residual-in_err-equation.ensures.1 in
    let in-range = c.in_ok-number.ensures in
    add_refuses _ _ _ _ c.args.self.now _ _ _ _ (rw (p.1, p.2)) (λ k. AddRefused.unread (record { unsealed = c.if-self.false; range = in-range.0 }) c.in_err-equation.ensures.outcome)

pub returns-in_err-check_rule : goal.returns-in_err-check_rule
returns-in_err-check_rule g c =
    let p = err_from_is_err_and c.from_residual-in_err-check_rule.result c.from_residual-in_err-check_rule.ensures.1 in
    let in-range = c.in_ok-number.ensures in
    let no = c.in_err-check_rule.ensures in
    add_refuses _ _ _ _ c.args.self.now _ _ _ _ (rw (p.1, p.2, no.1))
    (λ k. AddRefused.no_rule (record { called = record { unsealed = c.if-self.false; range = in-range.0 }; read = c.in_ok-equation.ensures.outcome }) no.0)

pub returns-in_err-check_free : goal.returns-in_err-check_free
returns-in_err-check_free g c =
    let p = err_from_is_err_and c.from_residual-in_err-check_free.result c.from_residual-in_err-check_free.ensures.1 in
    let in-range = c.in_ok-number.ensures in
    add_refuses _ _ _ _ c.args.self.now _ _ c.in_err-check_free.field-0.0 _ (rw (p.1, p.2))
    (λ k. AddRefused.no_place (record { called = record { unsealed = c.if-self.false; range = in-range.0 }; read = c.in_ok-equation.ensures.outcome }) c.in_ok-check_rule.ensures
    (free_at g.I.Index.stored g.I.Index.numbers c.args.self.now.file g.I.Index.CAPACITY c.in_ok-number.number _ (Err c.in_err-check_free.field-0.0) in-range.1 (c.in_err-check_free.ensures k.paired)))

pub returns-in_err-rule : goal.returns-in_err-rule
returns-in_err-rule g c =
    let p = err_from_is_err_and c.from_residual-in_err-rule.result c.from_residual-in_err-rule.ensures.1 in
    let in-range = c.in_ok-number.ensures in
    let no = c.in_err-rule.ensures in
    add_refuses _ _ _ _ c.args.self.now _ _ _ _ (rw (p.1, p.2, no.1))
    (λ k. AddRefused.unordered (record { called = record { unsealed = c.if-self.false; range = in-range.0 }; read = c.in_ok-equation.ensures.outcome }) c.in_ok-check_rule.ensures
    (free_at g.I.Index.stored g.I.Index.numbers c.args.self.now.file g.I.Index.CAPACITY c.in_ok-number.number _ (Ok tt) in-range.1 (c.in_ok-check_free.ensures k.paired)) no.0)

pub returns : goal.returns
returns g c =
    let in-range = c.in_ok-number.ensures in
    adds _ _ _ _ c.args.self.now _ _ _ c.in_ok-equation.equation c.in_ok-rule.rule c.insert.new.self _ in-range.1
    (record { called = record { unsealed = c.if-self.false; range = in-range.0 }; read = c.in_ok-equation.ensures.outcome }) c.in_ok-check_rule.ensures
    c.in_ok-check_free.ensures c.in_ok-rule.ensures c.insert.ensures.kept c.insert.ensures.inserted
