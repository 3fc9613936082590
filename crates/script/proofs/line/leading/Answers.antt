use Rattle.std.proofs.Common.{rules, ◌≡◌, None, decimal, arith}
use Rattle.std.proofs.lemmas.Option.{MatchOption-at_none}
use Rattle.std.proofs.lemmas.Result.{err_from_is_err_and}
use Rattle.fields.specs.Cuts.{Cut}
use Rattle.fields.proofs.Cutting.{uncut}
use Rattle.script.proofs.Spaces.{leads_cut}
use Rattle.script.proofs.line.leading.Goals as goal

pub returns-in_err-field : goal.returns-in_err-field
returns-in_err-field c =
    let p = err_from_is_err_and c.from_residual.result c.from_residual.ensures.1 in
    let none : c.cut.result ≡ None = grind arith in
    rw p.1 (λ n more l. uncut 32 (decimal n) more (rw l.whole at (MatchOption-at_none _ _ none c.cut.ensures)))

pub returns-in_err-number : goal.returns-in_err-number
returns-in_err-number c =
    let p = err_from_is_err_and c.from_residual-in_err-number.result c.from_residual-in_err-number.ensures.1 in
    let field = c.in_ok-field.field in
    let cut : Cut 32 c.args.text.now field.bytes.now field.after.now = search rules in
    rw p.1 (λ n more l. c.in_err-number.ensures n (record { most = l.most; whole = (leads_cut cut l).0 }))
