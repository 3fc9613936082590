use Rattle.std.proofs.Common.{drop, sym, ap, ◌∙◌}
use Rattle.std.proofs.lemmas.Result.{err_from_is_err_and}
use Rattle.lexer.specs.Tokens.{tokens_from}
use Rattle.formula.specs.Roles.{role_first}
use Rattle.formula.specs.Rows.{Row, names_in}
use Rattle.row.specs.Items.{items}
use Rattle.formula.proofs.Tables.{names_size}
use Rattle.formula.proofs.Concluding.{refused, unknown_symbol, large_left, large_right, fits_left, fits_right, done, never, made}
use Rattle.formula.proofs.reading.read_formula.Goals as goal

pub returns-in_err-check_formula : goal.returns-in_err-check_formula
returns-in_err-check_formula c =
    let p = err_from_is_err_and c.from_residual.result c.from_residual.ensures.1 in
    refused c.args.signature.now c.args.text.now c.from_residual.result _ (rw (p.1, p.2)) c.in_err-check_formula.ensures.outcome

pub returns-in-Some : goal.returns-in-Some
returns-in-Some c = unknown_symbol c.args.signature.now c.args.text.now c.in_ok-check_formula.ensures.outcome c.skip_tokens-body.result c.skip_tokens-body.ensures c.in-Some.place c.in-Some.ensures

pub returns-in_err-left : goal.returns-in_err-left
returns-in_err-left c =
    let p = err_from_is_err_and c.from_residual-in_err-left.result c.from_residual-in_err-left.ensures.1 in
    large_left c.args.signature.now c.args.text.now c.in_ok-check_formula.ensures.outcome c.skip_tokens-body.result c.skip_tokens-body.ensures c.in_default.ensures c.new-variables.result c.new-variables.ensures c.from_residual-in_err-left.result _ (rw (p.1, p.2)) c.in_err-left.ensures

pub returns-in_err-right : goal.returns-in_err-right
returns-in_err-right c =
    let text = c.args.text.now in
    let l : Row = record { variables = names_in text c.read_side.new.variables; nodes = items c.in_ok-left.left; rest = tokens_from (drop c.in_ok-left.sign_place text) c.in_ok-left.sign_place } in
    let p = err_from_is_err_and c.from_residual-in_err-right.result c.from_residual-in_err-right.ensures.1 in
    large_right c.args.signature.now text c.in_ok-check_formula.ensures.outcome c.skip_tokens-body.result c.skip_tokens-body.ensures c.in_default.ensures c.new-variables.result c.new-variables.ensures l c.in_ok-left.ensures _ c.skip_tokens-2.ensures c.from_residual-in_err-right.result _ (rw (p.1, p.2)) c.in_err-right.ensures

pub returns-in_err-left-2 : goal.returns-in_err-left-2
returns-in_err-left-2 c =
    let text = c.args.text.now in
    let l : Row = record { variables = names_in text c.read_side.new.variables; nodes = items c.in_ok-left.left; rest = tokens_from (drop c.in_ok-left.sign_place text) c.in_ok-left.sign_place } in
    let w : Row = record { variables = names_in text c.read_side-2.new.variables; nodes = items c.in_ok-right.right; rest = tokens_from (drop c.in_ok-right.field-0-1 text) c.in_ok-right.field-0-1 } in
    never (items c.in_ok-left.left) _ c.new.result c.in_err-left-2.ensures.ok_part c.new.ensures c.as_slice.ensures.is (fits_left c.args.signature.now text c.in_ok-check_formula.ensures.outcome c.skip_tokens-body.result c.skip_tokens-body.ensures c.in_default.ensures c.new-variables.result c.new-variables.ensures l c.in_ok-left.ensures _ c.skip_tokens-2.ensures w c.in_ok-right.ensures)

pub returns-in_err-right-2 : goal.returns-in_err-right-2
returns-in_err-right-2 c =
    let text = c.args.text.now in
    let l : Row = record { variables = names_in text c.read_side.new.variables; nodes = items c.in_ok-left.left; rest = tokens_from (drop c.in_ok-left.sign_place text) c.in_ok-left.sign_place } in
    let w : Row = record { variables = names_in text c.read_side-2.new.variables; nodes = items c.in_ok-right.right; rest = tokens_from (drop c.in_ok-right.field-0-1 text) c.in_ok-right.field-0-1 } in
    never (items c.in_ok-right.right) _ c.new-2.result c.in_err-right-2.ensures.ok_part c.new-2.ensures c.as_slice-2.ensures.is (fits_right c.args.signature.now text c.in_ok-check_formula.ensures.outcome c.skip_tokens-body.result c.skip_tokens-body.ensures c.in_default.ensures c.new-variables.result c.new-variables.ensures l c.in_ok-left.ensures _ c.skip_tokens-2.ensures w c.in_ok-right.ensures)

pub returns : goal.returns
returns c =
    let text = c.args.text.now in
    let l : Row = record { variables = names_in text c.read_side.new.variables; nodes = items c.in_ok-left.left; rest = tokens_from (drop c.in_ok-left.sign_place text) c.in_ok-left.sign_place } in
    let w : Row = record { variables = names_in text c.read_side-2.new.variables; nodes = items c.in_ok-right.right; rest = tokens_from (drop c.in_ok-right.field-0-1 text) c.in_ok-right.field-0-1 } in
    done c.args.signature.now text c.in_ok-check_formula.ensures.outcome c.skip_tokens-body.result c.skip_tokens-body.ensures c.in_default.ensures c.new-variables.result c.new-variables.ensures l c.in_ok-left.ensures _ c.skip_tokens-2.ensures w c.in_ok-right.ensures _ (made (items c.in_ok-left.left) _ c.new.result c.in_ok-left-2.left c.in_ok-left-2.ensures.ok_part c.new.ensures c.as_slice.ensures.is) (made (items c.in_ok-right.right) _ c.new-2.result c.in_ok-right-2.right c.in_ok-right-2.ensures.ok_part c.new-2.ensures c.as_slice-2.ensures.is) (c.role_at-role.ensures ∙ ap role_first c.skip_tokens.ensures) c.sign_at-sign.ensures (c.count.ensures ∙ sym (names_size text c.read_side-2.new.variables))
