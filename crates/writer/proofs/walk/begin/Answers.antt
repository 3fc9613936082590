use Rattle.std.proofs.Common.{get_or, sym, ap, ◌∙◌, arith}
use Rattle.bank.specs.declared.cell.Cell.TheVariants.{Var}
use Rattle.signature.specs.Signatures.{names_of}
use Rattle.row.specs.Items.{items}
use Rattle.writer.specs.Walks.{frames}
use Rattle.writer.specs.declared.walk.Frame.TheVariants.{Rest}
use Rattle.writer.proofs.Walking.{put_on, was_ok, turned, whole_var, whole_constant, whole_symbol}
use Rattle.writer.proofs.walk.begin.Goals as goal

pub returns-then-arity-eq0 : goal.returns-then-arity-eq0
returns-then-arity-eq0 c text left =
    let ns = names_of c.args.signature.now in
    let b = c.args.cells.now in
    let fs = frames c.args.stack.now in
    let e = ap (λ i. get_or b i (Var 0)) (sym c.from.ensures) ∙ c.in-App.is in
    turned ns b fs text _ c.name.result c.name.ensures (λ p h. whole_constant ns b c.requires.rules c.args.cell fs text (items p) left c.in-App.symbol c.in-App.arity c.in-App.args e h.0 h.1 c.if-arity-eq0.true)

pub returns-in-Var : goal.returns-in-Var
returns-in-Var c text left =
    let ns = names_of c.args.signature.now in
    let b = c.args.cells.now in
    let fs = frames c.args.stack.now in
    let e = ap (λ i. get_or b i (Var 0)) (sym c.from.ensures) ∙ c.in-Var.is in
    turned ns b fs text _ c.variable.result c.variable.ensures (λ p h. whole_var ns b c.requires.rules c.args.cell fs text (items p) left c.in-Var.x e h)

pub returns-in_ok-ok-in-App : goal.returns-in_ok-ok-in-App
returns-in_ok-ok-in-App c text left =
    let ns = names_of c.args.signature.now in
    let b = c.args.cells.now in
    let fs = frames c.args.stack.now in
    let e = ap (λ i. get_or b i (Var 0)) (sym c.from.ensures) ∙ c.in-App.is in
    let fits = was_ok _ _ c.push.result c.ok.result _ c.ok.ensures.value c.in_ok-ok-in-App.was c.push.ensures in
    let is = put_on c.args.stack.now c.push.new.self (Rest c.args.cell 0) fits.1 in
    turned ns b (frames c.push.new.self) text _ c.name-in-App.result c.name-in-App.ensures (λ p h. whole_symbol ns b c.requires.rules c.args.cell fs text (items p) left c.in-App.symbol c.in-App.arity c.in-App.args e h.0 h.1 (frames c.push.new.self) is (omega (arith, c.if-arity-eq0.false)))
