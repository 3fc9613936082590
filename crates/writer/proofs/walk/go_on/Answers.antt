use Rattle.std.proofs.Common.{◌≡◌, ℕ, ◌+◌, ◌∷◌, ◌++◌, get_or, [], sym, ap, ◌∙◌, arith}
use Rattle.bank.specs.declared.cell.Cell.TheVariants.{Var}
use Rattle.signature.specs.Signatures.{names_of}
use Rattle.row.specs.Items.{items}
use Rattle.writer.specs.Walks.{frames}
use Rattle.writer.specs.declared.walk.Frame.TheVariants.{Whole, Rest}
use Rattle.writer.proofs.Walking.{put_on, was_ok, turned, mark_at, mark_first, mark_later, rest_close, rest_argument}
use Rattle.writer.proofs.walk.go_on.Goals as goal
use Rattle.writer.proofs.walk.go_on.Goals.{then-done-eq0, else-done-eq0}

pub returns-then-done-arity : goal.returns-then-done-arity
returns-then-done-arity c text left =
    let ns = names_of c.args.signature.now in
    let b = c.args.cells.now in
    let fs = frames c.args.stack.now in
    let e = ap (λ i. get_or b i (Var 0)) (sym c.from.ensures) ∙ c.in-App.is in
    turned ns b fs text _ c.mark.result c.mark.ensures (λ p h. rest_close ns b c.requires.rules c.args.cell fs text (items p) c.args.done left c.in-App.symbol c.in-App.arity c.in-App.args e c.if-done-arity.true h)

pub returns : goal.returns
returns c text left =
    let ns = names_of c.args.signature.now in
    let b = c.args.cells.now in
    let fs = frames c.args.stack.now in
    let k = c.args.done in
    let e = ap (λ i. get_or b i (Var 0)) (sym c.from.ensures) ∙ c.in-App.is in
    let first = was_ok _ _ c.push.result c.ok.result _ c.ok.ensures.value c.in_ok-ok.was c.push.ensures in
    let second = was_ok _ _ c.push-2.result c.ok-2.result _ c.ok-2.ensures.value c.in_ok-ok-2.was c.push-2.ensures in
    let arg = get_or c.in-App.args k 0 in
    let then = second.1 ∙ ap (λ (i : ℕ). items c.push.new.self ++ (Whole (get_or c.in-App.args i 0) ∷ [])) c.from-2.ensures in
    let is = put_on c.push.new.self c.push-2.new.self (Whole arg) then ∙ ap (λ gs. Whole arg ∷ gs) (put_on c.args.stack.now c.push.new.self (Rest c.args.cell (k + 1)) first.1) in
    let mark : mark_at k ≡ c.if-done-eq0.mark = elim c.if-done-eq0.branch [
      | then-done-eq0 w ↦ mark_first k w.if-done-eq0.true ∙ sym w.mark-is
      | else-done-eq0 w ↦ mark_later k w.if-done-eq0.false ∙ sym w.mark-is
    ] in
    turned ns b (frames c.push-2.new.self) text _ c.mark-2.result c.mark-2.ensures (λ p h. rest_argument ns b c.requires.rules c.args.cell fs text (items p) k left c.in-App.symbol c.in-App.arity c.in-App.args e (frames c.push-2.new.self) is (omega (arith, c.if-done-arity.false)) (h ∙ ap (λ m. m ∷ []) (sym mark)))
