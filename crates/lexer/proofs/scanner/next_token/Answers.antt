use Rattle.std.proofs.Common.{rules, ◌+◌, ◌≤◌, Some, None, length, drop, refl, ap, ◌∙◌, arith}
use Rattle.std.proofs.lemmas.List.{drop_all, drop-drop}
use Rattle.lexer.specs.Tokens.{tokens_from}
use Rattle.lexer.specs.declared.token.Front.TheVariants.{Gap, Piece}
use Rattle.lexer.proofs.Lexing.{stands, moved, tokens_gap, tokens_end, tokens_none, found}
use Rattle.lexer.proofs.scanner.next_token.Goals as goal

pub returns-in_err-get : goal.returns-in_err-get
returns-in_err-get c =
    let past : length c.args.text.now ≤ c.loop-n.place = search rules in
    rw c.from_residual.ensures (c.loop-n.invariant.same ∙ ap (λ bs. tokens_from bs c.loop-n.place) (drop_all c.loop-n.place c.args.text.now past) ∙ tokens_none _)

pub returns-in_err-n : goal.returns-in_err-n
returns-in_err-n c =
    let none = stands c.args.text.now c.in_ok-get.field-0.now c.loop-n.place None (search rules) (search rules) in
    rw c.from_residual-in_err-n.ensures (c.loop-n.invariant.same ∙ tokens_end _ _ none)

pub loop-n-preserved : goal.loop-n-preserved
loop-n-preserved c =
    let text = c.args.text.now in
    let gap = stands text c.in_ok-get.field-0.now c.loop-n.place (Some (Gap c.in-Gap.n)) (search rules) (search rules) in
    record {
      same = c.loop-n.invariant.same ∙ tokens_gap _ c.loop-n.place c.in-Gap.n gap ∙ ap (λ bs. tokens_from bs (c.loop-n.place + c.in-Gap.n)) (drop-drop c.in-Gap.n c.loop-n.place text) ∙ ap (λ k. tokens_from (drop k text) k) (omega arith);
      behind = omega (arith, c.loop-n.invariant.behind);
    }

pub overflow_add-place : goal.overflow_add-place
overflow_add-place c =
    let gap = stands c.args.text.now c.in_ok-get.field-0.now c.loop-n.place (Some (Gap c.in-Gap.n)) (search rules) (search rules) in
    omega (arith, (moved c.args.text.now c.loop-n.place _ gap).1)

pub overflow_add-bytes : goal.overflow_add-bytes
overflow_add-bytes c =
    let piece = stands c.args.text.now c.in_ok-get.field-0.now c.loop-n.place (Some (Piece c.in-Piece.kind c.in-Piece.n)) (search rules) (search rules) in
    omega (arith, (moved c.args.text.now c.loop-n.place _ piece).1)

pub slice_bounds-bytes-end : goal.slice_bounds-bytes-end
slice_bounds-bytes-end c =
    let inside : c.loop-n.place ≤ length c.args.text.now = search rules in
    let piece = stands c.args.text.now c.in_ok-get.field-0.now c.loop-n.place (Some (Piece c.in-Piece.kind c.in-Piece.n)) (search rules) (search rules) in
    omega (arith, inside, (moved c.args.text.now c.loop-n.place _ piece).1)

pub returns-in-Piece : goal.returns-in-Piece
returns-in-Piece c =
    let inside : c.loop-n.place ≤ length c.args.text.now = search rules in
    let piece = stands c.args.text.now c.in_ok-get.field-0.now c.loop-n.place (Some (Piece c.in-Piece.kind c.in-Piece.n)) (search rules) (search rules) in
    found c.args.text.now c.args.at c.loop-n.place c.in-Piece.kind c.in-Piece.n _ c.loop-n.invariant.same c.loop-n.invariant.behind inside piece refl
