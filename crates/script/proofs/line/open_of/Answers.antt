use Rattle.std.proofs.Common.{rules, ◌≡◌, None, sym, ◌∙◌, arith}
use Rattle.std.proofs.lemmas.Option.{MatchOption-at_none}
use Rattle.std.proofs.lemmas.Result.{err_from_is_err_and}
use Rattle.fields.specs.Cuts.{Cut}
use Rattle.fields.proofs.Cutting.{uncut, cut_is}
use Rattle.script.specs.Spellings.{order_word, index_word}
use Rattle.script.proofs.Spaces.{same_more, order_free}
use Rattle.script.proofs.line.open_of.Goals as goal

pub returns-in_err-words : goal.returns-in_err-words
returns-in_err-words c =
    let p = err_from_is_err_and c.from_residual-in_err-words.result c.from_residual-in_err-words.ensures.1 in
    let none : c.cut.result ≡ None = grind arith in
    rw p.1 (λ f.
    let nw = f.1.1.1 in
    let e = sym (same_more c.in_ok-number.ensures nw.number) ∙ nw.words in
    uncut 32 (order_word f.1.0) (index_word f.1.1.0) (rw e at (MatchOption-at_none _ _ none c.cut.ensures)))

pub returns-in_err-order : goal.returns-in_err-order
returns-in_err-order c =
    let p = err_from_is_err_and c.from_residual-in_err-order.result c.from_residual-in_err-order.ensures.1 in
    let words = c.in_ok-words.words in
    let cut : Cut 32 c.in_ok-number.rest.now words.bytes.now words.after.now = search rules in
    rw p.1 (λ f.
    let nw = f.1.1.1 in
    let e = sym (same_more c.in_ok-number.ensures nw.number) ∙ nw.words in
    c.in_err-order.ensures f.1.0 (cut_is _ _ cut (order_free f.1.0) e).0)

pub returns-in_err-index : goal.returns-in_err-index
returns-in_err-index c =
    let p = err_from_is_err_and c.from_residual-in_err-index.result c.from_residual-in_err-index.ensures.1 in
    let words = c.in_ok-words.words in
    let cut : Cut 32 c.in_ok-number.rest.now words.bytes.now words.after.now = search rules in
    rw p.1 (λ f.
    let nw = f.1.1.1 in
    let e = sym (same_more c.in_ok-number.ensures nw.number) ∙ nw.words in
    c.in_err-index.ensures f.1.1.0 (cut_is _ _ cut (order_free f.1.0) e).1)
