use Rattle.std.proofs.Common.{List, length, Ok, ap, ◌∙◌}
use Rattle.std.proofs.lemmas.Result.{err_from_is_err_and}
use Rattle.lexer.specs.Next.{lexeme_of}
use Rattle.lexer.specs.Tokens.{Lexeme}
use Rattle.grammar.specs.Fits.{Unambiguous}
use Rattle.grammar.proofs.Unique.{formula_once}
use Rattle.grammar.specs.Outcomes.{too_long, misfit, fits}
use Rattle.grammar.proofs.Walks.{walk_misfit, trailing, whole}
use Rattle.grammar.proofs.check.check_formula.Goals as goal

once : (ts : List Lexeme) → Unambiguous ts
once ts x y a b = formula_once a b

pub returns-then-text-gt-LONGEST : goal.returns-then-text-gt-LONGEST
returns-then-text-gt-LONGEST c = record { outcome = too_long c.if-text-gt-LONGEST.true; once = once _ }

pub returns-in_err-end : goal.returns-in_err-end
returns-in_err-end c =
    let p = err_from_is_err_and c.from_residual.result c.from_residual.ensures.1 in
    record { outcome = rw (p.1, p.2) (misfit c.if-text-gt-LONGEST.false (walk_misfit 0 _ (length c.args.text.now) _ c.in_err-end.ensures)); once = once _ }

pub returns-in-Some : goal.returns-in-Some
returns-in-Some c =
    let walked = c.in_ok-end.ensures in
    let found = c.in-Some.ensures in
    record { outcome = misfit c.if-text-gt-LONGEST.false (trailing 0 _ (length c.args.text.now) c.in_ok-end.end (lexeme_of c.in-Some.token) _ (walked.0 ∙ ap (λ ts. Ok (c.in_ok-end.end, ts)) found.0)); once = once _ }

pub returns-in-None : goal.returns-in-None
returns-in-None c =
    let walked = c.in_ok-end.ensures in
    record { outcome = fits c.if-text-gt-LONGEST.false (whole 0 _ (length c.args.text.now) c.in_ok-end.end (walked.0 ∙ ap (λ ts. Ok (c.in_ok-end.end, ts)) c.in-None.ensures)); once = once _ }
