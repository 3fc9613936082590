use Rattle.std.proofs.Common.{refl}
use Rattle.std.proofs.lemmas.Result.{err_from_is_err_and}
use Rattle.lexer.specs.Next.{lexeme_of}
use Rattle.grammar.specs.Outcomes.{none}
use Rattle.grammar.proofs.Handing.{refuses, hands}
use Rattle.grammar.proofs.reader.Reader.next.Goals as goal

pub returns-in_default : goal.returns-in_default
returns-in_default c = record { same = refl; handed = none c.in_default.ensures }

pub returns-in_err-end : goal.returns-in_err-end
returns-in_err-end c =
    let p = err_from_is_err_and c.from_residual.result c.from_residual.ensures.1 in
    record { same = refl; handed = refuses _ _ c.in-Some.first.place _ (lexeme_of c.in-Some.first) _ c.from_residual.result c.in-Some.ensures.0 c.in-Some.ensures.4 c.in_err-end.ensures (rw (p.1, p.2)) }

pub returns : goal.returns
returns c = record { same = refl; handed = hands _ _ (lexeme_of c.in-Some.first) _ c.in_ok-end.end _ c.in-Some.ensures.0 c.in-Some.ensures.4 c.in_ok-end.ensures.0 c.in_ok-end.ensures.1 refl refl }
