use Rattle.std.proofs.Common.{subst}
use Rattle.std.proofs.lemmas.Result.{err_from_is_err_and}
use Rattle.script.specs.Says.{Only}
use Rattle.script.proofs.Spaces.{same_more}
use Rattle.script.proofs.line.limits_of.Goals as goal

pub returns-in_err-trace : goal.returns-in_err-trace
returns-in_err-trace c =
    let p = err_from_is_err_and c.from_residual-in_err-trace.result c.from_residual-in_err-trace.ensures.1 in
    rw p.1 (λ l f. c.in_err-trace.ensures l.trace (subst (Only l.trace) (same_more c.in_ok-bank.ensures f.bank) f.trace))
