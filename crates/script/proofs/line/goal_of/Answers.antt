use Rattle.std.proofs.Common.{ℕ, List, subst}
use Rattle.std.proofs.lemmas.Result.{err_from_is_err_and}
use Rattle.script.specs.Escapes.{Quoted}
use Rattle.script.specs.Says.{Leads, NumbersText}
use Rattle.script.specs.declared.call.Limits.{Limits}
use Rattle.script.proofs.Spaces.{same_more}
use Rattle.script.proofs.line.goal_of.Goals as goal

-- the second number stands after the first
second_leads : {n : ℕ} {text after : List ℕ} (l : Limits) (bytes : List ℕ) (f : NumbersText l bytes text) → Leads n text after → Leads l.trace after f.more
second_leads l bytes f first = subst (λ (t : List ℕ). Leads l.trace t f.more) (same_more first f.bank) f.trace

pub returns-in_err-trace : goal.returns-in_err-trace
returns-in_err-trace c =
    let p = err_from_is_err_and c.from_residual-in_err-trace.result c.from_residual-in_err-trace.ensures.1 in
    rw p.1 (λ m f. c.in_err-trace.ensures f.0.trace f.1.1.more (second_leads f.0 f.1.0 f.1.1 c.in_ok-bank.ensures))

pub returns-in_err-formula : goal.returns-in_err-formula
returns-in_err-formula c =
    let p = err_from_is_err_and c.from_residual-in_err-formula.result c.from_residual-in_err-formula.ensures.1 in
    rw (p.1, p.2) (λ m f.
    let at = same_more c.in_ok-trace.ensures (second_leads f.0 f.1.0 f.1.1 c.in_ok-bank.ensures) in
    c.in_err-formula.ensures m f.1.0 (subst (λ (t : List ℕ). Quoted t f.1.0) at f.1.1.formula))
