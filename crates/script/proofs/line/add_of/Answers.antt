use Rattle.std.proofs.Common.{ℕ, List, subst}
use Rattle.std.proofs.lemmas.Result.{err_from_is_err_and}
use Rattle.script.specs.Escapes.{Quoted}
use Rattle.script.proofs.Spaces.{same_more}
use Rattle.script.proofs.line.add_of.Goals as goal

pub returns-in_err-formula : goal.returns-in_err-formula
returns-in_err-formula c =
    let p = err_from_is_err_and c.from_residual-in_err-formula.result c.from_residual-in_err-formula.ensures.1 in
    rw (p.1, p.2) (λ m f.
    c.in_err-formula.ensures m f.1.0 (subst (λ (t : List ℕ). Quoted t f.1.0) (same_more c.in_ok-number.ensures f.1.1.number) f.1.1.formula))
