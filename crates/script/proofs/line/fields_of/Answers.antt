use Rattle.std.proofs.Common.{subst}
use Rattle.std.proofs.lemmas.Result.{err_from_is_err_and}
use Rattle.script.specs.Says.{Form}
use Rattle.script.specs.declared.call.Word.{Word}
use Rattle.script.proofs.line.fields_of.Goals as goal

pub returns-in_err-quoted-in-Signature : goal.returns-in_err-quoted-in-Signature
returns-in_err-quoted-in-Signature c =
    let p = err_from_is_err_and c.from_residual.result c.from_residual.ensures.1 in
    rw (p.1, p.2) (λ m f. let g = subst (λ (w : Word). Form w c.args.rest.now) c.in-Signature.is f in c.in_err-quoted-in-Signature.ensures m g.0 g.1)

pub returns-in_err-limits_of-in-Audit : goal.returns-in_err-limits_of-in-Audit
returns-in_err-limits_of-in-Audit c =
    let p = err_from_is_err_and c.from_residual-in_err-limits_of-in-Audit.result c.from_residual-in_err-limits_of-in-Audit.ensures.1 in
    rw p.1 (λ m f. let g = subst (λ (w : Word). Form w c.args.rest.now) c.in-Audit.is f in c.in_err-limits_of-in-Audit.ensures g.0 g.1)

pub returns-in_err-quoted-in-Read : goal.returns-in_err-quoted-in-Read
returns-in_err-quoted-in-Read c =
    let p = err_from_is_err_and c.from_residual-in_err-quoted-in-Read.result c.from_residual-in_err-quoted-in-Read.ensures.1 in
    rw (p.1, p.2) (λ m f. let g = subst (λ (w : Word). Form w c.args.rest.now) c.in-Read.is f in c.in_err-quoted-in-Read.ensures m g.0 g.1)
