use Rattle.std.proofs.Common.{decimal, ◌∙◌}
use Rattle.fields.proofs.Cutting.{uncut}
use Rattle.signature.proofs.Cuts.{flat, name_cut, arity_cut, weight_cut}
use Rattle.signature.proofs.line.first_line.Goals as goal

pub returns-in_err-name : goal.returns-in_err-name
returns-in_err-name c =
    rw c.from_residual.ensures (λ l after ok e.
    uncut 9 l.name _ (rw (e ∙ flat l after) at c.in_err-name.ensures))

pub returns-in_err-arity : goal.returns-in_err-arity
returns-in_err-arity c =
    rw c.from_residual-in_err-arity.ensures (λ l after ok e.
    let n = name_cut l after ok _ _ _ c.in_ok-name.ensures e in
    uncut 9 (decimal l.arity) _ (rw n.1 at c.in_err-arity.ensures))

pub returns-in_err-weight : goal.returns-in_err-weight
returns-in_err-weight c =
    rw c.from_residual-in_err-weight.ensures (λ l after ok e.
    let n = name_cut l after ok _ _ _ c.in_ok-name.ensures e in
    let a = arity_cut l after ok _ _ _ c.in_ok-arity.ensures n.1 in
    uncut 10 (decimal l.weight) _ (rw a.1 at c.in_err-weight.ensures))

pub returns-in_err-symbol : goal.returns-in_err-symbol
returns-in_err-symbol c =
    rw c.from_residual-in_err-symbol.ensures (λ l after ok e.
    let n = name_cut l after ok _ _ _ c.in_ok-name.ensures e in
    let a = arity_cut l after ok _ _ _ c.in_ok-arity.ensures n.1 in
    let w = weight_cut l after ok _ _ _ c.in_ok-weight.ensures a.1 in
    c.in_err-symbol.ensures l ok (record { name_is = n.0; arity_is = a.0; weight_is = w.0 }))
