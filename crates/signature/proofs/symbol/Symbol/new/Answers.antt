use Rattle.std.proofs.Common.{sym, ◌∙◌, arith}
use Rattle.std.proofs.lemmas.Fmt.{decimal_injective}
use Rattle.signature.proofs.symbol.Symbol.new.Goals as goal

pub returns-then-weight-eq0 : goal.returns-then-weight-eq0
returns-then-weight-eq0 c l ok f =
    let w = decimal_injective l.weight c.in_ok-weight.weight (omega (arith, ok.weight_within)) (omega (arith, c.if-weight-eq0.true)) (sym f.weight_is ∙ c.in_ok-weight.ensures.1) in
    omega (arith, w, ok.weight_some, c.if-weight-eq0.true)
