use Rattle.std.proofs.Common.{sym, ◌∙◌}
use Rattle.formula.proofs.Named.{symbol_found, symbol_none}
use Rattle.formula.proofs.symbol.symbol_named.Goals as goal

pub returns-in_err-symbol : goal.returns-in_err-symbol
returns-in_err-symbol c = c.from_residual.ensures ∙ sym (symbol_none c.args.signature.now c.args.word.now c.in_err-symbol.ensures)

pub returns : goal.returns
returns c =
    let f = c.in_ok-symbol.ensures in
    symbol_found c.args.signature.now c.args.word.now c.in_ok-symbol.symbol c.in_ok-arity.arity f.0 f.1 c.in_ok-arity.ensures.1
