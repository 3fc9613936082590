use Rattle.std.proofs.Common.{◌≡◌, drop}
use Rattle.lexer.specs.Tokens.{tokens_from}
use Rattle.formula.proofs.tokens.skip_tokens.Given as goal

abbrev pub invariant-loop : goal.invariant-loop
invariant-loop l = tokens_from (drop l.place l.text) l.place ≡ drop l.counter (tokens_from (drop l.at l.text) l.at)
