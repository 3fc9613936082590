use Rattle.std.proofs.Common.{◌≡◌, ◌-◌, ◌≤◌, length, drop}
use Rattle.lexer.specs.Tokens.{tokens_from}
use Rattle.lexer.proofs.scanner.next_token.Given as goal

abbrev pub invariant-loop-n : goal.invariant-loop-n
invariant-loop-n l = record {
  same : tokens_from (drop l.at l.text) l.at ≡ tokens_from (drop l.place l.text) l.place;
  behind : l.at ≤ l.place;
}

abbrev pub decreases-loop-n : goal.decreases-loop-n
decreases-loop-n l = length l.text - l.place
