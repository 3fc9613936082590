use Rattle.std.proofs.Common.{◌≡◌, ◌-◌, ◌≤◌, true, length, drop}
use Rattle.lexer.specs.Tokens.{tokens_from}
use Rattle.grammar.specs.Machine.{walk, is_done, depth_of}
use Rattle.grammar.specs.declared.machine.State.TheVariants as state
use Rattle.grammar.proofs.machine.methods.formula_end.Given as goal

abbrev pub invariant-loop-state : goal.invariant-loop-state
invariant-loop-state l = record {
  same : walk l.state l.end (tokens_from (drop l.end l.text) l.end) (length l.text) ≡ walk state.Start l.at (tokens_from (drop l.at l.text) l.at) (length l.text);
  deep : depth_of l.state ≤ l.end;
  behind : l.at ≤ l.end;
  within : is_done l.state ≡ true → l.end ≤ length l.text;
}

abbrev pub decreases-loop-state : goal.decreases-loop-state
decreases-loop-state l = length l.text - l.end
