use Rattle.std.proofs.Common.{◌≡◌, ◌-◌, ◌≤◌, [], length, drop, None}
use Rattle.lexer.specs.Tokens.{tokens_from}
use Rattle.formula.specs.Scans.{scan}
use Rattle.row.specs.Items.{items}
use Rattle.formula.specs.Stacks.{stack_of}
use Rattle.formula.proofs.uses.methods.first_misused.Given as goal

abbrev pub invariant-loop-token : goal.invariant-loop-token
invariant-loop-token l = record {
  same : scan l.signature (stack_of l.uses) l.uses.lowest (tokens_from (drop l.place l.text) l.place) ≡ scan l.signature [] None (tokens_from (drop l.at l.text) l.at);
  deep : length (items l.uses.frames) ≤ l.place;
}

abbrev pub decreases-loop-token : goal.decreases-loop-token
decreases-loop-token l = length l.text - l.place
