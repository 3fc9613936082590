use Rattle.std.proofs.Common.{◌≡◌, ◌-◌, [], length, drop}
use Rattle.lexer.specs.Tokens.{tokens_from}
use Rattle.formula.specs.Rows.{row_of, names_in}
use Rattle.row.specs.Items.{items}
use Rattle.formula.proofs.side.methods.read_side.Given as goal

abbrev pub invariant-loop-token : goal.invariant-loop-token
invariant-loop-token l = row_of l.signature (names_in l.text l.variables) (items l.side) (tokens_from (drop l.end l.text) l.end) ≡ row_of l.signature (names_in l.text l.initial.variables) [] (tokens_from (drop l.at l.text) l.at)

abbrev pub decreases-loop-token : goal.decreases-loop-token
decreases-loop-token l = length l.text - l.end
