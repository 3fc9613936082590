use Rattle.std.proofs.Common.{length, drop, vec_items}
use Rattle.lexer.specs.Tokens.{tokens_from}
use Rattle.replay.proofs.Reading.{Sofar}
use Rattle.replay.proofs.read_answers.Given as goal

abbrev pub invariant-loop-part : goal.invariant-loop-part
invariant-loop-part l = Sofar l.text l.reader.text.now l.reader.at (vec_items l.answers)

abbrev pub decreases-loop-part : goal.decreases-loop-part
decreases-loop-part l = length (tokens_from (drop l.reader.at l.reader.text.now) l.reader.at)
