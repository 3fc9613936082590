use Rattle.std.proofs.Common.{length, drop}
use Rattle.lexer.specs.Tokens.{tokens_from}
use Rattle.dodgelaurel.proofs.report.print_problem.Given as goal

abbrev pub decreases-loop-part : goal.decreases-loop-part
decreases-loop-part l = length (tokens_from (drop l.reader.at l.reader.text.now) l.reader.at)
