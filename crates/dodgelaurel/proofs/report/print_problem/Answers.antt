use Rattle.grammar.proofs.Fewer.{one_fewer}
use Rattle.dodgelaurel.proofs.report.print_problem.Goals as goal

pub loop-part-smaller : goal.loop-part-smaller
loop-part-smaller c =
    one_fewer c.loop-part.reader.text.now c.next.new.self.text.now c.loop-part.reader.at c.next.new.self.at c.in-Ok-Some.field-0 c.in-Ok-Some.part c.next.ensures.same c.in-Ok-Some.field-0-is (rw c.in-Ok-Some.is at c.next.ensures.handed)
