use Rattle.std.proofs.Common.{[], ◌∷◌, vec_items}
use Rattle.script.specs.declared.answer.Answer.TheVariants.{Refused, Nothing}
use Rattle.replay.specs.Replies.{refused}
use Rattle.grammar.proofs.Fewer.{one_fewer}
use Rattle.replay.proofs.Reading.{more_read, all_read, none_left, too_long}
use Rattle.replay.proofs.read_answers.Goals as goal

pub returns-in-Err : goal.returns-in-Err
returns-in-Err c = too_long c.args.text.now (vec_items c.new-answers.result) (vec_items c.push.new.self) c.in-Err.refusal c.in-Err.ensures.0 c.in-Err.ensures.1 c.new-answers.ensures.items c.in_ok-push-in-Err.ensures.items

pub returns-in-Err-next : goal.returns-in-Err-next
returns-in-Err-next c =
    all_read c.args.text.now c.loop-part.reader.text.now c.loop-part.reader.at (vec_items c.loop-part.answers) (vec_items c.push-in-Err-next.new.self) (Refused c.in-Err-next.refusal ∷ []) c.in-Ok.ensures.0 c.loop-part.invariant (refused c.in-Err-next.ensures.handed) c.in_ok-push-in-Err-next.ensures.items

pub returns-in-Ok-None : goal.returns-in-Ok-None
returns-in-Ok-None c =
    let none = none_left c.loop-part.reader.text.now c.loop-part.reader.at c.next.new.self.at c.in-Ok-None.field-0 c.in-Ok-None.field-0-is c.in-Ok-None.ensures.handed in
    all_read c.args.text.now c.loop-part.reader.text.now c.loop-part.reader.at (vec_items c.loop-part.answers) (vec_items c.push-in-Ok-None.new.self) (Nothing ∷ []) c.in-Ok.ensures.0 c.loop-part.invariant none c.in_ok-push-in-Ok-None.ensures.items

pub loop-part-smaller : goal.loop-part-smaller
loop-part-smaller c =
    one_fewer c.loop-part.reader.text.now c.next.new.self.text.now c.loop-part.reader.at c.next.new.self.at c.in-Ok-Some.field-0 c.in-Ok-Some.part c.in-Ok-Some.ensures.same c.in-Ok-Some.field-0-is c.in-Ok-Some.ensures.handed

pub loop-part-preserved : goal.loop-part-preserved
loop-part-preserved c =
    more_read c.args.text.now c.loop-part.reader.text.now c.next.new.self.text.now c.loop-part.reader.at c.next.new.self.at (vec_items c.loop-part.answers) (vec_items c.push-in-Ok-Some.new.self) c.in-Ok-Some.field-0 c.in-Ok-Some.part c.loop-part.invariant c.in-Ok-Some.ensures.same c.in-Ok-Some.field-0-is c.in-Ok-Some.ensures.handed c.in_ok-push-in-Ok-Some.ensures.items
