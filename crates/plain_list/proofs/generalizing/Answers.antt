use Rattle.std.proofs.Common.{rules, ap, length, arith, ◌∙◌}
use Rattle.plain_list.proofs.Going.{appends, skips, no_room, finished}
use Rattle.plain_list.proofs.generalizing.Goals as goal
use Rattle.plain_list.proofs.generalizing.Goals.{then-len-room+then-is_instance, else-len-room, else-len-room-via-then-len-room+else-is_instance, else-len-room-via-else-len-room}

pub loop-entry-preserved : goal.loop-entry-preserved
loop-entry-preserved c =
    let e = c.entry-item.result in
    let i = c.loop-entry.invariant in
    elim c.if-len-room.branch [
      | then-len-room+then-is_instance w ↦
          let a = appends i.going e c.loop-entry-test.true c.entry-item.is w.append.result w.append.new.self.cells.now w.append.new.self.count.now.len w.append.ensures.does w.if-is_instance.ensures in
          rw w.numbers-is record { going = a.0; long = a.1 ∙ i.long; cells = w.append.ensures.cells_name ∙ i.cells; count = w.append.ensures.count_name ∙ i.count }
      | else-len-room w ↦ rw w.numbers-is (elim w.else-len-room.branch [
        | else-len-room-via-then-len-room+else-is_instance v ↦ record { going = skips i.going e c.loop-entry-test.true c.entry-item.is v.if-is_instance.ensures; long = i.long; cells = i.cells; count = i.count }
        | else-len-room-via-else-len-room v ↦ record { going = no_room i.going e c.loop-entry-test.true c.entry-item.is (omega (arith, v.if-len-room.false, c.len.ensures, i.long, ap length c.over-numbers.ensures.cells_now)); long = i.long; cells = i.cells; count = i.count }
      ])
    ]

pub returns-clause-finds : goal.returns-clause-finds
returns-clause-finds c = finished c.loop-entry.invariant.going (search rules) c.loop-entry-test.false (search rules) (search rules)
