use Rattle.std.proofs.Common.{refl, arith}
use Rattle.trie.specs.Contents.{tree_of}
use Rattle.trie.proofs.Holding.{whole}
use Rattle.trie.proofs.Changing.{cut_inside, first_within}
use Rattle.trie.proofs.Editing.{tree_stands, absent, cut_here, some_row, handed, removes, rid_carried, rid_true}
use Rattle.trie.proofs.trie.Trie.remove.Goals as goal

pub seek-requires : goal.seek-requires
seek-requires c = tree_stands c.args.self.now

pub follow-first-requires : goal.follow-first-requires
follow-first-requires c = cut_inside c.args.self.now.nodes c.args.self.now.marks (tree_of c.args.self.now) _ c.in-Ok.cut (whole c.args.self.now) (cut_here c.args.self.now c.args.pattern.now c.args.number c.nodes.result.now c.nodes.ensures c.in-Ok.cut c.in-Ok.ensures)

pub next_at-next-requires : goal.next_at-next-requires
next_at-next-requires c = first_within c.args.self.now.nodes c.args.self.now.marks (tree_of c.args.self.now) _ c.in-Ok.cut (whole c.args.self.now) (cut_here c.args.self.now c.args.pattern.now c.args.number c.nodes.result.now c.nodes.ensures c.in-Ok.cut c.in-Ok.ensures) c.follow-first.result c.follow-first.ensures

pub relink-requires : goal.relink-requires
relink-requires c = cut_inside c.args.self.now.nodes c.args.self.now.marks (tree_of c.args.self.now) _ c.in-Ok.cut (whole c.args.self.now) (cut_here c.args.self.now c.args.pattern.now c.args.number c.nodes.result.now c.nodes.ensures c.in-Ok.cut c.in-Ok.ensures)

pub give_back-requires : goal.give_back-requires
give_back-requires c =
    let h = handed c.args.self.now c.args.pattern.now c.args.number c.nodes.result.now c.nodes.ensures c.in-Ok.cut c.in-Ok.ensures
    c.relink.new.nodes c.relink.new.marks c.follow-first.result c.next_at-next.result c.follow-first.ensures c.next_at-next.ensures c.relink.ensures.nodes c.relink.ensures.marks in
    record { hangs = h.hangs; kept = h.kept }

pub overflow_sub-self : goal.overflow_sub-self
overflow_sub-self c = some_row c.args.self.now c.args.pattern.now c.args.number c.nodes.result.now c.nodes.ensures c.in-Ok.cut c.in-Ok.ensures

pub invariant_of-self : goal.invariant_of-self
invariant_of-self c =
    let t = c.args.self.now in
    let done = rid_carried c.args.self.now c.args.pattern.now c.args.number c.nodes.result.now c.nodes.ensures c.give_back.new.nodes c.give_back.new.marks
    (removes c.args.self.now c.args.pattern.now c.args.number c.nodes.result.now c.nodes.ensures c.in-Ok.cut c.in-Ok.ensures
    c.relink.new.nodes c.relink.new.marks c.follow-first.result c.next_at-next.result c.follow-first.ensures c.next_at-next.ensures c.relink.ensures.nodes c.relink.ensures.marks
    c.give_back.new.nodes c.give_back.new.marks c.give_back.ensures) in
    record {
      room = omega (arith, t.room, c.relink.auto.nodes, c.give_back.auto.nodes);
      sound = done.sound;
      counted = done.counted;
      few = omega (arith, t.few);
    }

pub returns-in_default : goal.returns-in_default
returns-in_default c = (absent c.args.self.now c.args.pattern.now c.args.number c.nodes.result.now c.nodes.ensures c.in_default.field-0.link c.in_default.field-0.at c.in_default.ensures, refl)

pub returns : goal.returns
returns c =
    rid_true c.args.self.now c.args.pattern.now c.args.number c.nodes.result.now c.nodes.ensures c.give_back.new.nodes c.give_back.new.marks
    (removes c.args.self.now c.args.pattern.now c.args.number c.nodes.result.now c.nodes.ensures c.in-Ok.cut c.in-Ok.ensures
    c.relink.new.nodes c.relink.new.marks c.follow-first.result c.next_at-next.result c.follow-first.ensures c.next_at-next.ensures c.relink.ensures.nodes c.relink.ensures.marks
    c.give_back.new.nodes c.give_back.new.marks c.give_back.ensures)
