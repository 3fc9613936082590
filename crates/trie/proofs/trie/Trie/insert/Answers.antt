use Rattle.std.proofs.Common.{refl, inl, arith}
use Rattle.trie.proofs.Holding.{whole}
use Rattle.trie.proofs.Changing.{link_inside}
use Rattle.trie.specs.Contents.{tree_of}
use Rattle.trie.proofs.Editing.{tree_stands, at_within, room, inserts, there, added_carried, added_true}
use Rattle.trie.proofs.trie.Trie.insert.Goals as goal

pub seek-requires : goal.seek-requires
seek-requires c = tree_stands c.args.self.now

pub spell-first-requires : goal.spell-first-requires
spell-first-requires c =
    let t = c.args.self.now in
    let p = c.args.pattern.now in
    let miss = c.in-Err.ensures in
    record {
      small = omega (arith, t.room);
      kept = (whole t).kept;
      within = at_within t p c.args.number c.nodes-row.result.now c.nodes-row.ensures c.in-Err.gap.link c.in-Err.gap.at miss;
      room = room t p c.args.number c.nodes-row.result.now c.nodes-row.ensures c.in-Err.gap.link c.in-Err.gap.at miss (omega (arith, c.if-self-ge-MOST.false));
    }

pub relink-requires : goal.relink-requires
relink-requires c =
    link_inside (tree_of c.args.self.now) _ c.in-Err.gap.link c.in-Err.gap.at c.in-Err.ensures c.spell-first.new.nodes c.spell-first.new.marks c.spell-first.result c.spell-first.ensures

pub invariant_of-self : goal.invariant_of-self
invariant_of-self c =
    let t = c.args.self.now in
    let done = added_carried t c.args.pattern.now c.args.number c.nodes-row.result.now c.nodes-row.ensures c.relink.new.nodes c.relink.new.marks
    (inserts t c.args.pattern.now c.args.number c.nodes-row.result.now c.nodes-row.ensures c.in-Err.gap.link c.in-Err.gap.at c.in-Err.ensures
    c.spell-first.new.nodes c.spell-first.new.marks c.spell-first.result c.spell-first.ensures c.relink.new.nodes c.relink.new.marks c.relink.ensures.nodes c.relink.ensures.marks) in
    record {
      room = omega (arith, t.room, c.relink.auto.nodes, c.spell-first.auto.nodes);
      sound = done.sound;
      counted = done.counted;
      few = omega (arith, c.if-self-ge-MOST.false);
    }

pub returns-in_default : goal.returns-in_default
returns-in_default c = (inl (there c.args.self.now c.args.pattern.now c.args.number c.nodes-row.result.now c.nodes-row.ensures c.in_default.field-0 c.in_default.ensures), refl)

pub returns : goal.returns
returns c =
    added_true c.args.self.now c.args.pattern.now c.args.number c.nodes-row.result.now c.nodes-row.ensures c.relink.new.nodes c.relink.new.marks
    (inserts c.args.self.now c.args.pattern.now c.args.number c.nodes-row.result.now c.nodes-row.ensures c.in-Err.gap.link c.in-Err.gap.at c.in-Err.ensures
    c.spell-first.new.nodes c.spell-first.new.marks c.spell-first.result c.spell-first.ensures c.relink.new.nodes c.relink.new.marks c.relink.ensures.nodes c.relink.ensures.marks)
    (omega (arith, c.if-self-ge-MOST.false))
