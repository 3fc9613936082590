use Rattle.std.proofs.Common.{◌≡◌, subst, drop, arith}
use Rattle.trie.specs.Contents.{labels}
use Rattle.trie.specs.Trees.{places}
use Rattle.trie.specs.Pools.{spelled}
use Rattle.trie.specs.Taken.{Spelt}
use Rattle.trie.proofs.Lending.{Taken, free_within, room_left, spell_on, spell_again}
use Rattle.trie.proofs.trie.rooms.spell.Goals as goal

pub take-v-requires : goal.take-v-requires
take-v-requires c = record {
  small = omega (arith, c.requires.small, c.loop-i.auto.nodes);
  inside = free_within c.loop-i.nodes c.loop-i.marks _ _ c.loop-i.invariant.spelt.kept;
  room = room_left c.loop-i.nodes c.loop-i.marks _ c.args.row.now c.args.number c.loop-i.i c.args.at c.loop-i.down c.loop-i.invariant.spelt
      (omega (arith, c.requires.room, c.loop-i.auto.nodes)) c.loop-i-test.true c.loop-i.auto.i;
}

on : (c : goal.After-label_at) → Taken c.loop-i.nodes c.take-v.new.marks (spelled c.args.nodes.now c.args.marks.now.root) c.take-v.result (places c.loop-i.invariant.spelt.stem)
on c =
    spell_on c.loop-i.nodes c.loop-i.marks c.take-v.new.marks _ c.args.row.now c.args.number c.loop-i.i c.args.at c.take-v.result c.loop-i.down c.loop-i.invariant.spelt
    (omega (arith, c.requires.room, c.loop-i.auto.nodes)) c.loop-i-test.true c.loop-i.auto.i c.take-v.ensures

pub bounds-nodes-v : goal.bounds-nodes-v
bounds-nodes-v c = (on c).below

pub loop-i-preserved : goal.loop-i-preserved
loop-i-preserved c = record {
  spelt = spell_again c.loop-i.nodes c.loop-i.marks _ c.args.row.now c.args.number c.loop-i.i c.take-v.result c.label_at.result c.loop-i.down c.loop-i.invariant.spelt c.take-v.new.marks (on c)
      (omega (arith, c.loop-i-test.true)) c.loop-i.auto.i c.label_at.ensures;
  above = omega (arith, c.loop-i-test.true);
}

pub returns : goal.returns
returns c =
    let e : c.loop-i.i ≡ c.args.at = omega (arith, c.loop-i-test.false, c.loop-i.invariant.above) in
    subst (λ k. Spelt c.loop-i.nodes c.loop-i.marks (spelled c.args.nodes.now c.args.marks.now.root) (drop k (labels c.args.row.now c.args.number)) c.loop-i.down) e c.loop-i.invariant.spelt
