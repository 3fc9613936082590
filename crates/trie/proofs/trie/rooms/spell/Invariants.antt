use Rattle.std.proofs.Common.{◌≤◌, drop}
use Rattle.trie.specs.Contents.{labels}
use Rattle.trie.specs.Pools.{spelled}
use Rattle.trie.specs.Taken.{Spelt}
use Rattle.trie.proofs.trie.rooms.spell.Given as goal

abbrev pub invariant-loop-i : goal.invariant-loop-i
invariant-loop-i l = record {
  spelt : Spelt l.nodes l.marks (spelled l.initial.nodes l.initial.marks.root) (drop l.i (labels l.row l.number)) l.down;
  above : l.at ≤ l.i;
}
