use Rattle.std.proofs.Common.{length}
use Rattle.trie.specs.Pools.{spelled}
use Rattle.trie.specs.Taken.{hanging}
use Rattle.trie.proofs.Lending.{Hanging}
use Rattle.trie.proofs.trie.rooms.give_back.Given as goal

abbrev pub invariant-loop-at : goal.invariant-loop-at
invariant-loop-at l = Hanging l.nodes l.marks (spelled l.initial.nodes l.initial.marks.root) l.at

abbrev pub decreases-loop-at : goal.decreases-loop-at
decreases-loop-at l = length (hanging l.nodes l.at)
