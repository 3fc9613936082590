use Rattle.trie.specs.Contents.{labels}
use Rattle.trie.specs.Pools.{spelled}
use Rattle.trie.proofs.Seeking.{Seeking, left}
use Rattle.trie.proofs.trie.seek.seek.Given as goal

abbrev pub invariant-loop-v : goal.invariant-loop-v
invariant-loop-v l = Seeking l.nodes l.root (spelled l.nodes l.root) (labels l.row l.number) l.link l.cut l.at

abbrev pub decreases-loop-v : goal.decreases-loop-v
decreases-loop-v l = left l.nodes l.root l.link
