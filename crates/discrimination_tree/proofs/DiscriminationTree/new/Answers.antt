use Rattle.entries.specs.Stored.{map_of}
use Rattle.trie.specs.Contents.{strings_of}
use Rattle.discrimination_tree.proofs.Changes.{empty}
use Rattle.discrimination_tree.proofs.DiscriminationTree.new.Goals as goal

pub invariant_of-result : goal.invariant_of-result
invariant_of-result c = record { tied = empty (map_of c.new.result) (strings_of c.new-2.result) c.new.ensures c.new-2.ensures }
