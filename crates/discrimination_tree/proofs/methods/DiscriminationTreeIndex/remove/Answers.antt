use Rattle.trie.specs.Contents.{strings_of}
use Rattle.entries.specs.Stored.{map_of}
use Rattle.discrimination_tree.proofs.Changes.{removed}
use Rattle.discrimination_tree.proofs.methods.DiscriminationTreeIndex.remove.Goals as goal

pub invariant_of-self-2 : goal.invariant_of-self-2
invariant_of-self-2 c =
    let s = c.args.self.now in record {
      tied = removed (map_of s.entries) (map_of c.remove.new.self) c.args.number c.in_ok-pattern.pattern (strings_of s.trie) (strings_of c.remove-2.new.self) s.tied
          c.remove-2.result c.in_ok-pattern.ensures c.in_ok-remove.ensures.1 c.remove-2.ensures;
    }
