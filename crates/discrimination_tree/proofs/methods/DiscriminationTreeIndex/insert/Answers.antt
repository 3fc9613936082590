use Rattle.trie.specs.Contents.{strings_of, tree_of}
use Rattle.trie.proofs.Holding.{trim, strings_once}
use Rattle.entries.specs.Stored.{map_of, numbers_of}
use Rattle.entries.proofs.Stores.{stores}
use Rattle.discrimination_tree.proofs.Changes.{inserted}
use Rattle.discrimination_tree.proofs.methods.DiscriminationTreeIndex.insert.Goals as goal

pub invariant_of-self-2 : goal.invariant_of-self-2
invariant_of-self-2 c =
    let s = c.args.self.now in
    let put = c.in_ok-insert.ensures in record {
      tied = inserted (map_of s.entries) (map_of c.insert.new.self) c.args.number c.args.pattern.now (strings_of s.trie) (strings_of c.insert-2.new.self) s.tied
          (numbers_of s.entries) c.insert-2.result (stores s.entries) (strings_once (tree_of s.trie) (trim s.trie)) put.0 put.1 put.2 c.insert-2.ensures;
    }
