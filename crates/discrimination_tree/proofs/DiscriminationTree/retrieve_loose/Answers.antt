use Rattle.std.proofs.Common.{arith}
use Rattle.entries.specs.Stored.{map_of}
use Rattle.discrimination_tree.proofs.Loosely.{found}
use Rattle.discrimination_tree.proofs.DiscriminationTree.retrieve_loose.Goals as goal

pub returns : goal.returns
returns c =
    let s = c.args.self.now in
    record {
      within = c.walk.ensures.within;
      finds = found (map_of s.entries) s.trie c.args.bank.now c.args.cell c.args.list.now c.walk.new.list c.walk.new.found.len s.tied (omega (arith, c.walk.auto.list)) c.walk.ensures;
    }
