use Rattle.std.proofs.Common.{◌≡◌, ◌≤◌, [], ◌∷◌, length, take}
use Rattle.trie.specs.Contents.{tree_of}
use Rattle.discrimination.specs.Cells.{scanned}
use Rattle.discrimination.specs.Frames.{frames, Ready, weight, total}
use Rattle.discrimination.proofs.walk.walk.Given as goal

abbrev pub invariant-loop-frame : goal.invariant-loop-frame
invariant-loop-frame l = record {
  ready : Ready l.trie.nodes 0 (frames l.agenda);
  counted : l.found.len ≤ length l.list;
  same : total l.bank l.trie.nodes (frames l.agenda) l.list l.found.len ≡ take (length l.list) (scanned l.bank (tree_of l.trie) (l.cell ∷ []));
}

abbrev pub decreases-loop-frame : goal.decreases-loop-frame
decreases-loop-frame l = weight l.trie.nodes (frames l.agenda)
