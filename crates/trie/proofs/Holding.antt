-- What each tree in its pool keeps.
use Rattle.std.proofs.Common.{◌≡◌, true}
use Rattle.trie.specs.declared.trie.Trie.{Trie}
use Rattle.trie.specs.Trees.{is_trim, are_patterns}
use Rattle.trie.specs.Pools.{Held}
use Rattle.trie.specs.Contents.{tree_of, strings_of}
use Rattle.trie.proofs.Growing.{Whole, from_sound}
pub use Rattle.trie.proofs.Labels.{strings_once}

pub whole : (t : Trie) → Whole t.nodes t.marks (tree_of t)
whole t = from_sound t.nodes t.marks.root t.marks.free t.marks.used t.sound

pub held : (t : Trie) → Held t.nodes t.marks.root (tree_of t)
held t = (whole t).kept.held

pub trim : (t : Trie) → is_trim (tree_of t) ≡ true
trim t = (whole t).trim

pub patterns : (t : Trie) → are_patterns (strings_of t) ≡ true
patterns t = (whole t).patterns
