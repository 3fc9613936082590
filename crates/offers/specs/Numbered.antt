-- Patterns numbered from 1 on.
use Rattle.std.specs.Prelude.{◌≡◌, ◌+◌, ◌<◌, ◌≤◌, Bool, true, false, List, [], ◌∷◌, length, None}
use Rattle.terms.specs.declared.pattern.Pattern.{Pattern}
use Rattle.index.specs.Maps.{Map, Same, put}
use Rattle.entries.specs.Stored.{map_of}
use Rattle.offers.specs.declared.Patterns.{Patterns}

-- the latest first
abbrev pub numbered : List Pattern → Map
numbered [] n = None
numbered (p ∷ ps) n = put (numbered ps) (length ps + 1) p n

abbrev pub in_tree : Patterns → Map
in_tree s = map_of s.tree.inner.entries

abbrev pub in_list : Patterns → Map
in_list s = map_of s.list.entries

-- tree and list store these patterns, the latest first, and no others
pub record Kept (s : Patterns) (ps : List Pattern) : Type 0 where
  pub tree : Same (numbered ps) (in_tree s)
  pub list : Same (numbered ps) (in_list s)
  pub last : s.last ≡ length ps
  pub few : length ps ≤ 64

-- one more pattern is taken exactly if fewer than 64 are there
abbrev pub Added : List Pattern → Pattern → Patterns → Bool → Type 0
Added ps p s true = (length ps < 64) × Kept s (p ∷ ps)
Added ps p s false = (length ps ≡ 64) × Kept s ps
