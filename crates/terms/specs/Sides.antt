-- How a side of an equation is named.
use Rattle.std.specs.Prelude.{ℕ, List, codes}
use Rattle.terms.specs.declared.side.Side.{Side}
use Rattle.terms.specs.declared.side.Side.TheVariants.{Left, Right}

abbrev pub side_word : Side → List ℕ
side_word Left = codes "left"
side_word Right = codes "right"
