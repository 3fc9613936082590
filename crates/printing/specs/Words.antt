-- What is printed of an order's answer.
use Rattle.std.specs.Prelude.{ℕ, List, ◌++◌, codes, Some, None, Option}
use Rattle.terms.specs.declared.side.Side.{Side}
use Rattle.terms.specs.Sides.{side_word}

abbrev pub higher_text : Option Side → List ℕ
higher_text None = codes "neither side is higher"
higher_text (Some side) = codes "the " ++ (side_word side ++ codes " side is higher")
