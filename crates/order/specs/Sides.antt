-- Which of two terms is the higher.
use Rattle.std.specs.Prelude.{Some, None, Option}
use Rattle.terms.specs.Term.{Term}
use Rattle.terms.specs.declared.side.Side.{Side}
use Rattle.terms.specs.declared.side.Side.TheVariants.{Left, Right}

abbrev pub Turned : (Term → Term → Type 0) → Option Side → Term → Term → Type 0
Turned above None s t = (above s t → ⊥) × (above t s → ⊥)
Turned above (Some Left) s t = above s t × (above t s → ⊥)
Turned above (Some Right) s t = above t s × (above s t → ⊥)
