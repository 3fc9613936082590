-- The order by size: more cells above than below, and no variable oftener below than above.
use Rattle.std.specs.Prelude.{◌<◌}
use Rattle.terms.specs.Term.{Term, cells}
use Rattle.rewriting.specs.Count.{Covers}

abbrev pub Larger : Term → Term → Type 0
Larger s t = Covers s t × (cells t < cells s)
