-- The subterms of a row of nodes, by the places where they begin.
use Rattle.std.specs.Prelude.{ℕ, List, drop}
use Rattle.std.specs.Option.{unwrap_or}
use Rattle.terms.specs.Term.{Term, Terms, var, nil, ◌▹◌}
pub use Rattle.terms.specs.Preorder.{arguments}
use Rattle.terms.specs.Preorder.{row}
use Rattle.terms.specs.declared.pattern.Node.{Node}

-- the terms that the row lists from place p on, one after another
abbrev pub from : List Node → ℕ → Terms
from ns p = unwrap_or (row (drop p ns)) nil

abbrev pub leading : Terms → Term
leading nil = var 0
leading (t ▹ ts) = t

-- the subterm whose occurrences begin at place p
abbrev pub at : List Node → ℕ → Term
at ns p = leading (from ns p)
