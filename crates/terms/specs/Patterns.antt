-- What a pattern stands for.
use Rattle.std.specs.Prelude.{List}
use Rattle.row.specs.Items.{items}
use Rattle.std.specs.Option.{unwrap_or}
use Rattle.terms.specs.Term.{Term, var}
use Rattle.terms.specs.Preorder.{decode}
use Rattle.terms.specs.declared.pattern.Node.{Node}
use Rattle.terms.specs.declared.pattern.Pattern.{Pattern}

abbrev pub nodes_of : Pattern → List Node
nodes_of p = items p.nodes

-- a pattern's row decodes, so the default is never taken
abbrev pub term_of : Pattern → Term
term_of p = unwrap_or (decode (nodes_of p)) (var 0)
