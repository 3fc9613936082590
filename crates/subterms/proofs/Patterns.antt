-- A pattern's row, and the table of its subterms.
use Rattle.std.proofs.Common.{◌≡◌, ◌≤◌, length, sym, ap, ◌∙◌, append-nil}
use Rattle.row.proofs.Sizes.{within}
use Rattle.terms.specs.Term.{cells}
use Rattle.terms.specs.Preorder.{preorder, preorders}
use Rattle.terms.specs.Patterns.{nodes_of, term_of}
use Rattle.terms.specs.declared.pattern.Pattern.{Pattern}
use Rattle.subterms.proofs.Preorders.{length_preorder}
use Rattle.subterms.proofs.Places.{from_is, from_whole}

pub pattern_short : (p : Pattern) → length (nodes_of p) ≤ 32
pattern_short p = within p.nodes

-- a pattern's nodes are its term's preorder
pub pattern_nodes : (p : Pattern) → nodes_of p ≡ preorder (term_of p)
pattern_nodes p = sym (from_is (nodes_of p) p.whole 0) ∙ ap preorders (from_whole (nodes_of p) p.whole) ∙ append-nil (preorder (term_of p))

pub pattern_cells : (p : Pattern) → length (nodes_of p) ≡ cells (term_of p)
pattern_cells p = ap length (pattern_nodes p) ∙ length_preorder (term_of p)
