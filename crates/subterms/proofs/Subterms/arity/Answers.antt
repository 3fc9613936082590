use Rattle.std.proofs.Common.{sym, ap, ◌∙◌}
use Rattle.std.proofs.lemmas.Bool.{ltb-true, ltb-false}
use Rattle.std.proofs.lemmas.List.{get_or_default}
use Rattle.terms.specs.Term.{width}
use Rattle.terms.specs.declared.pattern.Node.TheVariants.{Var}
use Rattle.subterms.specs.Places.{arguments}
use Rattle.subterms.specs.Rows.{row_of}
use Rattle.subterms.proofs.Tables.{args_wide, args_none}
use Rattle.subterms.proofs.Subterms.arity.Goals as goal

pub returns-in-Some : goal.returns-in-Some
returns-in-Some c =
    let s = c.args.self.now in
    let found = rw c.nodes.ensures at c.in-Some.ensures.lookup in
    let inside = ltb-true _ _ (sym found.0) in
    c.arity.ensures ∙ ap arguments (found.1 ∙ get_or_default (row_of s) c.args.p c.in-Some.node.now (Var 0) inside) ∙ sym (args_wide s c.args.p inside)

pub returns-in-None : goal.returns-in-None
returns-in-None c =
    let past = ltb-false _ _ (sym (rw c.nodes.ensures at c.in-None.ensures.lookup).0) in
    sym (ap width (args_none c.args.self.now c.args.p past))
