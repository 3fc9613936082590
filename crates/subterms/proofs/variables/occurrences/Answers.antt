use Rattle.std.proofs.Common.{◌≡◌, ◌∙◌, take_all, get_or, ap, arith, count_by, sym, rules, tests}
use Rattle.std.proofs.lemmas.List.Sums.{count_by_more_yes, count_by_more_no, length-filter}
use Rattle.terms.specs.declared.pattern.Node.TheVariants.{Var}
use Rattle.subterms.proofs.Counting.{is_var, occurring_filter}
use Rattle.subterms.proofs.variables.occurrences.Goals as goal
use Rattle.subterms.proofs.variables.occurrences.Goals.{then-eq, else-eq}

pub loop-node-preserved : goal.loop-node-preserved
loop-node-preserved c =
    let x = c.args.x in
    let row = c.args.row.now in
    let i = c.loop-node.node-index in
    let inv = c.loop-node.invariant in
    let is : c.eq.result ≡ is_var x (get_or row i (Var 0)) = search (rules, tests) in
    elim c.if-eq.branch [
      | then-eq w ↦ omega (arith, w.n-is, inv.0, count_by_more_yes (is_var x) row i (Var 0) c.loop-node-test.true (sym is ∙ w.if-eq.true))
      | else-eq w ↦ omega (arith, w.n-is, inv.0, count_by_more_no (is_var x) row i (Var 0) c.loop-node-test.true (sym is ∙ w.if-eq.false))
    ]

pub returns : goal.returns
returns c =
    let x = c.args.x in
    let row = c.args.row.now in
    c.loop-node.invariant.0 ∙ ap (count_by (is_var x)) (take_all c.loop-node.node-index row (omega arith)) ∙ sym (length-filter (is_var x) row) ∙ occurring_filter x row
