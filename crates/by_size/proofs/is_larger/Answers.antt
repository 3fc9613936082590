use Rattle.std.proofs.Common.{◌∙◌, arith}
use Rattle.std.proofs.lemmas.Bool.{ltb-true}
use Rattle.subterms.proofs.Patterns.{pattern_nodes, pattern_cells}
use Rattle.subterms.proofs.Counting.{covers_preorder}
use Rattle.by_size.proofs.is_larger.Goals as goal

pub returns-then-len : goal.returns-then-len
returns-then-len c =
    let m = c.len.ensures ∙ pattern_cells c.args.s.now in
    let n = c.len-2.ensures ∙ pattern_cells c.args.t.now in
    let d = covers_preorder _ _ _ _ (c.nodes.ensures ∙ pattern_nodes c.args.s.now) (c.nodes-then-len.ensures ∙ pattern_nodes c.args.t.now) _ c.covers.ensures in
    (λ e. (d.0 e, omega (arith, m, n, c.if-len.true)), λ h. d.1 h.0)

pub returns-else-len : goal.returns-else-len
returns-else-len c =
    let m = c.len.ensures ∙ pattern_cells c.args.s.now in
    let n = c.len-2.ensures ∙ pattern_cells c.args.t.now in
    (λ e. absurd (omega (arith, ltb-true _ _ e, c.if-len.false)), λ h. absurd (omega (arith, h.1, m, n, c.if-len.false)))
