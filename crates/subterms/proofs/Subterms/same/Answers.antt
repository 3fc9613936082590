use Rattle.std.proofs.Common.{◌<◌, sym, ap, ◌∙◌, arith, length}
use Rattle.terms.specs.Preorder.{preorder}
use Rattle.subterms.specs.Rows.{row_of}
use Rattle.subterms.proofs.Tables.{preorder_inj}
use Rattle.subterms.proofs.Subterms.same.Goals as goal

pub returns : goal.returns
returns c =
    let p : c.args.p < length (row_of c.args.self.now) = omega (arith, ap length c.nodes.ensures) in
    let q : c.args.q < length (row_of c.args.other.now) = omega (arith, ap length c.nodes-else-p-nodes.ensures) in
    let a = c.subterm.ensures.there p in
    let b = c.subterm-2.ensures.there q in
    let d = c.are_equal.ensures in
    (λ e. (p, q, preorder_inj _ _ (sym a ∙ d.0 e ∙ b)), λ h. d.1 (a ∙ ap preorder h.2 ∙ sym b))
