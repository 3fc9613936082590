use Rattle.std.proofs.lemmas.Bool.{both_ways}
use Rattle.signature.specs.Signatures.{sig_of}
use Rattle.rewriting.proofs.Steps.{rewrites_end, asymmetric}
use Rattle.order.proofs.orient.orient.Goals as goal

pub returns-then-is_above : goal.returns-then-is_above
returns-then-is_above g c =
    let S = sig_of c.args.signature.now in
    let A = g.met.O.ReductionOrder.reduces c.args.order.now c.args.signature.now in
    let h = c.is_above.ensures.0 c.if-is_above.true in
    record { turned = (h, asymmetric S A _ _ h); ends = rewrites_end S A }

pub returns-then-is_above-2 : goal.returns-then-is_above-2
returns-then-is_above-2 g c =
    let S = sig_of c.args.signature.now in
    let A = g.met.O.ReductionOrder.reduces c.args.order.now c.args.signature.now in
    let h = c.is_above-else-is_above.ensures.0 c.if-is_above-2.true in
    record { turned = (h, asymmetric S A _ _ h); ends = rewrites_end S A }

pub returns-else-is_above-2 : goal.returns-else-is_above-2
returns-else-is_above-2 g c =
    let S = sig_of c.args.signature.now in
    let A = g.met.O.ReductionOrder.reduces c.args.order.now c.args.signature.now in
    record {
      turned = (λ h. both_ways _ c.if-is_above.false (c.is_above.ensures.1 h), λ h. both_ways _ c.if-is_above-2.false (c.is_above-else-is_above.ensures.1 h));
      ends = rewrites_end S A;
    }
