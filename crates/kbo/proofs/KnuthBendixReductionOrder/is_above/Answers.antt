use Rattle.signature.specs.Signatures.{sig_of}
use Rattle.subterms.proofs.Tables.{at_top}
use Rattle.kbo.proofs.KnuthBendixReductionOrder.is_above.Goals as goal

pub returns-then-are_over : goal.returns-then-are_over
returns-then-are_over c =
    let w = (sig_of c.args.signature.now).weight in
    let s = at_top c.new.result c.args.s.now c.new.ensures in
    let t = at_top c.new-then-are_over.result c.args.t.now c.new-then-are_over.ensures in
    let over = c.are_over.ensures.0 c.if-are_over.true in
    (λ e. (over.0, over.1, rw (s, t) at (c.is_above.ensures.0 e)), λ h. c.is_above.ensures.1 (rw (← s, ← t) at h.2))
