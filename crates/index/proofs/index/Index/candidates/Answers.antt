use Rattle.std.proofs.Common.{arith}
use Rattle.index.proofs.Asking.{asked, at_capacity}
use Rattle.index.proofs.index.Index.candidates.Goals as goal

pub returns : goal.returns
returns g c =
    let allowed = at_capacity _ _ _ _ _ _ _ (omega (arith, g.met.Self.Index.least)) c.in_ok-check_question.ensures in
    (allowed, c.retrieve.ensures.within, c.retrieve.ensures.finds _ (asked _ _ _ _ _ _ allowed))
