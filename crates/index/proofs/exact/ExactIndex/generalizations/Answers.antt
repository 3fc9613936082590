use Rattle.index.proofs.Asking.{asked, at_capacity}
use Rattle.index.proofs.exact.ExactIndex.generalizations.Goals as goal

pub returns : goal.returns
returns g c =
    let allowed = at_capacity _ _ _ _ _ _ _ c.CAPACITY.ensures c.in_ok-check_question.ensures in
    (allowed, c.retrieve_exact.ensures.within, c.retrieve_exact.ensures.finds _ (asked _ _ _ _ _ _ allowed))
