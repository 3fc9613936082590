use Rattle.filter.proofs.Filtering.{filtered}
use Rattle.filter.proofs.FilterExactIndex.retrieve_exact.Goals as goal

pub returns-clause-finds : goal.returns-clause-finds
returns-clause-finds g c S a =
    filtered (g.I.Index.stored c.args.self.now.inner) c.args.bank.now c.args.cell _ _ (c.retrieve.ensures.finds S a) c.retain.ensures.retained (λ n r h. h S a.rules a.counted)
