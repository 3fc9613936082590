use Rattle.strategy.proofs.Searching.{least}
use Rattle.strategy.proofs.lowest_at.Goals as goal

pub returns : goal.returns
returns g c S h = least _ _ _ _ _ (c.retrieve_exact.ensures.finds S (record { few = h.few; rules = h.rules; counted = h.within; room = g.met.I.Index.most })) c.lowest.ensures
