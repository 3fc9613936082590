use Rattle.lent_list.proofs.Exact.same.Goals as goal

pub returns : goal.returns
returns g c = g.met.Self.Exact.exact _ _ _ c.eq.ensures
