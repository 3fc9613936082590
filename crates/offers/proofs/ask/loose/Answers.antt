use Rattle.std.proofs.Common.{take, subst, arith}
use Rattle.entries.specs.Stored.{map_of}
use Rattle.discrimination_tree.specs.Loose.{LooseGeneralizations}
use Rattle.discrimination_tree.specs.declared.DiscriminationTree.{DiscriminationTree}
use Rattle.offers.specs.Numbered.{in_tree}
use Rattle.offers.proofs.ask.loose.Goals as goal

pub returns : goal.returns
returns c = λ S a.
    let b = c.args.bank.now in
    let list = c.retrieve_loose.new.list in
    let found = take c.retrieve_loose.new.found.len list in
    let offered = subst (λ (t : DiscriminationTree). LooseGeneralizations (map_of t.entries) b c.args.cell found) c.inner.ensures (c.retrieve_loose.ensures.finds S a) in
    rw c.front.ensures (subst (λ k. LooseGeneralizations (in_tree c.args.patterns.now) b c.args.cell (take k list)) (omega (arith, c.retrieve_loose.ensures.within)) offered)
