use Rattle.std.proofs.Common.{take, subst, arith}
use Rattle.index.specs.Found.{Generalizations}
use Rattle.offers.specs.Numbered.{in_tree}
use Rattle.offers.proofs.ask.exact.Goals as goal

pub returns : goal.returns
returns c = λ S a.
    let list = c.retrieve_exact.new.list in
    rw c.front.ensures (subst (λ k. Generalizations (in_tree c.args.patterns.now) c.args.bank.now c.args.cell (take k list)) (omega (arith, c.retrieve_exact.ensures.within)) (c.retrieve_exact.ensures.finds S a))
