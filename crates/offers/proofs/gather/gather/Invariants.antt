use Rattle.offers.proofs.Gathering.{Going}
use Rattle.offers.proofs.gather.gather.Given as goal

abbrev pub invariant-loop-formula : goal.invariant-loop-formula
invariant-loop-formula l = Going l.signature l.formulas l.patterns l.left_out l.formula-index
