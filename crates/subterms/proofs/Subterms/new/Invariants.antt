use Rattle.std.proofs.Common.{◌≡◌, ℕ, ◌+◌, ◌<◌, length, get_or}
use Rattle.terms.specs.Term.{cells}
use Rattle.subterms.specs.Places.{at}
use Rattle.subterms.proofs.Subterms.new.Given as goal

abbrev pub invariant-loop-p : goal.invariant-loop-p
invariant-loop-p l = (length l.ends ≡ 32) × ((k : ℕ) → k < l.p → get_or l.ends k 0 ≡ k + cells (at l.nodes k))
