-- The filter's promise, from what it keeps of the candidates.
use Rattle.std.proofs.Common.{ℕ, Bool, List, Decides, sym, subst}
use Rattle.bank.specs.declared.cell.Cell.{Cell}
use Rattle.index.specs.Maps.{Map}
use Rattle.index.specs.Found.{Generalizes, Candidates, Generalizations}
use Rattle.index.proofs.Choosing.{chosen}
use Rattle.filter.specs.Retained.{Retained}

pub filtered : {R : ℕ → Bool → Type 0} (m : Map) (b : List Cell) (i : ℕ) (xs ys : List ℕ) → Candidates m b i xs → Retained R xs ys → ((n : ℕ) (r : Bool) → R n r → Decides r (Generalizes m b i n)) → Generalizations m b i ys
filtered m b i xs ys c r says = subst (Generalizations m b i) (sym r.is) (chosen m b i r.choice xs c (λ k l. says _ _ (r.right k l)))
