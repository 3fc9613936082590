-- What is seen of two terms, and of the pairs of their subterms.
use Rattle.std.specs.Prelude.{◌≡◌, ℕ, ◌+◌, ◌*◌, ◌<◌, ◌≤◌, List, [], length, slice_index_or}
use Rattle.terms.specs.Term.{Term, Terms}
use Rattle.terms.specs.declared.pattern.Node.{Node}
use Rattle.rewriting.specs.Lpo.{Lpo, LpoLex, HeadsAbove}
use Rattle.subterms.specs.Places.{at}
use Rattle.subterms.specs.Rows.{row_of}
use Rattle.lpo.specs.declared.sides.Compared.{Compared}
use Rattle.lpo.specs.declared.sides.Compared.TheVariants.{Above, Equal, Neither}
use Rattle.lpo.specs.declared.sides.Sides.{Sides}

abbrev pub Tells : Compared → Type 0 → Type 0 → Type 0
Tells Above A E = A
Tells Equal A E = E
Tells Neither A E = (A → ⊥) × (E → ⊥)

abbrev pub Says : Compared → Term → Term → Type 0
Says r s t = Tells r (Lpo s t) (s ≡ t)

abbrev pub SaysLex : Compared → Terms → Terms → Type 0
SaysLex r ss ts = Tells r (LpoLex ss ts) (ss ≡ ts)

abbrev pub SaysHeads : Compared → Term → Term → Type 0
SaysHeads r s t = Tells r (HeadsAbove s t) (s ≡ t)

-- the rows of the upper and the lower term
abbrev pub up : Sides → List Node
up b = row_of b.upper.now

abbrev pub low : Sides → List Node
low b = row_of b.lower.now

-- what is seen of the pair of the places i and j
abbrev pub seen_at : Sides → ℕ → ℕ → Compared
seen_at b i j = slice_index_or (slice_index_or b.seen.rows i []) j Neither

-- the pairs from that at k on are seen
abbrev pub Seen : Sides → ℕ → Type 0
Seen b k = (i j : ℕ) → i < length (up b) → j < length (low b) → k ≤ 32 * i + j → Says (seen_at b i j) (at (up b) i) (at (low b) j)

-- all pairs after that of p and q are seen
pub record Ready (b : Sides) (p q : ℕ) : Type 0 where
  pub in_upper : p < length (up b)
  pub in_lower : q < length (low b)
  pub later : Seen b (32 * p + q + 1)
