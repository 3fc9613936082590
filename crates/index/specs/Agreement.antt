-- Two indexes asked the same question.
use Rattle.std.specs.Prelude.{ℕ, Bool, List, take, Ok, Err, Decides, Result}
use Rattle.refusal.specs.declared.Refusal.{Refusal}
use Rattle.terms.specs.Sig.{Sig}
use Rattle.bank.specs.declared.cell.Cell.{Cell}
use Rattle.index.specs.Maps.{Map}
use Rattle.index.specs.Found.{Generalizes}
use Rattle.index.specs.Questions.{MayAsk}

-- the same numbers generalize the cell's term in both maps
abbrev pub Agree : Map → Map → List Cell → ℕ → Type 0
Agree m m' b i = (n : ℕ) → (Generalizes m b i n → Generalizes m' b i n) × (Generalizes m' b i n → Generalizes m b i n)

-- no index wants more room than for 128 numbers
abbrev pub Agreed : Sig → List Cell → (n i : ℕ) → Map → Map → Result Bool Refusal → Type 0
Agreed S cells n i m m' (Ok a) = MayAsk S cells n i 128 128 (Ok tt) × Decides a (Agree m m' (take n cells) i)
Agreed S cells n i m m' (Err e) = MayAsk S cells n i 128 128 (Err e)
