-- The search for the next redex.
use Rattle.std.specs.Prelude.{◌≡◌, ℕ, ◌<◌, ◌≤◌, Bool, true, false, List, [], length, Some, None, Decides, Option, slice_index_or}
use Rattle.lists.specs.Members.{In}
use Rattle.terms.specs.Sig.{Sig}
use Rattle.bank.specs.declared.cell.Cell.{Cell}
use Rattle.bank.specs.Rules.{Rules}
use Rattle.index.specs.Maps.{Map}
use Rattle.index.specs.Found.{Generalizes}
use Rattle.reduction.specs.Reaches.{Reaches}
use Rattle.reduction.specs.Redexes.{Picked, Normal}
use Rattle.strategy.specs.declared.Redex.{Redex}

-- the lowest of some numbers
abbrev pub Lowest : List ℕ → Option ℕ → Type 0
Lowest xs None = xs ≡ []
Lowest xs (Some n) = In n xs × ((k : ℕ) → In k xs → n ≤ k)

-- what holds of a bank that is searched
pub record Searchable (S : Sig) (b : List Cell) (i : ℕ) : Type 0 where
  pub few : length b ≤ 2048
  pub rules : Rules S b
  pub within : i < length b

abbrev pub Least : Map → List Cell → ℕ → Option ℕ → Type 0
Least m b i None = (n : ℕ) → Generalizes m b i n → ⊥
Least m b i (Some n) = Generalizes m b i n × ((k : ℕ) → Generalizes m b i k → n ≤ k)

abbrev pub LowestAt : Map → List Cell → ℕ → Option ℕ → Type 0
LowestAt m b i answer = (S : Sig) → Searchable S b i → Least m b i answer

-- a settled cell is one of the bank's, and no instance of a pattern
pub record Settled (m : Map) (b : List Cell) (settled : List Bool) : Type 0 where
  pub within : (k : ℕ) → slice_index_or settled k false ≡ true → k < length b
  pub none : (k n : ℕ) → slice_index_or settled k false ≡ true → Generalizes m b k n → ⊥

abbrev pub Choice : Map → List Cell → ℕ → Option Redex → Type 0
Choice m b r None = Normal m b r
Choice m b r (Some x) = Picked m b r x.cell x.equation

abbrev pub Searched : Map → List Cell → ℕ → (marks settled settled' : List Bool) → Option Redex → Type 0
Searched m b r marks settled settled' answer =
    (S : Sig) → Searchable S b r → r < length marks → r < length settled → ((k : ℕ) → Decides (slice_index_or marks k false) (Reaches b r k)) → Settled m b settled
    → Settled m b settled' × Choice m b r answer
