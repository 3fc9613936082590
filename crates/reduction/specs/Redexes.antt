-- Where a step is taken, and by which equation.
use Rattle.std.specs.Prelude.{ℕ, ◌≤◌, List, Some, None, Option}
use Rattle.terms.specs.declared.pattern.Pattern.{Pattern}
use Rattle.bank.specs.declared.cell.Cell.{Cell}
use Rattle.index.specs.Maps.{Map}
use Rattle.index.specs.Found.{Generalizes}
use Rattle.reduction.specs.declared.oriented.Oriented.{Oriented}
use Rattle.reduction.specs.Reaches.{Reaches}

-- the equations by their numbers
abbrev pub Equations : Type 0
Equations = ℕ → Option Oriented

abbrev pub higher_side : Option Oriented → Option Pattern
higher_side None = None
higher_side (Some e) = Some e.higher

abbrev pub lower_side : Option Oriented → Option Pattern
lower_side None = None
lower_side (Some e) = Some e.lower

-- the higher sides, and the lower sides, by the equations' numbers
abbrev pub highers : Equations → Map
highers E n = higher_side (E n)

abbrev pub lowers : Equations → Map
lowers E n = lower_side (E n)

-- m has the higher sides: the earliest cell of a subterm that is an instance of one, and the lowest number of such a one
pub record Picked (m : Map) (b : List Cell) (r j n : ℕ) : Type 0 where
  pub reached : Reaches b r j
  pub applies : Generalizes m b j n
  pub earliest : (i k : ℕ) → Reaches b r i → Generalizes m b i k → j ≤ i
  pub lowest : (k : ℕ) → Generalizes m b j k → n ≤ k

-- no subterm is an instance of a higher side
abbrev pub Normal : Map → List Cell → ℕ → Type 0
Normal m b r = (j n : ℕ) → Reaches b r j → Generalizes m b j n → ⊥
