-- What a step does: m has the higher sides, low the lower sides, n cells of the bank are counted.
use Rattle.std.specs.Prelude.{◌≡◌, ℕ, ◌<◌, ◌≤◌, Bool, false, List, ◌++◌, length, take, Some, None, Decides, Option, slice_index_or}
use Rattle.terms.specs.Sig.{Sig, Over}
use Rattle.terms.specs.Patterns.{term_of}
use Rattle.bank.specs.declared.cell.Cell.{Cell}
use Rattle.bank.specs.Rules.{Rules}
use Rattle.index.specs.Maps.{Map, Same}
use Rattle.index.specs.Found.{Generalizes}
use Rattle.reduction.specs.declared.oriented.Oriented.{Oriented}
use Rattle.reduction.specs.Reaches.{Reaches}
use Rattle.reduction.specs.Redexes.{Equations, highers, lowers}
use Rattle.reduction.specs.Steps.{Stepped, Blocked}
use Rattle.apply.specs.declared.Applied.{Applied}

-- the maps hold the sides of the equations, all of which are over the signature
pub record Filed (S : Sig) (E : Equations) (m low : Map) : Type 0 where
  pub higher : Same (highers E) m
  pub lower : Same (lowers E) low
  pub over : (n : ℕ) (e : Oriented) → E n ≡ Some e → Over S (term_of e.higher) × Over S (term_of e.lower)

-- what a step is given
pub record Redo (S : Sig) (E : Equations) (m low : Map) (cells : List Cell) (n r j k : ℕ) (marks : List Bool) : Type 0 where
  pub filed : Filed S E m low
  pub counted : n ≤ length cells
  pub few : length cells ≤ 2048
  pub rules : Rules S (take n cells)
  pub root : r < n
  pub redex : j < n
  pub room : r < length marks
  pub marked : (i : ℕ) → Decides (slice_index_or marks i false) (Reaches (take n cells) r i)
  pub applies : Generalizes m (take n cells) j k

-- a step grows the bank
pub record Taken (S : Sig) (E : Equations) (cells : List Cell) (n r j k : ℕ) (cells' : List Cell) (n' : ℕ) (a : Applied) : Type 0 where
  pub stepped : Stepped (length cells) E (take n cells) r j k a.put_in (take n' cells') a.after
  pub rules : Rules S (take n' cells')
  pub more : List Cell
  pub grows : take n' cells' ≡ take n cells ++ more
  pub within : n' ≤ length cells'
  pub after : a.after < n'

abbrev pub Outcome : (S : Sig) (E : Equations) (cells : List Cell) (n r j k : ℕ) (cells' : List Cell) (n' : ℕ) → Option Applied → Type 0
Outcome S E cells n r j k cells' n' (Some a) = Taken S E cells n r j k cells' n' a
Outcome S E cells n r j k cells' n' None = (n' ≡ n) × (take n cells' ≡ take n cells) × Blocked (length cells) E (take n cells) r j k

abbrev pub Applies : (m low : Map) (cells : List Cell) (n r j k : ℕ) (marks : List Bool) (cells' : List Cell) (n' : ℕ) → Option Applied → Type 0
Applies m low cells n r j k marks cells' n' answer =
    (length cells' ≡ length cells) × ((S : Sig) (E : Equations) → Redo S E m low cells n r j k marks → Outcome S E cells n r j k cells' n' answer)
