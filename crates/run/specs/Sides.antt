-- One side's run: m has the higher sides, low the lower sides; n cells of the bank and k records of the trace are counted.
use Rattle.std.specs.Prelude.{◌≡◌, ℕ, ◌+◌, ◌-◌, ◌<◌, ◌≤◌, Bool, List, ◌++◌, length, take, Ok, Err, Result, slice_set}
use Rattle.terms.specs.Sig.{Sig}
use Rattle.bank.specs.declared.cell.Cell.{Cell}
use Rattle.bank.specs.Rules.{Rules}
use Rattle.index.specs.Maps.{Map}
use Rattle.reduction.specs.declared.outcome.Outcome.{Outcome}
use Rattle.reduction.specs.declared.outcome.Outcome.TheVariants.{Finished, Spent, NoRoom}
use Rattle.reduction.specs.Redexes.{Equations, highers, Picked, Normal}
use Rattle.reduction.specs.Steps.{Stepped, Blocked}
use Rattle.reduction.specs.Runs.{Run}
use Rattle.terms.specs.declared.side.Side.{Side}
use Rattle.trace.specs.declared.Step.{Step}
use Rattle.apply.specs.Applies.{Filed}
use Rattle.strategy.specs.Searches.{Settled}
use Rattle.run.specs.declared.answer.Ended.{Ended}

-- a bank of 1 to 2,048 cells that keeps its rules, the root of a term in it, and a trace with its count
pub record Ready (S : Sig) (E : Equations) (m low : Map) (r : ℕ) (cells : List Cell) (n : ℕ) (long k : ℕ) (settled : List Bool) : Type 0 where
  pub filed : Filed S E m low
  pub counted : n ≤ length cells
  pub few : length cells ≤ 2048
  pub rules : Rules S (take n cells)
  pub root : r < n
  pub records : k ≤ long
  pub marks : length settled ≡ 2048
  pub settled_none : Settled m (take n cells) settled

-- the bank has grown, or is as it was
pub record Grown (cells : List Cell) (n : ℕ) (cells' : List Cell) (n' : ℕ) : Type 0 where
  pub size : length cells' ≡ length cells
  pub more : List Cell
  pub grows : take n' cells' ≡ take n cells ++ more

pub record Ran (S : Sig) (E : Equations) (m low : Map) (side : Side) (r : ℕ) (cells : List Cell) (n : ℕ) (trace : List Step) (k : ℕ) (cells' : List Cell) (n' : ℕ) (trace' : List Step) (k' : ℕ) (settled' : List Bool) (e : Ended) : Type 0 where
  pub steps : List Step
  pub run : Run (length cells) E side (take n cells) r (length trace - k) e.outcome (take n' cells') e.cell steps
  pub records : take k' trace' ≡ take k trace ++ steps
  pub same_length : length trace' ≡ length trace
  pub grown : Grown cells n cells' n'
  pub ready : Ready S E m low e.cell cells' n' (length trace) k' settled'

abbrev pub SideRun : (m low : Map) (side : Side) (r : ℕ) (cells : List Cell) (n : ℕ) (trace : List Step) (k : ℕ) (settled : List Bool) (cells' : List Cell) (n' : ℕ) (trace' : List Step) (k' : ℕ) (settled' : List Bool) → Ended → Type 0
SideRun m low side r cells n trace k settled cells' n' trace' k' settled' e =
    (S : Sig) (E : Equations) → Ready S E m low r cells n (length trace) k settled → Ran S E m low side r cells n trace k cells' n' trace' k' settled' e

-- how one turn ends a side
abbrev pub EndsBy : (limit : ℕ) (E : Equations) (b : List Cell) (r room : ℕ) → Outcome → Type 0
EndsBy limit E b r room Finished = Normal (highers E) b r
EndsBy limit E b r room Spent = (j : ℕ) × (n : ℕ) × Picked (highers E) b r j n × (room ≡ 0)
EndsBy limit E b r room NoRoom = (j : ℕ) × (n : ℕ) × Picked (highers E) b r j n × Blocked limit E b r j n × (0 < room)

-- one turn: the step that the rule gives and its record, or the end
pub record Onward (S : Sig) (E : Equations) (m low : Map) (side : Side) (r : ℕ) (cells : List Cell) (n : ℕ) (trace : List Step) (k : ℕ) (cells' : List Cell) (n' : ℕ) (trace' : List Step) (k' : ℕ) (settled' : List Bool) (r' : ℕ) : Type 0 where
  pub step : Step
  pub room : k < length trace
  pub picked : Picked (highers E) (take n cells) r step.replaced step.equation
  pub stepped : Stepped (length cells) E (take n cells) r step.replaced step.equation step.put_in (take n' cells') r'
  pub after : step.after ≡ r'
  pub of_side : step.side ≡ side
  pub written : (trace' ≡ slice_set trace k step) × (k' ≡ k + 1)
  pub grown : Grown cells n cells' n'
  pub ready : Ready S E m low r' cells' n' (length trace) k' settled'

pub record Halted (S : Sig) (E : Equations) (m low : Map) (r : ℕ) (cells : List Cell) (n : ℕ) (trace : List Step) (k : ℕ) (cells' : List Cell) (n' : ℕ) (trace' : List Step) (k' : ℕ) (settled' : List Bool) (o : Outcome) : Type 0 where
  pub by : EndsBy (length cells) E (take n cells) r (length trace - k) o
  pub same_bank : (length cells' ≡ length cells) × (n' ≡ n) × (take n cells' ≡ take n cells)
  pub same_trace : (trace' ≡ trace) × (k' ≡ k)
  pub ready : Ready S E m low r cells' n' (length trace) k' settled'

abbrev pub Turned : (m low : Map) (side : Side) (r : ℕ) (cells : List Cell) (n : ℕ) (trace : List Step) (k : ℕ) (settled : List Bool) (cells' : List Cell) (n' : ℕ) (trace' : List Step) (k' : ℕ) (settled' : List Bool) → Result ℕ Outcome → Type 0
Turned m low side r cells n trace k settled cells' n' trace' k' settled' (Ok r') = (k < length trace) × (k' ≡ k + 1)
    × ((S : Sig) (E : Equations) → Ready S E m low r cells n (length trace) k settled → Onward S E m low side r cells n trace k cells' n' trace' k' settled' r')
Turned m low side r cells n trace k settled cells' n' trace' k' settled' (Err o) =
    (S : Sig) (E : Equations) → Ready S E m low r cells n (length trace) k settled → Halted S E m low r cells n trace k cells' n' trace' k' settled' o
