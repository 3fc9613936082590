-- The rules of a bank, whose counted cells are the list b; a cell's number is its place in the list, from 0.
use Rattle.std.specs.Prelude.{◌≡◌, ℕ, ◌<◌, ◌≤◌, List, length, take, slice_index, slice_index_or}
use Rattle.terms.specs.Sig.{Sig}
use Rattle.bank.specs.declared.cell.Cell.{Cell}
use Rattle.bank.specs.declared.cell.Cell.TheVariants.{Var, App}

-- slot k of the arguments of cell i, whose symbol takes a of them: a lower cell's number, or 0 where no argument is
abbrev pub Slot : ℕ → ℕ → ℕ → ℕ → Type 0
Slot i a k v = (k < a → v < i) × (a ≤ k → v ≡ 0)

pub record Slots (i a : ℕ) (args : List ℕ) : Type 0 where
  pub four : length args ≡ 4
  pub each : (k : ℕ) → k < 4 → Slot i a k (slice_index args k)

pub record Node (S : Sig) (i f a : ℕ) (args : List ℕ) : Type 0 where
  pub symbol : f < S.symbols
  pub arity : a ≡ S.arity f
  pub few : a ≤ 4
  pub slots : Slots i a args

-- what may stand in cell i
abbrev pub Fitting : Sig → ℕ → Cell → Type 0
Fitting S i (Var x) = x < 32
Fitting S i (App f a args) = Node S i f a args

abbrev pub AllFitting : Sig → List Cell → Type 0
AllFitting S b = (i : ℕ) → i < length b → Fitting S i (slice_index_or b i (Var 0))

-- the cell c stands below place j
abbrev pub Earlier : List Cell → ℕ → Cell → Type 0
Earlier b j c = (i : ℕ) × (i < j) × (slice_index_or b i (Var 0) ≡ c)

-- no two cells are equal
abbrev pub AllApart : List Cell → Type 0
AllApart b = (j : ℕ) → j < length b → Earlier b j (slice_index_or b j (Var 0)) → ⊥

pub record Rules (S : Sig) (b : List Cell) : Type 0 where
  pub fitting : AllFitting S b
  pub apart : AllApart b

-- a bank is cells of the caller's and a count
pub record Keeps (S : Sig) (cells : List Cell) (n : ℕ) : Type 0 where
  pub counted : n ≤ length cells
  pub rules : Rules S (take n cells)
