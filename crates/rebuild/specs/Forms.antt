-- A cell with its arguments' forms: the form of cell i stands at place i of the list.
use Rattle.std.specs.Prelude.{◌≡◌, ℕ, ◌<◌, ◌≤◌, List, length, slice_index}
use Rattle.bank.specs.declared.cell.Cell.{Cell}
use Rattle.bank.specs.declared.cell.Cell.TheVariants.{Var, App}

pub record Slotted (a : ℕ) (forms args args' : List ℕ) : Type 0 where
  pub four : length args ≡ 4
  pub four' : length args' ≡ 4
  pub each : (k : ℕ) → k < 4 → k < a → slice_index args' k ≡ slice_index forms (slice_index args k)
  pub rest : (k : ℕ) → k < 4 → a ≤ k → slice_index args' k ≡ 0

abbrev pub Mapped : List ℕ → Cell → Cell → Type 0
Mapped forms (Var x) c = c ≡ Var x
Mapped forms (App f a args) c = (args' : List ℕ) × (c ≡ App f a args') × Slotted a forms args args'
