-- The arguments of a cell.
use Rattle.std.specs.Prelude.{◌≡◌, ℕ, List, Some, None, Option, ◌≢◌}
use Rattle.bank.specs.declared.cell.Cell.{Cell}
use Rattle.bank.specs.declared.cell.Cell.TheVariants.{App}

-- the arguments of the cell c, if that has the symbol f with a of them
abbrev pub Arguments : Cell → ℕ → ℕ → Option (List ℕ) → Type 0
Arguments c f a None = (args : List ℕ) → c ≢ App f a args
Arguments c f a (Some args) = c ≡ App f a args
