-- What entering an instance leaves.
use Rattle.std.specs.Prelude.{◌≡◌, ℕ, ◌≤◌, List, length, take, Some, None, Option}
use Rattle.terms.specs.Patterns.{term_of}
use Rattle.terms.specs.declared.pattern.Pattern.{Pattern}
use Rattle.bank.specs.declared.cell.Cell.{Cell}
use Rattle.bank.specs.Checked.{Sized}
use Rattle.enter.specs.Enter.{enter}
use Rattle.enter.specs.Outcome.{Instance}

-- entered, with the counted cells as they were; or no room, and the count as it was
abbrev pub Enters : Pattern → List (Option ℕ) → List Cell → ℕ → List Cell → ℕ → Option ℕ → Type 0
Enters p bindings cells n cells' n' (Some v) = Instance p bindings cells n cells' n' v
Enters p bindings cells n cells' n' None = (n' ≡ n) × (take n cells' ≡ take n cells)
    × (Sized cells → n ≤ length cells → enter (length cells) bindings (term_of p) (take n cells) ≡ None)
