use Rattle.std.proofs.Common.{◌≡◌, ℕ, ◌≤◌, ◌∷◌, List, Option, length, take}
use Rattle.terms.specs.Term.{Terms}
use Rattle.row.specs.Items.{items}
use Rattle.enter.specs.Machine.{Sound, Grew, wanted, opens, onward}
use Rattle.enter.proofs.machine.settle.Given as goal

-- the symbol and those that wait come to what was there at first, and want as many terms
abbrev pub invariant-loop-open : goal.invariant-loop-open
invariant-loop-open l =
    Sound (l.open ∷ opens l.waiting)
    × (wanted (l.open ∷ opens l.waiting) ≡ wanted (l.fn.first ∷ opens l.initial.waiting))
    × (length (items l.waiting) ≤ length (items l.initial.waiting))
    × Grew l.initial.cells l.initial.count.len l.cells l.count.len
    × ((bindings : List (Option ℕ)) (ts : Terms) → onward (length l.initial.cells) bindings (l.fn.first ∷ opens l.initial.waiting) ts (take l.initial.count.len l.initial.cells)
    ≡ onward (length l.cells) bindings (l.open ∷ opens l.waiting) ts (take l.count.len l.cells))

abbrev pub decreases-loop-open : goal.decreases-loop-open
decreases-loop-open l = length (items l.waiting)
