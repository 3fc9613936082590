use Rattle.std.proofs.Common.{◌≡◌, ◌+◌, ◌≤◌, take}
use Rattle.places.specs.Lines.{feeds}
use Rattle.places.proofs.line_place.Given as goal

abbrev pub invariant-loop-at : goal.invariant-loop-at
invariant-loop-at l = record { counted : l.n ≡ 1 + feeds (take l.at l.text); before : l.n ≤ l.line }
