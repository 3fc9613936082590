use Rattle.std.proofs.Common.{◌≡◌, ◌-◌, ◌≤◌, ◌++◌, ℕ, List, length, take, drop}
use Rattle.terms.specs.Term.{Term}
use Rattle.signature.specs.Signatures.{names_of}
use Rattle.signature.specs.Written.{written}
use Rattle.bank.specs.Means.{Means}
use Rattle.writer.specs.Walks.{Left, frames}
use Rattle.writer.proofs.write.Given as goal

-- what is written and what is left are the text of the cell's term
abbrev pub invariant-loop-piece : goal.invariant-loop-piece
invariant-loop-piece l =
    (rest : List ℕ)
    × Left (names_of l.signature) l.cells (frames l.stack) rest
    × (l.len ≤ length l.buffer)
    × (length l.buffer ≡ length l.initial.buffer)
    × (drop l.len l.buffer ≡ drop l.len l.initial.buffer)
    × ((t : Term) → Means l.cells l.cell t → take l.len l.buffer ++ rest ≡ written (names_of l.signature) t)

abbrev pub decreases-loop-piece : goal.decreases-loop-piece
decreases-loop-piece l = length l.buffer - l.len
