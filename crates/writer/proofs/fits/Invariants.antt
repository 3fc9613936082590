use Rattle.std.proofs.Common.{◌≡◌, ◌+◌, ℕ, List, length}
use Rattle.terms.specs.Term.{Term}
use Rattle.signature.specs.Signatures.{names_of}
use Rattle.signature.specs.Written.{written}
use Rattle.bank.specs.Means.{Means}
use Rattle.writer.specs.Walks.{Left, frames}
use Rattle.writer.proofs.fits.Given as goal

-- what is left of the text is longer than what is left of the limit by as much as the text is than the limit
abbrev pub invariant-loop-piece : goal.invariant-loop-piece
invariant-loop-piece l =
    (rest : List ℕ)
    × Left (names_of l.signature) l.cells (frames l.stack) rest
    × ((t : Term) → Means l.cells l.cell t → length rest + l.limit ≡ length (written (names_of l.signature) t) + l.left)

abbrev pub decreases-loop-piece : goal.decreases-loop-piece
decreases-loop-piece l = l.left
