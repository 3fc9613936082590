use Rattle.std.proofs.Common.{◌-◌, ◌<◌, length}
use Rattle.signature.specs.Signatures.{sig_of}
use Rattle.rewriting.specs.Kbo.{Kbo}
use Rattle.subterms.specs.Places.{at}
use Rattle.subterms.specs.Rows.{row_of}
use Rattle.kbo.proofs.compare.is_above.Given as goal

-- the subterms at p and q decide
abbrev pub invariant-loop-i : goal.invariant-loop-i
invariant-loop-i l =
    (l.p < length (row_of l.s)) × (l.q < length (row_of l.t))
    × (Kbo (sig_of l.signature).weight (at (row_of l.s) 0) (at (row_of l.t) 0) → Kbo (sig_of l.signature).weight (at (row_of l.s) l.p) (at (row_of l.t) l.q))
    × (Kbo (sig_of l.signature).weight (at (row_of l.s) l.p) (at (row_of l.t) l.q) → Kbo (sig_of l.signature).weight (at (row_of l.s) 0) (at (row_of l.t) 0))

abbrev pub decreases-loop-i : goal.decreases-loop-i
decreases-loop-i l = length (row_of l.s) - l.p
