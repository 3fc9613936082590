use Rattle.std.proofs.Common.{◌≡◌, ◌<◌, ◌≤◌, length}
use Rattle.terms.specs.Term.{width, ◌▹◌}
use Rattle.subterms.specs.Places.{from, at}
use Rattle.subterms.proofs.Preorders.{rest}
use Rattle.subterms.proofs.methods.end.Given as goal

-- the open terms and those behind the subterm are what the row lists from i on
abbrev pub invariant-loop-i : goal.invariant-loop-i
invariant-loop-i l = l.p < length l.row → (l.open ≤ width (from l.row l.i)) × (from l.row l.p ≡ at l.row l.p ▹ rest l.open (from l.row l.i))
