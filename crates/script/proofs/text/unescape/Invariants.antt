use Rattle.std.proofs.Common.{◌≡◌, length, vec_items}
use Rattle.script.specs.Escapes.{unescaped}
use Rattle.script.proofs.Escaping.{before}
use Rattle.script.proofs.text.unescape.Given as goal

abbrev pub invariant-loop-rest : goal.invariant-loop-rest
invariant-loop-rest l = unescaped l.text ≡ before (vec_items l.bytes) (unescaped l.rest)

abbrev pub decreases-loop-rest : goal.decreases-loop-rest
decreases-loop-rest l = length l.rest
