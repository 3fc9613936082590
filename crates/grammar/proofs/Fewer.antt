-- Each formula that a reader hands out leaves fewer tokens.
use Rattle.std.proofs.Common.{◌≡◌, ℕ, ◌<◌, List, ◌∷◌, length, drop, Some, Ok, Option, ap, arith, length-append}
use Rattle.lexer.specs.Tokens.{tokens_from}
use Rattle.grammar.specs.Outcomes.{Handed, part}
use Rattle.grammar.specs.declared.part.Part.{Part}

pub one_fewer : (text held : List ℕ) (at after : ℕ) (step : Option Part) (x : Part) → held ≡ text → step ≡ Some x → Handed text at (Ok step) after → length (tokens_from (drop after held) after) < length (tokens_from (drop at text) at)
one_fewer text held at after step x same is h = rw same (fewer (rw is at h))
  where
    fewer : Handed text at (Ok (Some x)) after → length (tokens_from (drop after text) after) < length (tokens_from (drop at text) at)
    fewer (part cnf front is complete place end bytes alone) =
        omega (arith, ap length is, length-append (cnf ∷ front) (tokens_from (drop after text) after))
