use Rattle.std.proofs.Common.{◌≡◌, ℕ, ◌<◌, List, ◌∷◌, length, sym, ap, inl, inr, arith, length-append}
use Rattle.std.proofs.lemmas.Bool.{eqb-false}
use Rattle.script.specs.Says.{FirstLine}
use Rattle.replay.proofs.main.Goals as goal

shorter : (text line after : List ℕ) → FirstLine text line after → (length text ≡ 0 → ⊥) → length after < length text
shorter text line after (inl k) some = omega (arith, ap length k.whole, length-append line (10 ∷ after))
shorter text line after (inr k) some = omega (arith, ap length k.2)

pub loop-rest-smaller : goal.loop-rest-smaller
loop-rest-smaller c =
    shorter c.loop-rest.rest.now c.first_line-line.result.bytes.now c.first_line-line.result.after.now c.first_line-line.ensures (eqb-false _ _ (sym c.loop-rest-test.ensures))
