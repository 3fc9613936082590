-- The rewriting of one side, in a bank of m cells, until it ends.
use Rattle.std.specs.Prelude.{◌≡◌, ℕ, suc, List, [], ◌∷◌}
use Rattle.bank.specs.declared.cell.Cell.{Cell}
use Rattle.terms.specs.declared.side.Side.{Side}
use Rattle.trace.specs.declared.Step.{Step}
use Rattle.reduction.specs.declared.outcome.Outcome.{Outcome}
use Rattle.reduction.specs.declared.outcome.Outcome.TheVariants.{Finished, Spent, NoRoom}
use Rattle.reduction.specs.Redexes.{Equations, highers, Picked, Normal}
use Rattle.reduction.specs.Steps.{Stepped, Blocked}

-- from the bank b and the term of cell r, with room for so many records, to an outcome, a bank, a cell and the records of the steps
pub data Run (m : ℕ) (E : Equations) (side : Side) : (b : List Cell) (r room : ℕ) → Outcome → List Cell → ℕ → List Step → Type 0 where
  finished : {b : List Cell} {r room : ℕ} → Normal (highers E) b r → Run m E side b r room Finished b r []
  spent : {b : List Cell} {r j n : ℕ} → Picked (highers E) b r j n → Run m E side b r 0 Spent b r []
  blocked : {b : List Cell} {r room j n : ℕ} → Picked (highers E) b r j n → Blocked m E b r j n → Run m E side b r (suc room) NoRoom b r []
  step : {b b₁ b' : List Cell} {r r₁ r' room j n v : ℕ} {o : Outcome} {ss : List Step} {s : Step} → Picked (highers E) b r j n → Stepped m E b r j n v b₁ r₁
      → s ≡ record { side = side; equation = n; replaced = j; put_in = v; after = r₁ }
      → Run m E side b₁ r₁ room o b' r' ss → Run m E side b r (suc room) o b' r' (s ∷ ss)
