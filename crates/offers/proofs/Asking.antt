-- What is not refused, and not false, is true.
use Rattle.std.proofs.Common.{◌≡◌, Bool, true, false, Ok, Result, refl}
use Rattle.refusal.specs.declared.Refusal.{Refusal}

pub not_false : (b : Bool) → (◌≡◌ {A = Result Bool Refusal} (Ok b) (Ok false) → ⊥) → b ≡ true
not_false true h = refl
not_false false h = absurd (h refl)
