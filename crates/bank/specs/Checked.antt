-- What the check of a bank answers.
use Rattle.std.specs.Prelude.{◌≡◌, ℕ, ◌≤◌, ◌⊎◌, List, length, take, Ok, Err, Result}
use Rattle.refusal.specs.declared.Refusal.{Refusal}
use Rattle.refusal.specs.declared.Refusal.TheVariants.{Limits, BankRules}
use Rattle.terms.specs.Sig.{Sig}
use Rattle.bank.specs.declared.cell.Cell.{Cell}
use Rattle.bank.specs.Rules.{Keeps}
use Rattle.bank.specs.Means.{Laws}

-- 1 to 2,048 cells
abbrev pub Sized : List Cell → Type 0
Sized cells = (1 ≤ length cells) × (length cells ≤ 2048)

pub record Sound (S : Sig) (cells : List Cell) (n : ℕ) : Type 0 where
  pub sized : Sized cells
  pub keeps : Keeps S cells n
  pub laws : Laws S (take n cells)

abbrev pub Checked : {A : Type 0} → Sig → List Cell → ℕ → Result A Refusal → Type 0
Checked S cells n (Ok _) = Sound S cells n
Checked S cells n (Err e) = (((Sized cells → ⊥) × (e ≡ Limits)) ⊎ (Sized cells × (Keeps S cells n → ⊥) × (e ≡ BankRules)))
