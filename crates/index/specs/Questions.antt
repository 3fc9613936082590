-- When an index is asked about a cell, and what is left after the answer.
use Rattle.std.specs.Prelude.{◌≡◌, ℕ, ◌<◌, ◌≤◌, ◌⊎◌, List, length, take, Ok, Err, Result}
use Rattle.refusal.specs.declared.Refusal.{Refusal}
use Rattle.refusal.specs.declared.Refusal.TheVariants.{Limits, BankRules}
use Rattle.terms.specs.Sig.{Sig}
use Rattle.bank.specs.declared.cell.Cell.{Cell}
use Rattle.bank.specs.Rules.{Rules, Keeps}
use Rattle.bank.specs.Checked.{Sized}

-- b are the counted cells of a bank, and the list has room for as many numbers as the index has
pub record Asked (S : Sig) (b : List Cell) (i capacity : ℕ) (list : List ℕ) : Type 0 where
  pub few : length b ≤ 2048
  pub rules : Rules S b
  pub counted : i < length b
  pub room : capacity ≤ length list

abbrev pub Within : List Cell → (capacity room : ℕ) → Type 0
Within cells capacity room = Sized cells × (capacity ≤ room)

abbrev pub Right : Sig → List Cell → (n i : ℕ) → Type 0
Right S cells n i = Keeps S cells n × (i < n)

-- the limits are looked at before the bank's rules
abbrev pub MayAsk : Sig → List Cell → (n i capacity room : ℕ) → Result (Unit {0}) Refusal → Type 0
MayAsk S cells n i capacity room (Ok _) = Within cells capacity room × Right S cells n i
MayAsk S cells n i capacity room (Err e) =
    ((Within cells capacity room → ⊥) × (e ≡ Limits))
    ⊎ (Within cells capacity room × (Right S cells n i → ⊥) × (e ≡ BankRules))

-- the list and its count are as they were, or hold what was found
abbrev pub Answered : Sig → List Cell → (n i capacity : ℕ) → (list : List ℕ) (k : ℕ) (list' : List ℕ) (k' : ℕ) → (List Cell → ℕ → List ℕ → Type 0) → Result (Unit {0}) Refusal → Type 0
Answered S cells n i capacity list k list' k' Finds (Ok u) =
    MayAsk S cells n i capacity (length list) (Ok u) × (k' ≤ length list') × Finds (take n cells) i (take k' list')
Answered S cells n i capacity list k list' k' Finds (Err e) =
    MayAsk S cells n i capacity (length list) (Err e) × (list' ≡ list) × (k' ≡ k)
