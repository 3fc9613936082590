-- What writing a cell's term answers, and what it leaves in the buffer.
use Rattle.std.specs.Prelude.{◌≡◌, ℕ, ◌<◌, ◌≤◌, ◌⊎◌, List, length, take, drop, Ok, Err, Result}
use Rattle.refusal.specs.declared.Refusal.{Refusal}
use Rattle.refusal.specs.declared.Refusal.TheVariants.{Limits, BankRules, BufferTooShort}
use Rattle.terms.specs.Term.{Term}
use Rattle.signature.specs.Written.{written}
use Rattle.signature.specs.Signatures.{sig_of, names_of}
use Rattle.signature.specs.declared.signature.Signature.{Signature}
use Rattle.bank.specs.declared.cell.Cell.{Cell}
use Rattle.bank.specs.Rules.{Keeps}
use Rattle.bank.specs.Means.{Means}
use Rattle.bank.specs.Checked.{Sized}

-- the limits: 1 to 2,048 cells, and a buffer of at most 65,536 bytes
abbrev pub Within : List Cell → List ℕ → Type 0
Within cells buffer = Sized cells × (length buffer ≤ 65536)

-- the bank keeps its rules, and the cell is counted
abbrev pub Readable : Signature → List Cell → ℕ → ℕ → Type 0
Readable s cells n i = Keeps (sig_of s) cells n × (i < n)

-- the first r bytes are the text of the cell's term, and the rest is as it was
pub record Wrote (s : Signature) (b : List Cell) (i : ℕ) (before after : List ℕ) (r : ℕ) : Type 0 where
  pub term : Term
  pub means : Means b i term
  pub within : r ≤ length before
  pub front : take r after ≡ written (names_of s) term
  pub rest : drop r after ≡ drop r before

abbrev pub TooLong : Signature → List Cell → ℕ → List ℕ → Type 0
TooLong s b i buffer = (t : Term) → Means b i t → length buffer < length (written (names_of s) t)

abbrev pub Refused : Signature → List Cell → ℕ → ℕ → List ℕ → Refusal → Type 0
Refused s cells n i buffer e =
    ((Within cells buffer → ⊥) × (e ≡ Limits))
    ⊎ (Within cells buffer × (Readable s cells n i → ⊥) × (e ≡ BankRules))
    ⊎ (Within cells buffer × Readable s cells n i × TooLong s (take n cells) i buffer × (e ≡ BufferTooShort))

abbrev pub Outcome : Signature → List Cell → ℕ → ℕ → List ℕ → List ℕ → Result ℕ Refusal → Type 0
Outcome s cells n i before after (Ok r) = Within cells before × Readable s cells n i × Wrote s (take n cells) i before after r
Outcome s cells n i before after (Err e) = (after ≡ before) × Refused s cells n i before e
