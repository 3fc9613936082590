-- What entering answers, and what it leaves in the cells and the count.
use Rattle.std.specs.Prelude.{◌≡◌, ℕ, ◌<◌, ◌≤◌, ◌⊎◌, List, [], ◌++◌, length, take, Some, None, Ok, Err, Option, Result}
use Rattle.refusal.specs.declared.Refusal.{Refusal}
use Rattle.refusal.specs.declared.Refusal.TheVariants.{Limits, BankRules, GoalTooLarge}
use Rattle.terms.specs.Term.{Term, sub}
use Rattle.terms.specs.Sig.{Sig, Over}
use Rattle.terms.specs.Patterns.{term_of}
use Rattle.terms.specs.declared.pattern.Pattern.{Pattern}
use Rattle.signature.specs.Signatures.{sig_of}
use Rattle.signature.specs.declared.signature.Signature.{Signature}
use Rattle.bank.specs.declared.cell.Cell.{Cell}
use Rattle.bank.specs.Rules.{Rules, Keeps}
use Rattle.bank.specs.Means.{Means}
use Rattle.bank.specs.Checked.{Sized}
use Rattle.enter.specs.Enter.{enter}
use Rattle.bank.specs.Bindings.{Binds}
use Rattle.enter.specs.Grown.{Grown}

-- the instance of p is entered as the cell v; in a bank that keeps its rules that cell stands for it
pub record Instance (p : Pattern) (bindings : List (Option ℕ)) (cells : List Cell) (n : ℕ) (cells' : List Cell) (n' v : ℕ) : Type 0 where
  pub within : n' ≤ length cells'
  pub stays : take n cells' ≡ take n cells
  pub enters : enter (length cells) bindings (term_of p) (take n cells) ≡ Some (take n' cells', v)
  pub law : (S : Sig) (σ : ℕ → Term) → Rules S (take n cells) → Over S (term_of p) → Binds (take n cells) bindings σ
      → Grown S (take n cells) (sub σ (term_of p)) (take n' cells') v

-- a bank that cannot take the instance: its count and its counted cells are as they were; if it keeps its rules, then
-- with no more cells than it has it cannot be grown to one in which some cell stands for the instance
pub record NoRoom (p : Pattern) (bindings : List (Option ℕ)) (cells : List Cell) (n : ℕ) (cells' : List Cell) : Type 0 where
  pub stays : take n cells' ≡ take n cells
  pub none : enter (length cells) bindings (term_of p) (take n cells) ≡ None
  pub law : (S : Sig) (σ : ℕ → Term) → Rules S (take n cells) → Over S (term_of p) → Binds (take n cells) bindings σ
      → (more : List Cell) (i : ℕ) → length (take n cells ++ more) ≤ length cells → Means (take n cells ++ more) i (sub σ (term_of p)) → ⊥

abbrev pub Laid : Pattern → List (Option ℕ) → List Cell → ℕ → List Cell → ℕ → Result ℕ Refusal → Type 0
Laid p bindings cells n cells' n' (Ok v) = Sized cells × (n ≤ length cells) × Instance p bindings cells n cells' n' v
Laid p bindings cells n cells' n' (Err e) = (n' ≡ n) × (
    ((Sized cells → ⊥) × (cells' ≡ cells) × (e ≡ Limits))
    ⊎ (Sized cells × (length cells < n) × (cells' ≡ cells) × (e ≡ BankRules))
    ⊎ (Sized cells × (n ≤ length cells) × NoRoom p bindings cells n cells' × (e ≡ GoalTooLarge)))

-- the bank keeps the signature's rules, and the pattern's symbols are the signature's
abbrev pub Fits : Signature → Pattern → List Cell → ℕ → Type 0
Fits s p cells n = Keeps (sig_of s) cells n × Over (sig_of s) (term_of p)

abbrev pub Entered : Signature → Pattern → List Cell → ℕ → List Cell → ℕ → Result ℕ Refusal → Type 0
Entered s p cells n cells' n' (Ok v) = Sized cells × Fits s p cells n × (n' ≤ length cells')
    × (enter (length cells) [] (term_of p) (take n cells) ≡ Some (take n' cells', v))
    × Grown (sig_of s) (take n cells) (term_of p) (take n' cells') v
Entered s p cells n cells' n' (Err e) = (n' ≡ n) × (
    ((Sized cells → ⊥) × (cells' ≡ cells) × (e ≡ Limits))
    ⊎ (Sized cells × (Fits s p cells n → ⊥) × (cells' ≡ cells) × (e ≡ BankRules))
    ⊎ (Sized cells × Fits s p cells n × NoRoom p [] cells n cells' × (e ≡ GoalTooLarge)))
