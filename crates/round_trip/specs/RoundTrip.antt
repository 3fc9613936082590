-- What is written reads back as the same term, but for variable numbers.
use Rattle.std.specs.Prelude.{◌≡◌, ℕ, ◌≤◌, ◌⊎◌, [], length, Ok, Result}
use Rattle.refusal.specs.declared.Refusal.{Refusal}
use Rattle.terms.specs.Term.{Term, var, sub, cells, Occ}
use Rattle.terms.specs.Sig.{Over}
use Rattle.terms.specs.Patterns.{term_of}
use Rattle.signature.specs.Signatures.{sig_of, names_of}
use Rattle.signature.specs.declared.signature.Signature.{Signature}
use Rattle.formula.specs.Outcomes.{Outcome}
use Rattle.formula.specs.declared.equation.Equation.{Equation}
use Rattle.round_trip.specs.Variables.{met, Low}
use Rattle.round_trip.specs.Texts.{equation_text}

-- two terms over the signature within the reader's limits: 32 cells a side, 16 variables, 32,768 bytes
pub record Readable (s : Signature) (l r : Term) : Type 0 where
  pub left_over : Over (sig_of s) l
  pub right_over : Over (sig_of s) r
  pub left_low : Low l
  pub right_low : Low r
  pub left_small : cells l ≤ 32
  pub right_small : cells r ≤ 32
  pub few : length (met r (met l [])) ≤ 16
  pub short : length (equation_text (names_of s) l r) ≤ 32768

-- read back as both terms under one renaming, which keeps different variables apart
pub record ReadBack (l r : Term) (q : Result Equation Refusal) : Type 0 where
  pub equation : Equation
  pub is : q ≡ Ok equation
  pub number : ℕ → ℕ
  pub left : term_of equation.left ≡ sub (λ x. var (number x)) l
  pub right : term_of equation.right ≡ sub (λ x. var (number x)) r
  pub apart : (x y : ℕ) → Occ x l ⊎ Occ x r → Occ y l ⊎ Occ y r → number x ≡ number y → x ≡ y

-- whatever reading the written text comes to, it comes to that
abbrev pub RoundTrip : Signature → Type 0
RoundTrip s = (l r : Term) → Readable s l r → (q : Result Equation Refusal) → Outcome s (equation_text (names_of s) l r) q → ReadBack l r q
