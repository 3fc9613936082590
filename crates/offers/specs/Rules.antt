-- The patterns that the rules of a problem give.
use Rattle.std.specs.Prelude.{◌≡◌, ℕ, ◌+◌, ◌<◌, Bool, true, false, ◌⊎◌, List, [], ◌∷◌, reverse, length, Some, None, Option}
use Rattle.terms.specs.Patterns.{term_of}
use Rattle.terms.specs.declared.pattern.Pattern.{Pattern}
use Rattle.signature.specs.Signatures.{sig_of}
use Rattle.signature.specs.declared.signature.Signature.{Signature}
use Rattle.formula.specs.declared.equation.Equation.{Equation}
use Rattle.rewriting.specs.Order.{Within}
use Rattle.rewriting.specs.Kbo.{Kbo}
use Rattle.sides.specs.Rules.{rule}
use Rattle.offers.specs.declared.Patterns.{Patterns}
use Rattle.offers.specs.declared.gather.Rules.{Rules}
use Rattle.offers.specs.Numbered.{Kept}

abbrev pub Above : Signature → Pattern → Pattern → Type 0
Above s p q = Within (sig_of s) (Kbo (sig_of s).weight) (term_of p) (term_of q)

-- the side above the other, of a formula that may become a rule
abbrev pub Higher : Signature → Equation → Option Pattern → Type 0
Higher s e None = rule e.role e.sign ≡ true → (Above s e.left e.right → ⊥) × (Above s e.right e.left → ⊥)
Higher s e (Some p) =
    (rule e.role e.sign ≡ true) × (((p ≡ e.left) × Above s e.left e.right) ⊎ ((p ≡ e.right) × Above s e.right e.left))

-- the formulas, the latest first, give these patterns, the latest first, and so many find no room
pub data Gives (s : Signature) : List Equation → List Pattern → ℕ → Type 0 where
  nothing : Gives s [] [] 0
  no_rule : {e : Equation} {es : List Equation} {ps : List Pattern} {n : ℕ} → Higher s e None → Gives s es ps n → Gives s (e ∷ es) ps n
  taken : {e : Equation} {es : List Equation} {p : Pattern} {ps : List Pattern} {n : ℕ} → Higher s e (Some p) → length ps < 64 → Gives s es ps n → Gives s (e ∷ es) (p ∷ ps) n
  no_room : {e : Equation} {es : List Equation} {p : Pattern} {ps : List Pattern} {n : ℕ} → Higher s e (Some p) → length ps ≡ 64 → Gives s es ps n → Gives s (e ∷ es) ps (n + 1)

pub record Held (s : Signature) (es : List Equation) (stored : Patterns) (n : ℕ) : Type 0 where
  pub patterns : List Pattern
  pub gives : Gives s es patterns n
  pub kept : Kept stored patterns

abbrev pub left_out : Bool → ℕ → ℕ
left_out true n = n
left_out false n = n + 1

-- one formula more
abbrev pub Step : Signature → Equation → Patterns → Patterns → Bool → Type 0
Step s e before after r = (es : List Equation) (n : ℕ) → Held s es before n → Held s (e ∷ es) after (left_out r n)

abbrev pub Gathered : Signature → List Equation → Rules → Type 0
Gathered s es r = Held s (reverse es) r.patterns r.left_out
