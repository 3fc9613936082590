-- The equations that a session's calls have left, by the calls alone.
use Rattle.std.specs.Prelude.{◌≡◌, ℕ, Bool, true, false, List, [], ◌∷◌, Some, None, Ok, Option}
use Rattle.terms.specs.Term.{Term}
use Rattle.terms.specs.Patterns.{term_of}
use Rattle.signature.specs.declared.signature.Signature.{Signature}
use Rattle.formula.specs.Outcomes.{Outcome}
use Rattle.formula.specs.declared.equation.Equation.{Equation}
use Rattle.index.specs.Maps.{Same, put, without}
use Rattle.reduction.specs.declared.oriented.Oriented.{Oriented}
use Rattle.reduction.specs.Redexes.{Equations}
use Rattle.session.specs.Rules.{Orients}

pub data Call : Type 0 where
  add : ℕ → List ℕ → Call
  remove : ℕ → Call
  other : Call

-- a call, and whether it was let through
pub record Made : Type 0 where
  pub call : Call
  pub passed : Bool

-- the equation that the text states, its higher side first
pub record States (g : Signature) (above : Term → Term → Type 0) (text : List ℕ) (e : Oriented) : Type 0 where
  pub equation : Equation
  pub read : Outcome g text (Ok equation)
  pub orients : Orients above equation e

-- from the equations E to E'
abbrev pub Turn : (g : Signature) (above : Term → Term → Type 0) → Equations → Call → Bool → Equations → Type 0
Turn g above E call false E' = Same E E'
Turn g above E (add n text) true E' = (e : Oriented) × States g above text e × Same (put E n e) E'
Turn g above E (remove n) true E' = Same (without E n) E'
Turn g above E other true E' = Same E E'

-- the newest call stands first
abbrev pub FileAfter : (g : Signature) (above : Term → Term → Type 0) → List Made → Equations → Type 0
FileAfter g above [] E' = (n : ℕ) → E' n ≡ None
FileAfter g above (made ∷ past) E' = (E : Equations) × FileAfter g above past E × Turn g above E made.call made.passed E'

-- the call c leads from the file E to E', whatever past led to E
abbrev pub Continues : (g : Signature) (above : Term → Term → Type 0) → Equations → Call → Bool → Equations → Type 0
Continues g above E call passed E' = (past : List Made) → FileAfter g above past E → FileAfter g above (record { call = call; passed = passed } ∷ past) E'

-- equations with the same terms: a pattern says no more than its term
abbrev pub Agree : Option Oriented → Option Oriented → Type 0
Agree None None = Unit {0}
Agree None (Some e') = ⊥
Agree (Some e) None = ⊥
Agree (Some e) (Some e') = (term_of e.higher ≡ term_of e'.higher) × (term_of e.lower ≡ term_of e'.lower)

-- a past leaves one file
abbrev pub Determined : (g : Signature) (above : Term → Term → Type 0) → Type 0
Determined g above = (past : List Made) (E E' : Equations) → FileAfter g above past E → FileAfter g above past E' → (n : ℕ) → Agree (E n) (E' n)
