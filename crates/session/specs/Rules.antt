-- Which formulas a session takes, and which way round.
use Rattle.std.specs.Prelude.{◌≡◌, ℕ, ◌≤◌, ◌⊎◌, Ok, Err, Result}
use Rattle.refusal.specs.declared.Refusal.{Refusal}
use Rattle.refusal.specs.declared.Refusal.TheVariants.{RoleOrSign, NumberRange, Unordered}
use Rattle.terms.specs.Term.{Term}
use Rattle.terms.specs.Patterns.{term_of}
use Rattle.formula.specs.declared.equation.Equation.{Equation}
use Rattle.formula.specs.declared.equation.Role.TheVariants.{Axiom, Hypothesis}
use Rattle.formula.specs.declared.equation.Sign.TheVariants.{Equal}
use Rattle.reduction.specs.declared.oriented.Oriented.{Oriented}

-- numbers of equations
abbrev pub InRange : ℕ → Type 0
InRange n = (1 ≤ n) × (n ≤ 30000)

abbrev pub Ranged : ℕ → Result ℕ Refusal → Type 0
Ranged n (Ok k) = InRange n × (k ≡ n)
Ranged n (Err e) = (InRange n → ⊥) × (e ≡ NumberRange)

-- an axiom or a hypothesis that says = is a rule
abbrev pub Rule : Equation → Type 0
Rule q = ((q.role ≡ Axiom) ⊎ (q.role ≡ Hypothesis)) × (q.sign ≡ Equal)

abbrev pub RuleChecked : Equation → Result (Unit {0}) Refusal → Type 0
RuleChecked q (Ok _) = Rule q
RuleChecked q (Err e) = (Rule q → ⊥) × (e ≡ RoleOrSign)

abbrev pub leftward : Equation → Oriented
leftward q = record { higher = q.right; lower = q.left }

abbrev pub rightward : Equation → Oriented
rightward q = record { higher = q.left; lower = q.right }

-- the side that is above the other is the higher one
abbrev pub Orients : (Term → Term → Type 0) → Equation → Oriented → Type 0
Orients above q e = (
    ((e ≡ rightward q) ⊎ (e ≡ leftward q)) × above (term_of e.higher) (term_of e.lower))

-- neither side is above the other
abbrev pub Neither : (Term → Term → Type 0) → Equation → Type 0
Neither above q = (above (term_of q.left) (term_of q.right) → ⊥) × (above (term_of q.right) (term_of q.left) → ⊥)

abbrev pub Turns : (Term → Term → Type 0) → Equation → Result Oriented Refusal → Type 0
Turns above q (Ok e) = Orients above q e
Turns above q (Err e) = Neither above q × (e ≡ Unordered)
