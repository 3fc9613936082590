-- What simplifying a goal answers, and what it leaves in bank and trace.
use Rattle.std.specs.Prelude.{◌≡◌, ℕ, ◌⊎◌, List, length, Ok, Err, Result}
use Rattle.refusal.specs.declared.Refusal.{Refusal}
use Rattle.refusal.specs.declared.Refusal.TheVariants.{RoleOrSign, Limits, GoalTooLarge}
use Rattle.terms.specs.Term.{Term}
use Rattle.signature.specs.Signatures.{sig_of}
use Rattle.signature.specs.declared.signature.Signature.{Signature}
use Rattle.bank.specs.declared.cell.Cell.{Cell}
use Rattle.formula.specs.Outcomes.{Outcome}
use Rattle.formula.specs.declared.equation.Equation.{Equation}
use Rattle.formula.specs.declared.equation.Role.TheVariants.{NegatedConjecture}
use Rattle.formula.specs.declared.equation.Sign.TheVariants.{Unequal}
use Rattle.index.specs.Maps.{Map}
use Rattle.reduction.specs.Redexes.{Equations}
use Rattle.trace.specs.declared.Step.{Step}
use Rattle.run.specs.declared.answer.Answer.{Answer}
use Rattle.run.specs.Goals.{Limited, BothFit, Answered}
use Rattle.file.specs.Kept.{equations}
use Rattle.session.specs.Kept.{Kept}
use Rattle.session.specs.declared.Session.{Session}

-- a negated conjecture that says != is a goal
abbrev pub Goal : Equation → Type 0
Goal q = (q.role ≡ NegatedConjecture) × (q.sign ≡ Unequal)

abbrev pub GoalChecked : Equation → Result (Unit {0}) Refusal → Type 0
GoalChecked q (Ok _) = Goal q
GoalChecked q (Err e) = (Goal q → ⊥) × (e ≡ RoleOrSign)

pub record Posed (g : Signature) (text : List ℕ) (cells : List Cell) (trace : List Step) (q : Equation) : Type 0 where
  pub limited : Limited cells trace
  pub read : Outcome g text (Ok q)

-- why nothing is run: each check comes after those that stand before it
pub data Refused (g : Signature) (text : List ℕ) (cells : List Cell) (trace : List Step) : Refusal → Type 0 where
  outside : (Limited cells trace → ⊥) → Refused g text cells trace Limits
  unread : {f : Refusal} → Limited cells trace → Outcome g text (Err f) → Refused g text cells trace f
  no_goal : {q : Equation} → Posed g text cells trace q → (Goal q → ⊥) → Refused g text cells trace RoleOrSign

pub record Untouched (cells : List Cell) (n : ℕ) (trace : List Step) (k : ℕ) (cells' : List Cell) (n' : ℕ) (trace' : List Step) (k' : ℕ) : Type 0 where
  pub same_cells : cells' ≡ cells
  pub same_count : n' ≡ n
  pub same_trace : trace' ≡ trace
  pub same_steps : k' ≡ k

-- the goal's terms exceed the bank: its count is then 0
pub record TooLarge (g : Signature) (text : List ℕ) (cells : List Cell) (trace : List Step) (k n' : ℕ) (trace' : List Step) (k' : ℕ) (f : Refusal) : Type 0 where
  pub goal : Equation
  pub posed : Posed g text cells trace goal
  pub is_goal : Goal goal
  pub out : BothFit goal.left goal.right (length cells) → ⊥
  pub is : f ≡ GoalTooLarge
  pub empty : n' ≡ 0
  pub same_trace : (trace' ≡ trace) × (k' ≡ k)

-- the goal is run with the equations E
pub record Simplified (g : Signature) (E : Equations) (text : List ℕ) (cells : List Cell) (trace : List Step) (cells' : List Cell) (n' : ℕ) (trace' : List Step) (k' : ℕ) (a : Answer) : Type 0 where
  pub goal : Equation
  pub posed : Posed g text cells trace goal
  pub is_goal : Goal goal
  pub answered : Answered (sig_of g) E goal.left goal.right cells trace cells' n' trace' k' a

abbrev pub Simplifies : {I O : Type 0} (stored : I → Map) (above : O → Signature → Term → Term → Type 0) (s : Session I O) (text : List ℕ)
    (cells : List Cell) (n : ℕ) (trace : List Step) (k : ℕ) (cells' : List Cell) (n' : ℕ) (trace' : List Step) (k' : ℕ) → Result Answer Refusal → Type 0
Simplifies stored above s text cells n trace k cells' n' trace' k' (Ok a) =
    Kept stored above s → Simplified s.signature (equations stored s.file) text cells trace cells' n' trace' k' a
Simplifies stored above s text cells n trace k cells' n' trace' k' (Err f) =
    (Refused s.signature text cells trace f × Untouched cells n trace k cells' n' trace' k')
    ⊎ TooLarge s.signature text cells trace k n' trace' k' f
