-- What a call does to the equations E of a session, of which its index holds so many.
use Rattle.std.specs.Prelude.{◌≡◌, ℕ, Bool, true, false, List, length, is_some, None, Ok, Err, Result}
use Rattle.refusal.specs.declared.Refusal.{Refusal}
use Rattle.refusal.specs.declared.Refusal.TheVariants.{RoleOrSign, NumberRange, Unordered, Sealed, NumberAbsent}
use Rattle.terms.specs.Term.{Term}
use Rattle.signature.specs.declared.signature.Signature.{Signature}
use Rattle.formula.specs.Outcomes.{Outcome}
use Rattle.formula.specs.declared.equation.Equation.{Equation}
use Rattle.index.specs.Maps.{Map, Same, put, without}
use Rattle.reduction.specs.declared.oriented.Oriented.{Oriented}
use Rattle.reduction.specs.Redexes.{Equations}
use Rattle.file.specs.Kept as file
use Rattle.session.specs.Rules.{InRange, Rule, Orients, Neither}
use Rattle.session.specs.declared.Session.{Session}

pub record State : Type 0 where
  pub signature : Signature
  pub sealed : Bool
  pub equations : Equations
  pub size : ℕ

-- `stored` and `numbers` are the index's ghost members
abbrev pub state_of : {I O : Type 0} → (I → Map) → (I → List ℕ) → Session I O → State
state_of stored numbers s = record { signature = s.signature; sealed = s.sealed; equations = file.equations stored s.file; size = length (numbers s.file.index) }

-- the session is open, and the number is one of an equation
pub record Called (s : State) (n : ℕ) : Type 0 where
  pub unsealed : s.sealed ≡ false
  pub range : InRange n

pub record Proposed (s : State) (n : ℕ) (text : List ℕ) (q : Equation) : Type 0 where
  pub called : Called s n
  pub read : Outcome s.signature text (Ok q)

-- why adding is refused: each check comes after those that stand before it
pub data AddRefused (above : Term → Term → Type 0) (capacity : ℕ) (s : State) (n : ℕ) (text : List ℕ) : Refusal → Type 0 where
  shut : s.sealed ≡ true → AddRefused above capacity s n text Sealed
  no_number : s.sealed ≡ false → (InRange n → ⊥) → AddRefused above capacity s n text NumberRange
  unread : {f : Refusal} → Called s n → Outcome s.signature text (Err f) → AddRefused above capacity s n text f
  no_rule : {q : Equation} → Proposed s n text q → (Rule q → ⊥) → AddRefused above capacity s n text RoleOrSign
  no_place : {q : Equation} {f : Refusal} → Proposed s n text q → Rule q → file.Free s.equations s.size capacity n (Err f) → AddRefused above capacity s n text f
  unordered : {q : Equation} → Proposed s n text q → Rule q → file.Free s.equations s.size capacity n (Ok tt) → Neither above q → AddRefused above capacity s n text Unordered

-- the text's equation comes under the number
pub record Enters (above : Term → Term → Type 0) (capacity : ℕ) (s : State) (n : ℕ) (text : List ℕ) (E : Equations) : Type 0 where
  pub equation : Equation
  pub proposed : Proposed s n text equation
  pub rule : Rule equation
  pub free : file.Free s.equations s.size capacity n (Ok tt)
  pub oriented : Oriented
  pub orients : Orients above equation oriented
  pub stored : Same (put s.equations n oriented) E

abbrev pub Added : (above : Term → Term → Type 0) (capacity : ℕ) (s : State) (n : ℕ) (text : List ℕ) (E : Equations) → Result (Unit {0}) Refusal → Type 0
Added above capacity s n text E (Ok _) = Enters above capacity s n text E
Added above capacity s n text E (Err f) = AddRefused above capacity s n text f × Same s.equations E

pub data RemoveRefused (s : State) (n : ℕ) : Refusal → Type 0 where
  shut : s.sealed ≡ true → RemoveRefused s n Sealed
  no_number : s.sealed ≡ false → (InRange n → ⊥) → RemoveRefused s n NumberRange
  absent : Called s n → s.equations n ≡ None → RemoveRefused s n NumberAbsent

pub record Leaves (s : State) (n : ℕ) (E : Equations) : Type 0 where
  pub called : Called s n
  pub present : is_some (s.equations n) ≡ true
  pub left : Same (without s.equations n) E

abbrev pub Removed : (s : State) (n : ℕ) (E : Equations) → Result (Unit {0}) Refusal → Type 0
Removed s n E (Ok _) = Leaves s n E
Removed s n E (Err f) = RemoveRefused s n f × Same s.equations E
