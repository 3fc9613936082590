-- The table of refusals: each case with its number, and what it carries.
use Rattle.std.specs.Prelude.{ℕ, Some, None, Option}
use Rattle.refusal.specs.declared.Refusal.{Refusal}
use Rattle.refusal.specs.declared.Refusal.TheVariants.{Grammar, Symbol, Size, RoleOrSign, NumberRange, NumberTaken, CapacityReached, Unordered, Sealed, NumberAbsent, NotSealed, Limits, GoalTooLarge, BufferTooShort, SignatureLine, BankRules}

abbrev pub number_of : Refusal → ℕ
number_of (Grammar byte) = 1
number_of (Symbol byte) = 2
number_of (Size byte) = 3
number_of RoleOrSign = 4
number_of NumberRange = 5
number_of NumberTaken = 6
number_of CapacityReached = 7
number_of Unordered = 8
number_of Sealed = 9
number_of NumberAbsent = 10
number_of NotSealed = 11
number_of Limits = 12
number_of GoalTooLarge = 13
number_of BufferTooShort = 14
number_of (SignatureLine line) = 15
number_of BankRules = 16

-- the byte, from 0, or the line, from 1
abbrev pub place_of : Refusal → Option ℕ
place_of (Grammar byte) = Some byte
place_of (Symbol byte) = Some byte
place_of (Size byte) = Some byte
place_of RoleOrSign = None
place_of NumberRange = None
place_of NumberTaken = None
place_of CapacityReached = None
place_of Unordered = None
place_of Sealed = None
place_of NumberAbsent = None
place_of NotSealed = None
place_of Limits = None
place_of GoalTooLarge = None
place_of BufferTooShort = None
place_of (SignatureLine line) = Some line
place_of BankRules = None
