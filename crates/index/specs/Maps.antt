-- Maps from numbers, to patterns for one, and what the calls of an index do to them.
use Rattle.std.specs.Prelude.{◌≡◌, ℕ, ◌<◌, ◌≤◌, true, cond, ◌⊎◌, List, is_some, Some, None, Ok, Err, Option, Result, ◌==◌}
use Rattle.lists.specs.Members.{In, Once}
use Rattle.refusal.specs.declared.Refusal.{Refusal}
use Rattle.refusal.specs.declared.Refusal.TheVariants.{NumberTaken, CapacityReached, NumberAbsent}
use Rattle.terms.specs.declared.pattern.Pattern.{Pattern}

abbrev pub Map : Type 0
Map = ℕ → Option Pattern

-- these numbers are stored and no others, each listed once
pub record Stores (m : Map) (numbers : List ℕ) : Type 0 where
  pub once : Once numbers
  pub all : (n : ℕ) → is_some (m n) ≡ true → In n numbers
  pub only : (n : ℕ) → In n numbers → is_some (m n) ≡ true

abbrev pub Same : {A : Type 0} → (ℕ → Option A) → (ℕ → Option A) → Type 0
Same m m' = (k : ℕ) → m' k ≡ m k

-- the map with x under n
abbrev pub put : {A : Type 0} → (ℕ → Option A) → ℕ → A → ℕ → Option A
put m n x k = cond (k == n) (Some x) (m k)

-- the map without n
abbrev pub without : {A : Type 0} → (ℕ → Option A) → ℕ → ℕ → Option A
without m n k = cond (k == n) None (m k)

-- a taken number is refused before a full index
abbrev pub NotFree : {A : Type 0} → (ℕ → Option A) → (size capacity n : ℕ) → Refusal → Type 0
NotFree m size capacity n e =
    ((is_some (m n) ≡ true) × (e ≡ NumberTaken))
    ⊎ ((m n ≡ None) × (capacity ≤ size) × (e ≡ CapacityReached))

abbrev pub Inserted : {A : Type 0} → (ℕ → Option A) → (size capacity n : ℕ) → A → (ℕ → Option A) → Result (Unit {0}) Refusal → Type 0
Inserted m size capacity n x m' (Ok _) = (m n ≡ None) × (size < capacity) × Same (put m n x) m'
Inserted m size capacity n x m' (Err e) = Same m m' × NotFree m size capacity n e

abbrev pub Removed : {A : Type 0} → (ℕ → Option A) → ℕ → (ℕ → Option A) → Result (Unit {0}) Refusal → Type 0
Removed m n m' (Ok _) = (is_some (m n) ≡ true) × Same (without m n) m'
Removed m n m' (Err e) = Same m m' × (m n ≡ None) × (e ≡ NumberAbsent)

abbrev pub Told : Map → ℕ → Result Pattern Refusal → Type 0
Told m n (Ok p) = m n ≡ Some p
Told m n (Err e) = (m n ≡ None) × (e ≡ NumberAbsent)
