-- What a question finds.
use Rattle.std.specs.Prelude.{◌≡◌, ℕ, true, List, is_some, Some}
use Rattle.lists.specs.Members.{In, Once}
use Rattle.terms.specs.Patterns.{term_of}
use Rattle.terms.specs.declared.pattern.Pattern.{Pattern}
use Rattle.bank.specs.Bindings.{Instance}
use Rattle.bank.specs.declared.cell.Cell.{Cell}
use Rattle.index.specs.Maps.{Map}

-- the pattern stored under n has the term of cell i as an instance
pub record Generalizes (m : Map) (b : List Cell) (i n : ℕ) : Type 0 where
  pub pattern : Pattern
  pub stored : m n ≡ Some pattern
  pub fits : Instance b (term_of pattern) i

-- stored numbers, each once, among them all that generalize the cell's term
pub record Candidates (m : Map) (b : List Cell) (i : ℕ) (xs : List ℕ) : Type 0 where
  pub once : Once xs
  pub only : (n : ℕ) → In n xs → is_some (m n) ≡ true
  pub all : (n : ℕ) → Generalizes m b i n → In n xs

-- those that generalize the cell's term, each once
pub record Generalizations (m : Map) (b : List Cell) (i : ℕ) (xs : List ℕ) : Type 0 where
  pub once : Once xs
  pub only : (n : ℕ) → In n xs → Generalizes m b i n
  pub all : (n : ℕ) → Generalizes m b i n → In n xs
