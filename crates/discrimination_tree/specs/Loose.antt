-- Generalizations, were each variable occurrence a variable of its own.
use Rattle.std.specs.Prelude.{◌≡◌, ℕ, List, Some}
use Rattle.lists.specs.Members.{In, Once}
use Rattle.terms.specs.Patterns.{term_of}
use Rattle.terms.specs.declared.pattern.Pattern.{Pattern}
use Rattle.linear.specs.Apart.{apart}
use Rattle.bank.specs.Bindings.{Instance}
use Rattle.bank.specs.declared.cell.Cell.{Cell}
use Rattle.index.specs.Maps.{Map}

-- the pattern stored under n, its variable occurrences made different variables, has the term of cell i as an instance
pub record LooselyGeneralizes (m : Map) (b : List Cell) (i n : ℕ) : Type 0 where
  pub pattern : Pattern
  pub stored : m n ≡ Some pattern
  pub fits : Instance b (apart (term_of pattern)) i

-- exactly those, each once
pub record LooseGeneralizations (m : Map) (b : List Cell) (i : ℕ) (xs : List ℕ) : Type 0 where
  pub once : Once xs
  pub only : (n : ℕ) → In n xs → LooselyGeneralizes m b i n
  pub all : (n : ℕ) → LooselyGeneralizes m b i n → In n xs
