-- A tree whose rows are those of the patterns in a map.
use Rattle.std.specs.Prelude.{◌≡◌, ℕ, Bool, true, false, ◌&&◌, ◌||◌, List, [], ◌∷◌, Some, None, Option}
use Rattle.terms.specs.declared.pattern.Pattern.{Pattern}
use Rattle.trie.specs.declared.branch.Label.{Label}
use Rattle.trie.specs.declared.branch.Label.TheVariants.{Star, Symbol, Number}
use Rattle.trie.specs.Trees.{same_label}
use Rattle.trie.specs.Contents.{string_of}
use Rattle.index.specs.Maps.{Map}

abbrev pub same_row : List Label → List Label → Bool
same_row [] [] = true
same_row [] (l ∷ v) = false
same_row (k ∷ u) [] = false
same_row (k ∷ u) (l ∷ v) = same_label k l && same_row u v

abbrev pub is_row : List Label → List (List Label) → Bool
is_row u [] = false
is_row u (v ∷ vs) = same_row u v || is_row u vs

-- the first number in a row, which ends it
abbrev pub number_in : List Label → Option ℕ
number_in [] = None
number_in (Star ∷ u) = number_in u
number_in (Symbol f a ∷ u) = number_in u
number_in (Number n ∷ u) = Some n

abbrev pub is_row_of : List Label → ℕ → Option Pattern → Bool
is_row_of u n None = false
is_row_of u n (Some p) = same_row u (string_of p n)

abbrev pub is_stored_under : Map → List Label → Option ℕ → Bool
is_stored_under m u None = false
is_stored_under m u (Some n) = is_row_of u n (m n)

-- whether the row is that of the pattern under its number
abbrev pub is_stored : Map → List Label → Bool
is_stored m u = is_stored_under m u (number_in u)

-- the rows are those of the stored patterns and no others
abbrev pub Tied : Map → List (List Label) → Type 0
Tied m ss = (u : List Label) → is_row u ss ≡ is_stored m u
