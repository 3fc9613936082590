-- Letters, digits and words, byte by byte.
use Rattle.std.specs.Prelude.{ℕ, Bool, false, ◌&&◌, ◌||◌, List, [], ◌∷◌, ◌==◌, nat_le}
use Rattle.std.specs.List.{list_all}

-- 'a' to 'z'
abbrev pub lower : ℕ → Bool
lower b = nat_le 97 b && nat_le b 122

-- 'A' to 'Z'
abbrev pub upper : ℕ → Bool
upper b = nat_le 65 b && nat_le b 90

-- '0' to '9'
abbrev pub digit : ℕ → Bool
digit b = nat_le 48 b && nat_le b 57

-- what may follow the first letter of a word: a letter, a digit or an underscore
abbrev pub wordly : ℕ → Bool
wordly b = lower b || upper b || digit b || b == 95

abbrev pub each_wordly : List ℕ → Bool
each_wordly bs = list_all wordly bs

-- a lower-case letter, then letters, digits and underscores
abbrev pub is_word : List ℕ → Bool
is_word [] = false
is_word (b ∷ bs) = lower b && each_wordly bs

-- the same with an upper-case letter first
abbrev pub is_variable : List ℕ → Bool
is_variable [] = false
is_variable (b ∷ bs) = upper b && each_wordly bs
