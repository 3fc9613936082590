-- Those items of a list that a choice has.
use Rattle.std.specs.Prelude.{Bool, true, false, List, [], ◌∷◌}

-- in their order; an item past the choice is not chosen
abbrev pub chosen_of : {A : Type 0} → List Bool → List A → List A
chosen_of [] xs = []
chosen_of (c ∷ cs) [] = []
chosen_of (true ∷ cs) (x ∷ xs) = x ∷ chosen_of cs xs
chosen_of (false ∷ cs) (x ∷ xs) = chosen_of cs xs
