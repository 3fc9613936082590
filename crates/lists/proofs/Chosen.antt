-- Laws of choices.
use Rattle.std.proofs.Common.{◌≡◌, ℕ, zero, suc, ◌<◌, ◌≤◌, Bool, true, false, cond, List, [], ◌∷◌, ◌++◌, length, get_or, take, sym, refl, ap, inl, inr, arith}
use Rattle.std.proofs.lemmas.Bool.{false≢true}
use Rattle.lists.specs.Members.{In, Once}
use Rattle.lists.specs.Chosen.{chosen_of}

-- the choice has the place where x stands
pub record Choice {A : Type 0} (cs : List Bool) (xs : List A) (d x : A) : Type 0 where
  pub at : ℕ
  pub below : at < length xs
  pub reads : get_or xs at d ≡ x
  pub chosen : get_or cs at false ≡ true

pub choice : {A : Type 0} (cs : List Bool) (xs : List A) (d x : A) → In x (chosen_of cs xs) → Choice cs xs d x
choice [] xs d x h = absurd h
choice (c ∷ cs) [] d x h = absurd h
choice (true ∷ cs) (y ∷ xs) d x (inl e) = record { at = zero; below = omega arith; reads = sym e; chosen = refl }
choice (true ∷ cs) (y ∷ xs) d x (inr h) = let p = choice cs xs d x h in record { at = suc p.at; below = omega (arith, p.below); reads = p.reads; chosen = p.chosen }
choice (false ∷ cs) (y ∷ xs) d x h = let p = choice cs xs d x h in record { at = suc p.at; below = omega (arith, p.below); reads = p.reads; chosen = p.chosen }

pub in_chosen : {A : Type 0} (cs : List Bool) (xs : List A) (k : ℕ) (d : A) → k < length xs → get_or cs k false ≡ true → In (get_or xs k d) (chosen_of cs xs)
in_chosen [] xs k d l h = absurd (false≢true h)
in_chosen (c ∷ cs) [] k d l h = absurd (let z : ⊥ = omega arith in z)
in_chosen (true ∷ cs) (x ∷ xs) zero d l h = inl refl
in_chosen (true ∷ cs) (x ∷ xs) (suc k) d l h = inr (in_chosen cs xs k d (omega arith) h)
in_chosen (false ∷ cs) (x ∷ xs) zero d l h = absurd (false≢true h)
in_chosen (false ∷ cs) (x ∷ xs) (suc k) d l h = in_chosen cs xs k d (omega arith) h

pub from_chosen : {A : Type 0} (cs : List Bool) (xs : List A) (x : A) → In x (chosen_of cs xs) → In x xs
from_chosen [] xs x h = absurd h
from_chosen (c ∷ cs) [] x h = absurd h
from_chosen (true ∷ cs) (y ∷ xs) x (inl e) = inl e
from_chosen (true ∷ cs) (y ∷ xs) x (inr h) = inr (from_chosen cs xs x h)
from_chosen (false ∷ cs) (y ∷ xs) x h = inr (from_chosen cs xs x h)

pub once_chosen : {A : Type 0} (cs : List Bool) (xs : List A) → Once xs → Once (chosen_of cs xs)
once_chosen [] xs o = tt
once_chosen (c ∷ cs) [] o = tt
once_chosen (true ∷ cs) (x ∷ xs) o = (λ h. o.0 (from_chosen cs xs x h), once_chosen cs xs o.1)
once_chosen (false ∷ cs) (x ∷ xs) o = once_chosen cs xs o.1

pub length_chosen : {A : Type 0} (cs : List Bool) (xs : List A) → length (chosen_of cs xs) ≤ length xs
length_chosen [] xs = omega arith
length_chosen (c ∷ cs) [] = omega arith
length_chosen (true ∷ cs) (x ∷ xs) = omega (arith, length_chosen cs xs)
length_chosen (false ∷ cs) (x ∷ xs) = omega (arith, length_chosen cs xs)

-- one more item at the end, chosen or not
pub chosen_push : {A : Type 0} (cs : List Bool) (xs : List A) (c : Bool) (x : A) → length cs ≡ length xs → chosen_of (cs ++ c ∷ []) (xs ++ x ∷ []) ≡ chosen_of cs xs ++ cond c (x ∷ []) []
chosen_push [] [] true x e = refl
chosen_push [] [] false x e = refl
chosen_push [] (y ∷ xs) c x e = absurd (let z : ⊥ = omega arith in z)
chosen_push (b ∷ cs) [] c x e = absurd (let z : ⊥ = omega arith in z)
chosen_push (true ∷ cs) (y ∷ xs) c x e = ap (λ zs. y ∷ zs) (chosen_push cs xs c x (omega arith))
chosen_push (false ∷ cs) (y ∷ xs) c x e = chosen_push cs xs c x (omega arith)

-- the choice and the items up to a place past one of them
pub chosen_all : {A : Type 0} (cs : List Bool) (xs : List A) (n : ℕ) → (n < length cs → n < length xs → ⊥) → chosen_of (take n cs) (take n xs) ≡ chosen_of cs xs
chosen_all [] xs zero h = refl
chosen_all [] xs (suc n) h = refl
chosen_all (c ∷ cs) [] zero h = refl
chosen_all (c ∷ cs) [] (suc n) h = refl
chosen_all (c ∷ cs) (x ∷ xs) zero h = absurd (h (omega arith) (omega arith))
chosen_all (true ∷ cs) (x ∷ xs) (suc n) h = ap (λ zs. x ∷ zs) (chosen_all cs xs n (λ p q. h (omega arith) (omega arith)))
chosen_all (false ∷ cs) (x ∷ xs) (suc n) h = chosen_all cs xs n (λ p q. h (omega arith) (omega arith))
