-- Numbers noted in a list, as far as it has room.
use Rattle.std.proofs.Common.{◌≡◌, ℕ, zero, suc, ◌≤◌, List, [], ◌∷◌, ◌++◌, length, take, refl, ap, arith}
use Rattle.std.proofs.lemmas.List.{length-take-le, take_all}

-- what does not fit at first does not fit later
pub take_twice : (m : ℕ) (xs ys : List ℕ) → take m (take m xs ++ ys) ≡ take m (xs ++ ys)
take_twice zero xs ys = refl
take_twice (suc m) [] ys = refl
take_twice (suc m) (x ∷ xs) ys = ap (λ zs. x ∷ zs) (take_twice m xs ys)

pub room_for : (ys : List ℕ) (n : ℕ) → n ≤ length ys → take (length ys) (take n ys) ≡ take n ys
room_for ys n h = take_all (length ys) (take n ys) (omega (arith, length-take-le n ys h))
