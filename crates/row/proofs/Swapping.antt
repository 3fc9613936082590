-- The last of the first n cells moves to place i.
use Rattle.std.proofs.Common.{◌≡◌, ℕ, ◌-◌, ◌<◌, ◌≤◌, List, length, get_or, take, set, swap_remove, sym, ap, ◌∙◌, arith}
use Rattle.std.proofs.Math.Seq.{take-set-lt}
use Rattle.std.proofs.lemmas.List.{length-take-le, get_or-take, get_or_default, take-take}

pub swapped : {X : Type 0} (xs : List X) (n i : ℕ) (d e : X) → i < n → n ≤ length xs → take (n - 1) (set xs i (get_or xs (n - 1) d)) ≡ swap_remove (take n xs) i e
swapped xs n i d e lt le =
    let long : length (take n xs) ≡ n = length-take-le n xs le in
    let last : get_or (take n xs) (n - 1) e ≡ get_or xs (n - 1) d = get_or-take n xs (n - 1) e (omega arith) ∙ get_or_default xs (n - 1) e d (omega arith) in
    let v = get_or xs (n - 1) d in
    let front : take (n - 1) (set (take n xs) i v) ≡ take (n - 1) (set xs i v) = ap (take (n - 1)) (sym (take-set-lt n xs i v lt)) ∙ take-take (n - 1) n (set xs i v) (omega arith) in
    rw long (rw last (sym front))
