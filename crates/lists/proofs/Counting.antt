-- Lists without repetition, by their members.
use Rattle.std.proofs.Common.{◌≡◌, List, length, arith}
use Rattle.lists.specs.Members.{Once, Alike}
use Rattle.lists.proofs.Members.{once_short}

-- with the same members they are equally long
pub once_alike : {A : Type 0} (xs ys : List A) → Once xs → Once ys → Alike xs ys → length xs ≡ length ys
once_alike xs ys ox oy same = omega (arith, once_short xs ys ox (λ x. (same x).0), once_short ys xs oy (λ x. (same x).1))
