-- Laws of membership.
use Rattle.std.proofs.Common.{◌≡◌, ℕ, zero, suc, ◌<◌, ◌≤◌, ◌⊎◌, List, [], ◌∷◌, ◌++◌, map, length, get_or, sym, refl, ap, subst, inl, inr, ⊎_elim, arith, length-append}
use Rattle.lists.specs.Members.{In, Once}

pub in_left : {A : Type 0} (x : A) (xs ys : List A) → In x xs → In x (xs ++ ys)
in_left x [] ys h = absurd h
in_left x (y ∷ xs) ys (inl e) = inl e
in_left x (y ∷ xs) ys (inr h) = inr (in_left x xs ys h)

pub in_right : {A : Type 0} (x : A) (xs ys : List A) → In x ys → In x (xs ++ ys)
in_right x [] ys h = h
in_right x (y ∷ xs) ys h = inr (in_right x xs ys h)

pub in_parts : {A : Type 0} (x : A) (xs ys : List A) → In x (xs ++ ys) → In x xs ⊎ In x ys
in_parts x [] ys h = inr h
in_parts x (y ∷ xs) ys (inl e) = inl (inl e)
in_parts x (y ∷ xs) ys (inr h) = elim (in_parts x xs ys h) [ inl k ↦ inl (inr k) | inr k ↦ inr k ]

pub in_map : {A B : Type 0} (f : A → B) (x : A) (xs : List A) → In x xs → In (f x) (map f xs)
in_map f x [] h = absurd h
in_map f x (y ∷ xs) (inl e) = inl (ap f e)
in_map f x (y ∷ xs) (inr h) = inr (in_map f x xs h)

-- what stands in a mapped list is the image of something
pub record Image {A B : Type 0} (f : A → B) (xs : List A) (y : B) : Type 0 where
  pub of : A
  pub member : In of xs
  pub is : y ≡ f of

pub from_map : {A B : Type 0} (f : A → B) (y : B) (xs : List A) → In y (map f xs) → Image f xs y
from_map f y [] h = absurd h
from_map f y (x ∷ xs) (inl e) = record { of = x; member = inl refl; is = e }
from_map f y (x ∷ xs) (inr h) = let r = from_map f y xs h in record { of = r.of; member = inr r.member; is = r.is }

pub once_append : {A : Type 0} (xs ys : List A) → Once xs → Once ys → ((x : A) → In x xs → In x ys → ⊥) → Once (xs ++ ys)
once_append [] ys hx hy apart = hy
once_append (x ∷ xs) ys hx hy apart =
    (λ h. ⊎_elim hx.0 (apart x (inl refl)) (in_parts x xs ys h), once_append xs ys hx.1 hy (λ z k. apart z (inr k)))

pub once_left : {A : Type 0} (xs ys : List A) → Once (xs ++ ys) → Once xs
once_left [] ys h = tt
once_left (x ∷ xs) ys h = (λ k. h.0 (in_left x xs ys k), once_left xs ys h.1)

pub once_right : {A : Type 0} (xs ys : List A) → Once (xs ++ ys) → Once ys
once_right [] ys h = h
once_right (x ∷ xs) ys h = once_right xs ys h.1

pub once_apart : {A : Type 0} (xs ys : List A) → Once (xs ++ ys) → (x : A) → In x xs → In x ys → ⊥
once_apart [] ys h x i k = i
once_apart (y ∷ xs) ys h x (inl e) k = h.0 (subst (λ z. In z (xs ++ ys)) e (in_right x xs ys k))
once_apart (y ∷ xs) ys h x (inr i) k = once_apart xs ys h.1 x i k

pub once_map : {A B : Type 0} (f : A → B) → ((x y : A) → f x ≡ f y → x ≡ y) → (xs : List A) → Once xs → Once (map f xs)
once_map f injective [] h = tt
once_map f injective (x ∷ xs) h =
    (λ k. let r = from_map f (f x) xs k in h.0 (subst (λ z. In z xs) (sym (injective x r.of r.is)) r.member), once_map f injective xs h.1)

-- by places
pub in_at : {A : Type 0} (xs : List A) (k : ℕ) (d : A) → k < length xs → In (get_or xs k d) xs
in_at [] k d h = absurd (let z : ⊥ = omega arith in z)
in_at (x ∷ xs) zero d h = inl refl
in_at (x ∷ xs) (suc k) d h = inr (in_at xs k d (omega arith))

pub record Place {A : Type 0} (x d : A) (xs : List A) : Type 0 where
  pub at : ℕ
  pub below : at < length xs
  pub reads : get_or xs at d ≡ x

pub place : {A : Type 0} (x d : A) (xs : List A) → In x xs → Place x d xs
place x d [] h = absurd h
place x d (y ∷ xs) (inl e) = record { at = zero; below = omega arith; reads = sym e }
place x d (y ∷ xs) (inr h) = let p = place x d xs h in record { at = suc p.at; below = omega (arith, p.below); reads = p.reads }

-- x taken out of a list
record Cut {A : Type 0} (x : A) (ys : List A) : Type 0 where
  front : List A
  back : List A
  is : ys ≡ front ++ x ∷ back

cut : {A : Type 0} (x : A) (ys : List A) → In x ys → Cut x ys
cut x [] h = absurd h
cut x (y ∷ ys) (inl e) = record { front = []; back = ys; is = ap (λ z. z ∷ ys) (sym e) }
cut x (y ∷ ys) (inr h) = let c = cut x ys h in record { front = y ∷ c.front; back = c.back; is = ap (λ zs. y ∷ zs) c.is }

-- a list without repetition is no longer than one that has its members
pub once_short : {A : Type 0} (xs ys : List A) → Once xs → ((x : A) → In x xs → In x ys) → length xs ≤ length ys
once_short [] ys o h = omega arith
once_short {A} (x ∷ xs) ys o h =
    let c = cut x ys (h x (inl refl)) in
    let kept : (z : A) → In z xs → In z (c.front ++ c.back) = λ z i. elim (in_parts z c.front (x ∷ c.back) (subst (In z) c.is (h z (inr i)))) [
      | inl k ↦ in_left z c.front c.back k
      | inr k ↦ elim k [ inl e ↦ absurd (o.0 (subst (λ w. In w xs) e i)) | inr m ↦ in_right z c.front c.back m ]
    ] in
    omega (arith, once_short xs (c.front ++ c.back) o.1 kept, length-append c.front c.back, length-append c.front (x ∷ c.back), ap length c.is)
