-- The library's tests of lists of numbers, by membership.
use Rattle.std.proofs.Common.{◌≡◌, ℕ, Bool, true, eqb, List, [], ◌∷◌, Decides, sym, refl, ◌∙◌, subst, inl, inr}
use Rattle.std.specs.List.{list_any, list_all}
use Rattle.std.proofs.lemmas.Bool.{eqb-true, eq-eqb, or_cases, or_left, or_right, and_parts, and_from, false≢true}
use Rattle.lists.specs.Members.{In}

-- as `contains` looks for n
abbrev pub is : ℕ → List ℕ → Bool
is n xs = list_any (λ y. eqb y n) xs

pub is_in : (n : ℕ) (xs : List ℕ) → is n xs ≡ true → In n xs
is_in n [] h = absurd (false≢true h)
is_in n (x ∷ xs) h = elim (or_cases (eqb x n) (is n xs) h) [ inl e ↦ inl (sym (eqb-true x n e)) | inr k ↦ inr (is_in n xs k) ]

pub in_is : (n : ℕ) (xs : List ℕ) → In n xs → is n xs ≡ true
in_is n [] h = absurd h
in_is n (x ∷ xs) (inl e) = or_left (eqb x n) (is n xs) (eq-eqb x n (sym e))
in_is n (x ∷ xs) (inr h) = or_right (eqb x n) (is n xs) (in_is n xs h)

-- whether each of the items stands in the list
pub all_are : (xs items : List ℕ) → list_all (λ n. is n xs) items ≡ true → (n : ℕ) → In n items → In n xs
all_are xs [] h n i = absurd i
all_are xs (m ∷ items) h n (inl e) = subst (λ k. In k xs) (sym e) (is_in m xs (and_parts (is m xs) (list_all (λ k. is k xs) items) h).0)
all_are xs (m ∷ items) h n (inr i) = all_are xs items (and_parts (is m xs) (list_all (λ k. is k xs) items) h).1 n i

pub are_all : (xs items : List ℕ) → ((n : ℕ) → In n items → In n xs) → list_all (λ n. is n xs) items ≡ true
are_all xs [] h = refl
are_all xs (m ∷ items) h = and_from (is m xs) (list_all (λ k. is k xs) items) (in_is m xs (h m (inl refl))) (are_all xs items (λ n i. h n (inr i)))

pub decides_all : (r : Bool) (xs items : List ℕ) → r ≡ list_all (λ n. is n xs) items → Decides r ((n : ℕ) → In n items → In n xs)
decides_all r xs items e = (λ t. all_are xs items (sym e ∙ t), λ h. e ∙ are_all xs items h)
