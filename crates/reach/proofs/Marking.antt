-- Marking cells, one after another: xs are the marks before, ys those after the cells js.
use Rattle.std.proofs.Common.{◌≡◌, ℕ, ◌+◌, ◌<◌, ◌≤◌, Bool, true, false, List, [], ◌∷◌, ◌++◌, length, get_or, take, set, sym, ◌∙◌, subst, inl, inr, arith, get_or-set_other, get_or-set_same}
use native.Mathlib.Decide.{ℕ_discrete}
use Rattle.std.proofs.lemmas.List.{take_more}
use Rattle.lists.specs.Members.{In}
use Rattle.lists.proofs.Members.{in_left, in_parts}
use Rattle.reach.specs.Marks.{Joined}

pub starts : (xs : List Bool) → Joined xs [] xs
starts xs = record { stay = λ j h. h; new = λ j h l. absurd h; only = λ j h. inl h }

-- the cell i has no mark
passes : (xs ys : List Bool) (js : List ℕ) (i : ℕ) → Joined xs js ys → length xs ≤ i → Joined xs (js ++ i ∷ []) ys
passes xs ys js i h out = record {
  stay = h.stay;
  new = λ j s l. elim (in_parts j js (i ∷ []) s) [
    | inl k ↦ h.new j k l
    | inr k ↦ elim k [ inl e ↦ absurd (let z : ⊥ = omega (arith, e, l, out) in z) | inr z ↦ absurd z ]
  ];
  only = λ j m. elim (h.only j m) [ inl x ↦ inl x | inr s ↦ inr (in_left j js (i ∷ []) s) ];
}

marks : (xs ys : List Bool) (js : List ℕ) (i : ℕ) → Joined xs js ys → i < length ys → Joined xs (js ++ i ∷ []) (set ys i true)
marks xs ys js i h room = record {
  stay = λ j m. marked j (h.stay j m);
  new = λ j s l. elim (in_parts j js (i ∷ []) s) [
    | inl k ↦ marked j (h.new j k l)
    | inr k ↦ elim k [ inl e ↦ subst (λ x. get_or (set ys i true) x false ≡ true) (sym e) here | inr z ↦ absurd z ]
  ];
  only = λ j m. elim (ℕ_discrete j i) [
    | yes e ↦ inr (in_right_one j e)
    | no q ↦ elim (h.only j (sym (get_or-set_other ys i j true false q) ∙ m)) [ inl x ↦ inl x | inr s ↦ inr (in_left j js (i ∷ []) s) ]
  ];
}
  where
    here : get_or (set ys i true) i false ≡ true
    here = get_or-set_same ys i true false room

    marked : (j : ℕ) → get_or ys j false ≡ true → get_or (set ys i true) j false ≡ true
    marked j m = elim (ℕ_discrete j i) [
      | yes e ↦ subst (λ x. get_or (set ys i true) x false ≡ true) (sym e) here
      | no q ↦ get_or-set_other ys i j true false q ∙ m
    ]

    in_right_one : (j : ℕ) → j ≡ i → In j (js ++ i ∷ [])
    in_right_one j e = in_end js
      where
        in_end : (ks : List ℕ) → In j (ks ++ i ∷ [])
        in_end [] = inl e
        in_end (k ∷ ks) = inr (in_end ks)

module _ (xs ys : List Bool) (js : List ℕ) (k : ℕ) (h : Joined xs (take k js) ys) (l : k < length js) (long : length ys ≡ length xs) where
  pub marks_more : get_or js k 0 < length ys → Joined xs (take (k + 1) js) (set ys (get_or js k 0) true)
  marks_more room = rw (take_more js k 0 l) (marks xs ys (take k js) (get_or js k 0) h room)

  pub passes_more : length ys ≤ get_or js k 0 → Joined xs (take (k + 1) js) ys
  passes_more out = rw (take_more js k 0 l) (passes xs ys (take k js) (get_or js k 0) h (omega (arith, out, long)))
