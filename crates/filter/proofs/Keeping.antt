-- Keeping some items of a list in place: xs as it was, ys as it is, i items passed and kept of them kept.
use Rattle.std.proofs.Common.{◌≡◌, ℕ, ◌+◌, ◌-◌, ◌<◌, ◌≤◌, min, Bool, true, false, cond, List, [], ◌∷◌, ◌++◌, length, get_or, take, drop, set, sym, refl, ap, ◌∙◌, subst, inl, inr, arith}
use Rattle.std.proofs.lemmas.Bool.{cases_lt}
use Rattle.std.proofs.lemmas.List.{append-nil, length-set, length_push, take_all, take_more, take_more_set, drop-drop, drop-set-lt, get_or-drop, get_or_append_left, get_or_push}
use Rattle.lists.proofs.Chosen.{chosen_push}
use Rattle.filter.specs.Retained.{Retained}

pub record Keeping (R : ℕ → Bool → Type 0) (xs ys : List ℕ) (i kept : ℕ) : Type 0 where
  pub few : kept ≤ i
  pub size : length ys ≡ length xs
  pub front : Retained R (take i xs) (take kept ys)
  pub rest : drop i ys ≡ drop i xs

pub start : (R : ℕ → Bool → Type 0) (xs : List ℕ) → Keeping R xs xs 0 0
start R xs = record { few = omega arith; size = refl; front = record { choice = []; long = refl; right = λ k l. absurd (let z : ⊥ = omega arith in z); is = refl }; rest = refl }

retained_push : (R : ℕ → Bool → Type 0) (xs ys : List ℕ) (x : ℕ) (b : Bool) → Retained R xs ys → R x b → Retained R (xs ++ x ∷ []) (ys ++ cond b (x ∷ []) [])
retained_push R xs ys x b r h =
    let cs = r.choice in
    record {
      choice = cs ++ b ∷ [];
      long = length_push cs b ∙ (ap (λ k. k + 1) r.long ∙ sym (length_push xs x));
      right = λ k l. elim (cases_lt k (length xs)) [
        | inl q ↦
            let f : get_or xs k 0 ≡ get_or (xs ++ x ∷ []) k 0 = sym (get_or_append_left xs (x ∷ []) 0 k q) in
            let g : get_or cs k false ≡ get_or (cs ++ b ∷ []) k false = sym (get_or_append_left cs (b ∷ []) false k (omega (arith, r.long))) in
            subst (λ n. R n (get_or (cs ++ b ∷ []) k false)) f (subst (R (get_or xs k 0)) g (r.right k q))
        | inr q ↦
            let at : k ≡ length xs = omega (arith, length_push xs x) in
            let f : x ≡ get_or (xs ++ x ∷ []) k 0 = sym (get_or_push xs x 0 k (sym at)) in
            let g : b ≡ get_or (cs ++ b ∷ []) k false = sym (get_or_push cs b false k (r.long ∙ sym at)) in
            subst (λ n. R n (get_or (cs ++ b ∷ []) k false)) f (subst (R x) g h)
      ];
      is = ap (λ zs. zs ++ cond b (x ∷ []) []) r.is ∙ sym (chosen_push cs xs b x r.long);
    }

module _ (R : ℕ → Bool → Type 0) (xs ys : List ℕ) (i kept : ℕ) (c : Keeping R xs ys i kept) (lx : i < length xs) where
  here : get_or ys i 0 ≡ get_or xs i 0
  here =
      let z : i + 0 ≡ i = omega arith in
      ap (λ k. get_or ys k 0) (sym z) ∙ sym (get_or-drop i ys 0 0) ∙ ap (λ zs. get_or zs 0 0) c.rest ∙ get_or-drop i xs 0 0 ∙ ap (λ k. get_or xs k 0) z

  more : (b : Bool) → R (get_or ys i 0) b → Retained R (take (i + 1) xs) (take kept ys ++ cond b (get_or ys i 0 ∷ []) [])
  more b h =
      let up : take i xs ++ get_or ys i 0 ∷ [] ≡ take (i + 1) xs = ap (λ x. take i xs ++ x ∷ []) here ∙ sym (take_more xs i 0 lx) in
      subst (λ zs. Retained R zs (take kept ys ++ cond b (get_or ys i 0 ∷ []) [])) up (retained_push R (take i xs) (take kept ys) (get_or ys i 0) b c.front h)

  further : drop (i + 1) ys ≡ drop (i + 1) xs
  further = sym (drop-drop 1 i ys) ∙ ap (drop 1) c.rest ∙ drop-drop 1 i xs

  pub keeps : R (get_or ys i 0) true → Keeping R xs (set ys kept (get_or ys i 0)) (i + 1) (kept + 1)
  keeps h = record {
    few = omega (arith, c.few);
    size = length-set ys kept (get_or ys i 0) ∙ c.size;
    front = subst (Retained R (take (i + 1) xs)) (sym (take_more_set ys kept (get_or ys i 0) (omega (arith, c.few, c.size)))) (more true h);
    rest = drop-set-lt (i + 1) ys kept (get_or ys i 0) (omega (arith, c.few)) ∙ further;
  }

  pub skips : R (get_or ys i 0) false → Keeping R xs ys (i + 1) kept
  skips h = record {
    few = omega (arith, c.few);
    size = c.size;
    front = subst (Retained R (take (i + 1) xs)) (append-nil (take kept ys)) (more false h);
    rest = further;
  }

-- the first n items, as many as there are, are passed
pub finished : (R : ℕ → Bool → Type 0) (xs ys : List ℕ) (i kept n : ℕ) → Keeping R xs ys i kept → min n (length xs) ≡ i → Retained R (take n xs) (take kept ys)
finished R xs ys i kept n c e = subst (λ zs. Retained R zs (take kept ys)) same c.front
  where
    same : take i xs ≡ take n xs
    same = elim (cases_lt n (length xs)) [
      | inl l ↦ let z : i ≡ n = omega (arith, e) in ap (λ k. take k xs) z
      | inr l ↦ take_all i xs (omega (arith, e)) ∙ sym (take_all n xs (omega arith))
    ]

-- the items past the first n stay as they were
pub past : (R : ℕ → Bool → Type 0) (xs ys : List ℕ) (i kept n : ℕ) → Keeping R xs ys i kept → i ≤ n → drop n ys ≡ drop n xs
past R xs ys i kept n c l =
    let z : i + (n - i) ≡ n = omega arith in
    ap (λ k. drop k ys) (sym z) ∙ sym (drop-drop (n - i) i ys) ∙ ap (drop (n - i)) c.rest ∙ drop-drop (n - i) i xs ∙ ap (λ k. drop k xs) z
