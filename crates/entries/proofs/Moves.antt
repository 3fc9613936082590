-- The last entry moves to the place of one that goes.
use Rattle.std.proofs.Common.{◌≡◌, ℕ, ◌+◌, ◌-◌, ◌<◌, List, [], ◌∷◌, ◌++◌, length, get_or, take, drop, set, swap_remove, None, sym, refl, ap, ◌∙◌, subst, inl, inr, add-one, arith}
use Rattle.std.proofs.lemmas.List.{map-append, take_more, take_all, take-set-le, take-append-drop, take_at, drop_more, length-take-le, length-set, set-append_left, set_split, get_or-take}
use Rattle.std.proofs.lemmas.Bool.{cases_eq, cases_lt}
use Rattle.lists.specs.Members.{In, Once}
use Rattle.lists.proofs.Members.{in_left, in_right, in_parts, in_map, once_append, once_left, once_right, once_apart}
use Rattle.entries.specs.Lookup.{numbers, lookup}
use Rattle.entries.specs.declared.Entry.{Entry}
use Rattle.entries.proofs.Lookups.{Loses, not_in}

numbers_append : (ls rs : List Entry) → numbers (ls ++ rs) ≡ numbers ls ++ numbers rs
numbers_append ls rs = map-append (λ e. e.number) ls rs

pub once_push : (es : List Entry) (e : Entry) → Once (numbers es) → lookup es e.number ≡ None → Once (numbers (es ++ e ∷ []))
once_push es e o h = subst Once (sym (numbers_append es (e ∷ []))) (once_append (numbers es) (e.number ∷ []) o (λ z. z, tt) (λ n i j. elim j [ inl q ↦ not_in es e.number h (subst (λ m. In m (numbers es)) q i) | inr z ↦ z ]))

-- the last goes
drops : (es : List Entry) (x : Entry) → Once (numbers (es ++ x ∷ [])) → Loses (es ++ x ∷ []) es x.number
drops es x o =
    let h : Once (numbers es ++ x.number ∷ []) = subst Once (numbers_append es (x ∷ [])) o in
    record {
      once = once_left (numbers es) (x.number ∷ []) h;
      from = λ e i. (in_left e es (x ∷ []) i, λ q. once_apart (numbers es) (x.number ∷ []) h e.number (in_map (λ y. y.number) e es i) (inl q));
      back = λ e i n. elim (in_parts e es (x ∷ []) i) [ inl k ↦ k | inr k ↦ elim k [ inl q ↦ absurd (n (ap (λ y. y.number) q)) | inr z ↦ absurd z ] ];
    }

-- the last moves
moves : (ls : List Entry) (x : Entry) (rs : List Entry) (l : Entry) → Once (numbers ((ls ++ x ∷ rs) ++ l ∷ [])) → Loses ((ls ++ x ∷ rs) ++ l ∷ []) (ls ++ l ∷ rs) x.number
moves ls x rs l o =
    let na = numbers ls in
    let nb = numbers rs in
    let front = ls ++ x ∷ rs in
    let h : Once (numbers front ++ l.number ∷ []) = subst Once (numbers_append front (l ∷ [])) o in
    let f : numbers front ≡ na ++ x.number ∷ nb = numbers_append ls (x ∷ rs) in
    let h₁ : Once (na ++ x.number ∷ nb) = subst Once f (once_left (numbers front) (l.number ∷ []) h) in
    let last : (n : ℕ) → In n (na ++ x.number ∷ nb) → n ≡ l.number → ⊥ = λ n i q. once_apart (numbers front) (l.number ∷ []) h n (subst (In n) (sym f) i) (inl q) in
    let behind : Once (x.number ∷ nb) = once_right na (x.number ∷ nb) h₁ in
    let apart : (n : ℕ) → In n na → In n (x.number ∷ nb) → ⊥ = once_apart na (x.number ∷ nb) h₁ in
    record {
      once = subst Once (sym (numbers_append ls (l ∷ rs))) (once_append na (l.number ∷ nb) (once_left na (x.number ∷ nb) h₁)
          (λ i. last l.number (in_right l.number na (x.number ∷ nb) (inr i)) refl, behind.1)
          (λ n i j. elim j [ inl q ↦ last n (in_left n na (x.number ∷ nb) i) q | inr k ↦ apart n i (inr k) ]));
      from = λ e i. elim (in_parts e ls (l ∷ rs) i) [
        | inl k ↦ (in_left e front (l ∷ []) (in_left e ls (x ∷ rs) k), λ q. apart e.number (in_map (λ y. y.number) e ls k) (inl q))
        | inr j ↦ elim j [
          | inl q ↦ (in_right e front (l ∷ []) (inl q), λ z. last x.number (in_right x.number na (x.number ∷ nb) (inl refl)) (sym z ∙ ap (λ y. y.number) q))
          | inr k ↦ (in_left e front (l ∷ []) (in_right e ls (x ∷ rs) (inr k)), λ q. behind.0 (subst (λ n. In n nb) q (in_map (λ y. y.number) e rs k)))
        ]
      ];
      back = λ e i n. elim (in_parts e front (l ∷ []) i) [
        | inl j ↦ elim (in_parts e ls (x ∷ rs) j) [
          | inl k ↦ in_left e ls (l ∷ rs) k
          | inr k ↦ elim k [ inl q ↦ absurd (n (ap (λ y. y.number) q)) | inr m ↦ in_right e ls (l ∷ rs) (inr m) ]
        ]
        | inr j ↦ elim j [ inl q ↦ in_right e ls (l ∷ rs) (inl q) | inr z ↦ absurd z ]
      ];
    }

-- the entry at place i goes
pub moved : (es : List Entry) (i : ℕ) (d : Entry) → i < length es → Once (numbers es) → Loses es (swap_remove es i d) (get_or es i d).number
moved es i d li o =
    let m = length es - 1 in
    let l = get_or es m d in
    let x = get_or es i d in
    let front = take m es in
    let size : length front ≡ m = length-take-le m es (omega arith) in
    let whole : es ≡ take (m + 1) es = sym (take_all (m + 1) es (omega arith)) in
    let all : es ≡ front ++ l ∷ [] = whole ∙ take_more es m d (omega arith) in
    elim (cases_eq i m) [
      | inl q ↦
          let same : take m (set es i l) ≡ front = take-set-le m es i l (omega arith) in
          subst (λ n. Loses es (take m (set es i l)) (get_or es n d).number) (sym q)
          (subst (λ rs. Loses es rs l.number) (sym same) (subst (λ zs. Loses zs front l.number) (sym all) (drops front l (subst (λ zs. Once (numbers zs)) all o))))
      | inr n ↦
          let lt : i < m = elim (cases_lt i m) [ inl h ↦ h | inr h ↦ absurd (n (let z : i ≡ m = omega arith in z)) ] in
          let back = drop (i + 1) front in
          let cut : front ≡ take i front ++ x ∷ back =
          sym (take-append-drop i front) ∙ ap (λ zs. take i front ++ zs) (drop_more front i d (omega arith) ∙ ap (λ y. y ∷ back) (get_or-take m es i d lt)) in
          let put : take m (set es i l) ≡ take i front ++ l ∷ back =
          ap (λ zs. take m (set zs i l)) (sym (take-append-drop m es)) ∙ ap (take m) (set-append_left front (drop m es) i l (omega arith)) ∙ take_at (set front i l) (drop m es) m (length-set front i l ∙ size)
          ∙ set_split front i l (omega arith) ∙ ap (λ k. take i front ++ l ∷ drop k front) (sym (add-one i)) in
          let parts : es ≡ (take i front ++ x ∷ back) ++ l ∷ [] = all ∙ ap (λ zs. zs ++ l ∷ []) cut in
          subst (λ zs. Loses es zs x.number) (sym put) (subst (λ zs. Loses zs (take i front ++ l ∷ back) x.number) (sym parts) (moves (take i front) x back l (subst (λ zs. Once (numbers zs)) parts o)))
    ]

pub once_front : (k : ℕ) (es : List Entry) → Once (numbers es) → Once (numbers (take k es))
once_front k es o = once_left (numbers (take k es)) (numbers (drop k es)) (subst Once (ap numbers (sym (take-append-drop k es)) ∙ numbers_append (take k es) (drop k es)) o)
