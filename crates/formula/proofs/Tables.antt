-- The table of variables: a name's number, and one name more.
use Rattle.std.proofs.Common.{◌≡◌, ℕ, zero, suc, ◌+◌, ◌-◌, ◌<◌, ◌≤◌, Bool, true, false, not, ◌⊎◌, List, [], ◌∷◌, ◌++◌, length, take, drop, set, position, is_some, if◌then◌else◌, Some, None, Option, nat_lt, sym, refl, ap, ◌∙◌, inl, inr, arith}
use lib.ListN.{length-map}
use Rattle.std.specs.Str.{bytes_eq}
use Rattle.std.specs.List.{position_or_len}
use Rattle.std.proofs.lemmas.Bool.{cases_Bool, cases_lt, cond_both, cond-true, cond-false, lt-ltb, le-ltb}
use Rattle.std.proofs.lemmas.List.{take_rest, take_all, drop_all, take_more_set, map-append}
use Rattle.std.proofs.lemmas.List.Sums.{prefix_len-le-length}
use Rattle.grammar.proofs.Steps.{none_some, some_same}
use Rattle.row.specs.Items.{items}
use Rattle.grammar.specs.Kinds.{same_bytes}
use Rattle.formula.specs.Symbols.{index_of}
use Rattle.formula.specs.Numbering.{with_name}
use Rattle.formula.specs.Rows.{spanned, names_in, Added}
use Rattle.formula.specs.declared.variables.Span.{Span}
use Rattle.formula.specs.declared.variables.Variables.{Variables}

take_none : (n : ℕ) → take {A = ℕ} n [] ≡ []
take_none zero = refl
take_none (suc n) = refl

-- a part of a text, however it is cut
pub part_past : (text : List ℕ) (place n m : ℕ) → length text ≤ place → take m (drop (length text) text) ≡ take n (drop place text)
part_past text place n m h = ap (take m) (drop_all (length text) text (omega arith)) ∙ take_none m ∙ sym (ap (take n) (drop_all place text h) ∙ take_none n)

pub part_all : (text : List ℕ) (place n : ℕ) → length (take (length text - place) (drop place text)) ≤ n → take (length text - place) (drop place text) ≡ take n (drop place text)
part_all text place n h = take_rest text place ∙ sym (take_all n (drop place text) (omega (arith, ap length (take_rest text place))))

pub part_front : (text : List ℕ) (place n : ℕ) → take (n - 0) (take (length text - place) (drop place text)) ≡ take n (drop place text)
part_front text place n =
    let same : n - 0 ≡ n = omega arith in
    ap (λ k. take k (take (length text - place) (drop place text))) same ∙ ap (take n) (take_rest text place)

pub index_within : (w : List ℕ) (ns : List (List ℕ)) → index_of w ns ≤ length ns
index_within w [] = omega arith
index_within w (n ∷ ns) = cond_both (same_bytes n w) _ _ (λ k. k ≤ length (n ∷ ns)) (λ _. omega arith) (λ _. omega (arith, index_within w ns))

-- the number is the place of the first part that is the word
module _ (text word : List ℕ) where
  abbrev met : Span → Bool
  met s = bytes_eq (take s.len (drop s.place text)) word

  index_position : (ss : List Span) → index_of word (spanned text ss) ≡ position_or_len met ss
  index_position [] = refl
  index_position (s ∷ ss) = by (cases_Bool (met s)) (index_position ss)
    where
      by : (met s ≡ true) ⊎ (met s ≡ false) → index_of word (spanned text ss) ≡ position_or_len met ss → index_of word (spanned text (s ∷ ss)) ≡ position_or_len met (s ∷ ss)
      by (inl e) ih = rw e refl
      by (inr e) ih = rw e (ap (λ k. 1 + k) ih)

  pub found_at : (ss : List Span) (k : ℕ) → position met ss ≡ Some k → (k < length ss) × (index_of word (spanned text ss) ≡ k)
  found_at ss k e = by (cases_lt (position_or_len met ss) (length ss))
    where
      by : (position_or_len met ss < length ss) ⊎ (length ss ≤ position_or_len met ss) → (k < length ss) × (index_of word (spanned text ss) ≡ k)
      by (inl h) =
          let same : position_or_len met ss ≡ k = some_same (sym (cond-true _ _ _ (lt-ltb _ _ h)) ∙ e) in
          (omega (arith, same), index_position ss ∙ same)
      by (inr h) = none_some (sym (cond-false _ _ _ (le-ltb _ _ h)) ∙ e)

  pub found_none : (ss : List Span) → position met ss ≡ None → index_of word (spanned text ss) ≡ length ss
  found_none ss e = by (cases_lt (position_or_len met ss) (length ss))
    where
      by : (position_or_len met ss < length ss) ⊎ (length ss ≤ position_or_len met ss) → index_of word (spanned text ss) ≡ length ss
      by (inl h) = none_some (sym e ∙ cond-true _ _ _ (lt-ltb _ _ h))
      by (inr h) = omega (arith, index_position ss, prefix_len-le-length (λ s. not (met s)) ss)

pub names_size : (text : List ℕ) (v : Variables) → length (names_in text v) ≡ length (items v.spans)
names_size text v = length-map (items v.spans) (λ (s : Span). take s.len (drop s.place text))

-- one name more at the end
pub named_more : (text : List ℕ) (spans : List Span) (k : ℕ) (s : Span) → k < length spans → spanned text (take (k + 1) (set spans k s)) ≡ spanned text (take k spans) ++ take s.len (drop s.place text) ∷ []
named_more text spans k s h = ap (spanned text) (take_more_set spans k s h) ∙ map-append (λ (t : Span). take t.len (drop t.place text)) (take k spans) (s ∷ [])

pub old_name : (vs : List (List ℕ)) (v : List ℕ) → index_of v vs < length vs → with_name vs v ≡ vs
old_name vs v h = cond-true _ _ _ (lt-ltb (index_of v vs) (length vs) h)

pub new_name : (vs : List (List ℕ)) (v : List ℕ) → length vs ≤ index_of v vs → with_name vs v ≡ vs ++ v ∷ []
new_name vs v h = cond-false _ _ _ (le-ltb (index_of v vs) (length vs) h)

-- a word that has no number yet gets the next one, if one is left
pub numbered : (text : List ℕ) (v w : Variables) (s : Span) (o : Option ℕ) → index_of (take s.len (drop s.place text)) (names_in text v) ≡ length (items v.spans)
    → Added v s w o
    → (o ≡ (if nat_lt (index_of (take s.len (drop s.place text)) (names_in text v)) 16 then Some (index_of (take s.len (drop s.place text)) (names_in text v)) else None))
    × (names_in text w ≡ (if is_some o then with_name (names_in text v) (take s.len (drop s.place text)) else names_in text v))
numbered text v w s None is h =
    let n = index_of (take s.len (drop s.place text)) (names_in text v) in
    (sym (cond-false _ _ _ (le-ltb n 16 (omega (arith, is, h.0)))), ap (names_in text) h.1)
numbered text v w s (Some k) is h =
    let n = index_of (take s.len (drop s.place text)) (names_in text v) in (
      ap Some (h.1 ∙ sym is) ∙ sym (cond-true _ _ _ (lt-ltb n 16 (omega (arith, is, h.0)))),
      ap (spanned text) h.2 ∙ map-append (λ (t : Span). take t.len (drop t.place text)) (items v.spans) (s ∷ []) ∙ sym (new_name (names_in text v) (take s.len (drop s.place text)) (omega (arith, is, names_size text v))),
    )
