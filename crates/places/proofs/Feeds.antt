-- Line feeds: counted byte by byte, and the nearest on either side of a place.
use Rattle.std.proofs.Common.{◌≡◌, ℕ, ◌+◌, ◌-◌, ◌<◌, ◌≤◌, List, length, get_or, take, drop, sym, refl, ap, ◌∙◌, inl, inr, arith, length-drop, length-take-le, get_or-take, ◌≢◌}
use Rattle.std.proofs.lemmas.List.{get_or-drop}
use Rattle.std.proofs.lemmas.List.Sums.{count_by_more_yes, count_by_more_no}
use Rattle.std.proofs.lemmas.Bool.{eq-eqb, ne_eqb}
use Rattle.places.specs.Lines.{feeds, Starts, Ends}

pub at_feed : (text : List ℕ) (i : ℕ) → i < length text → get_or text i 0 ≡ 10 → feeds (take (i + 1) text) ≡ feeds (take i text) + 1
at_feed text i h is = count_by_more_yes _ text i 0 h (eq-eqb _ _ is)

pub at_other : (text : List ℕ) (i : ℕ) → i < length text → (get_or text i 0 ≡ 10 → ⊥) → feeds (take (i + 1) text) ≡ feeds (take i text)
at_other text i h is = count_by_more_no _ text i 0 h (ne_eqb _ _ is)

-- the text before a place, up to its last line feed
module _ (text front : List ℕ) (at : ℕ) (is : front ≡ take at text) (inside : at ≤ length text) where
  size : length front ≡ at
  size = ap length is ∙ length-take-le at text inside

  reads : (k : ℕ) → k < at → get_or front k 0 ≡ get_or text k 0
  reads k h = ap (λ (xs : List ℕ). get_or xs k 0) is ∙ get_or-take at text k 0 h

  pub starts_at : (feed : ℕ) → feed < length front → get_or front feed 0 ≡ 10 → ((k : ℕ) → feed + 1 ≤ k → k < length front → get_or front k 0 ≢ 10) → Starts text at (feed + 1)
  starts_at feed low here later =
      let back : feed + 1 - 1 ≡ feed = omega arith in
      record {
        before = omega (arith, size);
        behind = inr (ap (λ k. get_or text k 0) back ∙ sym (reads feed (omega (arith, size))) ∙ here);
        plain = λ k from to e. later k from (omega (arith, size)) (reads k to ∙ e);
      }

  pub starts_first : ((k : ℕ) → k < length front → get_or front k 0 ≢ 10) → Starts text at 0
  starts_first none = record {
    before = omega arith;
    behind = inl refl;
    plain = λ k from to e. none k (omega (arith, size)) (reads k to ∙ e);
  }

-- the text from a place on, up to its first line feed
module _ (text rest : List ℕ) (at : ℕ) (is : rest ≡ drop at text) (inside : at ≤ length text) where
  left : length rest ≡ length text - at
  left = ap length is ∙ length-drop at text

  stands : (k : ℕ) → get_or rest k 0 ≡ get_or text (at + k) 0
  stands k = ap (λ (xs : List ℕ). get_or xs k 0) is ∙ get_or-drop at text k 0

  behind_at : (k : ℕ) → at ≤ k → get_or rest (k - at) 0 ≡ get_or text k 0
  behind_at k h = let same : at + (k - at) ≡ k = omega arith in stands (k - at) ∙ ap (λ i. get_or text i 0) same

  pub ends_at : (len : ℕ) → len < length rest → get_or rest len 0 ≡ 10 → ((k : ℕ) → k < len → get_or rest k 0 ≢ 10) → Ends text at (at + len)
  ends_at len low here before = record {
    after = omega arith;
    within = omega (arith, left);
    ahead = inr (sym (stands len) ∙ here);
    plain = λ k from to e. before (k - at) (omega arith) (behind_at k from ∙ e);
  }

  pub ends_last : ((k : ℕ) → k < length rest → get_or rest k 0 ≢ 10) → Ends text at (length text)
  ends_last none = record {
    after = inside;
    within = omega arith;
    ahead = inl refl;
    plain = λ k from to e. none (k - at) (omega (arith, left)) (behind_at k from ∙ e);
  }
