-- A text can be cut at a byte in one way only.
use Rattle.std.proofs.Common.{◌≡◌, ℕ, ◌+◌, ◌-◌, ◌^◌, ◌<◌, List, [], ◌∷◌, ◌++◌, length, get_or, take, drop, decimal, sym, refl, ap, ◌∙◌, arith, length-take-le, get_or-take, ◌≢◌}
use Rattle.std.specs.Int.{IsInRange}
use Rattle.std.specs.Str.Parse.{AllDigits}
use Rattle.std.proofs.lemmas.List.{drop_more, take_rest, take-append-drop}
use Rattle.std.proofs.ByRecursion.{All-from_get_or}
use Rattle.std.proofs.lemmas.Str.Parse.{numerals_by_value, tells_digits, not_in_digits}
use Rattle.std.proofs.lemmas.Fmt.{digits_decimal}
use Rattle.fields.specs.Cuts.{Without, Cut}

-- the first c stands at the place i
pub cut_at : (c i : ℕ) (text : List ℕ) → i < length text → get_or text i 0 ≡ c → ((k : ℕ) → k < i → get_or text k 0 ≢ c) → Cut c text (take i text) (take (length text - (i + 1)) (drop (i + 1) text))
cut_at c i text h is before =
    let size : length (take i text) ≡ i = length-take-le i text (omega arith) in
    record {
      whole = sym (take-append-drop i text) ∙ ap (λ xs. take i text ++ xs) (drop_more text i 0 h ∙ ap (λ b. b ∷ drop (i + 1) text) is ∙ ap (λ xs. c ∷ xs) (sym (take_rest text (i + 1))));
      first = All-from_get_or _ (take i text) 0 (λ k h e. let low : k < i = omega (arith, size) in before k low (sym (get_or-take i text k 0 low) ∙ e));
    }

cut_once : (c : ℕ) (p q x y : List ℕ) → Without c p → Without c q → p ++ (c ∷ x) ≡ q ++ (c ∷ y) → (p ≡ q) × (x ≡ y)
cut_once c [] [] x y hp hq e = (refl, cc)
cut_once c [] (b ∷ q) x y hp hq e = absurd (hq.0 (cc))
cut_once c (a ∷ p) [] x y hp hq e = absurd (hp.0 (cc))
cut_once c (a ∷ p) (b ∷ q) x y hp hq e =
    let tails : p ++ (c ∷ x) ≡ q ++ (c ∷ y) = cc in
    let r = cut_once c p q x y hp.1 hq.1 tails in
    (cc r.0, r.1)

pub uncut : (c : ℕ) (p x : List ℕ) → Without c (p ++ (c ∷ x)) → ⊥
uncut c [] x h = h.0 refl
uncut c (a ∷ p) x h = uncut c p x h.1

pub cut_is : {c : ℕ} {text field after : List ℕ} (p x : List ℕ) → Cut c text field after → Without c p → text ≡ p ++ (c ∷ x) → (field ≡ p) × (after ≡ x)
cut_is {c} {text} {field} {after} p x k free e = cut_once c field p after x k.first free (sym k.whole ∙ e)

pub decimal_free : (c n : ℕ) → c < 48 → n < 2 ^ 64 → Without c (decimal n)
decimal_free c n low small =
    let own = numerals_by_value (AllDigits 10) tells_digits in
    let none : IsInRange 48 57 c → ⊥ = λ h. omega (arith, h.0) in
    All-from_get_or _ (decimal n) 0 (not_in_digits own (decimal n) c (digits_decimal own n small) none)
