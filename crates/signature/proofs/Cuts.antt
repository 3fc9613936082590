-- A text cut at its tabs and line feeds: a well-formed line can be cut in one way only.
use Rattle.std.proofs.Common.{◌≡◌, ℕ, ◌<◌, true, false, List, [], ◌∷◌, ◌++◌, length, decimal, sym, refl, ap, ◌∙◌, append_assoc, arith, length-append}
use mathlib.Core.Bool.{false≢true}
use Rattle.std.proofs.lemmas.Bool.{and_parts}
use Rattle.std.proofs.lemmas.Fmt.{decimal_injective}
use Rattle.signature.specs.Words.{wordly, each_wordly, is_word, lower}
use Rattle.fields.specs.Cuts.{Without, Cut}
use Rattle.fields.proofs.Cutting.{cut_is, decimal_free}
use Rattle.signature.specs.Texts.{Line, text_of, WellFormed, Fields}

all_free : (c : ℕ) → wordly c ≡ false → (bs : List ℕ) → each_wordly bs ≡ true → Without c bs
all_free c other [] h = tt
all_free c other (b ∷ bs) h =
    let p = and_parts (wordly b) (each_wordly bs) h in
    (λ e. false≢true (sym other ∙ ap wordly (sym e) ∙ p.0), all_free c other bs p.1)

pub word_free : (bs : List ℕ) → is_word bs ≡ true → Without 9 bs
word_free [] h = tt
word_free (b ∷ bs) h =
    let p = and_parts (lower b) (each_wordly bs) h in
    (λ e. false≢true (ap lower (sym e) ∙ p.0), all_free 9 refl bs p.1)

-- a line's text with what follows it, without inner brackets
pub flat : (l : Line) (after : List ℕ) → text_of l ++ after ≡ l.name ++ (9 ∷ (decimal l.arity ++ (9 ∷ (decimal l.weight ++ (10 ∷ after)))))
flat l after = simp append_assoc

same_line : (l m : Line) → l.name ≡ m.name → l.arity ≡ m.arity → l.weight ≡ m.weight → l ≡ m
same_line l m p q r = λ i. record { name = p i; arity = q i; weight = r i }

-- the fields of a well-formed line, one after another
module _ (l : Line) (after : List ℕ) (ok : WellFormed l) where
  pub name_cut : (text name rest : List ℕ) → Cut 9 text name rest → text ≡ text_of l ++ after → (name ≡ l.name) × (rest ≡ decimal l.arity ++ (9 ∷ (decimal l.weight ++ (10 ∷ after))))
  name_cut text name rest k e = cut_is l.name _ k (word_free l.name ok.word) (e ∙ flat l after)

  pub arity_cut : (text arity rest : List ℕ) → Cut 9 text arity rest → text ≡ decimal l.arity ++ (9 ∷ (decimal l.weight ++ (10 ∷ after))) → (arity ≡ decimal l.arity) × (rest ≡ decimal l.weight ++ (10 ∷ after))
  arity_cut text arity rest k e = cut_is (decimal l.arity) _ k (decimal_free 9 l.arity (omega arith) (omega (arith, ok.arity_within))) e

  pub weight_cut : (text weight rest : List ℕ) → Cut 10 text weight rest → text ≡ decimal l.weight ++ (10 ∷ after) → (weight ≡ decimal l.weight) × (rest ≡ after)
  weight_cut text weight rest k e = cut_is (decimal l.weight) _ k (decimal_free 10 l.weight (omega arith) (omega (arith, ok.weight_within))) e

pub line_once : (l m : Line) (x y : List ℕ) → WellFormed l → WellFormed m → text_of l ++ x ≡ text_of m ++ y → (l ≡ m) × (x ≡ y)
line_once l m x y wl wm e =
    let n = name_cut m y wm (text_of l ++ x) l.name _ (record { whole = flat l x; first = word_free l.name wl.word }) e in
    let a = arity_cut m y wm _ (decimal l.arity) _ (record { whole = refl; first = decimal_free 9 l.arity (omega arith) (omega (arith, wl.arity_within)) }) n.1 in
    let w = weight_cut m y wm _ (decimal l.weight) x (record { whole = refl; first = decimal_free 10 l.weight (omega arith) (omega (arith, wl.weight_within)) }) a.1 in
    (same_line l m n.0 (decimal_injective _ _ (omega (arith, wl.arity_within)) (omega (arith, wm.arity_within)) a.0) (decimal_injective _ _ (omega (arith, wl.weight_within)) (omega (arith, wm.weight_within)) w.0), w.1)

pub text_some : (l : Line) → 0 < length (text_of l)
text_some l = simp length-append (omega arith)

-- cut in three, the text begins with the line of the three fields
pub line_whole : (l : Line) {text name rest arity rest2 weight after : List ℕ} → Cut 9 text name rest → Cut 9 rest arity rest2 → Cut 10 rest2 weight after → Fields l name arity weight → text ≡ text_of l ++ after
line_whole l {text} {name} {rest} {arity} {rest2} {weight} {after} n a w f =
    let t : text ≡ name ++ (9 ∷ (arity ++ (9 ∷ (weight ++ (10 ∷ after))))) = n.whole ∙ ap (λ r. name ++ (9 ∷ r)) (a.whole ∙ ap (λ r. arity ++ (9 ∷ r)) w.whole) in
    t ∙ rw (f.name_is, f.arity_is, f.weight_is) (sym (flat l after))
