-- Good lines: one more, fewer, and those of symbols.
use Rattle.std.proofs.Common.{◌≡◌, ℕ, ◌+◌, ◌<◌, ◌≤◌, ◌⊎◌, List, [], ◌∷◌, ◌++◌, map, length, get_or, sym, refl, ap, ◌∙◌, subst, inl, inr, append_assoc, arith, length-append, length-take, ◌≢◌}
use Rattle.std.specs.List.{flat_map, AllByRecursion}
use Rattle.std.proofs.lemmas.Bool.{cases_lt}
use Rattle.std.proofs.lemmas.List.{get_or_append_left, get_or_push, length_push, get_or_default, map-append, map_push, length-map, flat_map_more}
use Rattle.std.proofs.lemmas.List.Quantifiers.{all_pairs_push}
use Rattle.refusal.specs.declared.Refusal.TheVariants.{SignatureLine}
use Rattle.signature.specs.Lines.{Apart, Absent, names, spelled}
use Rattle.signature.specs.Texts.{Line, text_of, WellFormed, Sound, BadLine, TooMany, Refused}
use Rattle.signature.specs.Signatures.{line_of}
use Rattle.signature.specs.declared.symbol.Symbol.{Symbol}
use Rattle.signature.proofs.Cuts.{line_once}

abbrev name_of : Line → List ℕ
name_of l = l.name

apart_push : (ns : List (List ℕ)) (n : List ℕ) → Apart ns → Absent n ns → Apart (ns ++ n ∷ [])
apart_push ns n h a = all_pairs_push (λ l m. l ≢ m) ns n h (λ k d low e. a k low (get_or_default ns k [] d low ∙ e))

apart_front : (ns ms : List (List ℕ)) → Apart (ns ++ ms) → Apart ns
apart_front ns ms h i j d lt within e =
    let size = length-append ns ms in
    h i j d lt (omega arith) (get_or_append_left ns ms d i (omega arith) ∙ e ∙ sym (get_or_append_left ns ms d j within))

apart_last : (ns : List (List ℕ)) (n : List ℕ) → Apart (ns ++ n ∷ []) → Absent n ns
apart_last ns n h k within e =
    let size = length_push ns n in
    h k (length ns) [] within (omega arith) (get_or_append_left ns (n ∷ []) [] k within ∙ e ∙ sym (get_or_push ns n [] (length ns) refl))

all_front : {X : Type 0} (P : X → Type 0) (xs ys : List X) → AllByRecursion P (xs ++ ys) → AllByRecursion P xs
all_front P [] ys h = tt
all_front P (x ∷ xs) ys h = (h.0, all_front P xs ys h.1)

all_last : {X : Type 0} (P : X → Type 0) (xs : List X) (x : X) → AllByRecursion P (xs ++ x ∷ []) → P x
all_last P [] x h = h.0
all_last P (y ∷ xs) x h = all_last P xs x h.1

pub sound_front : (ls ms : List Line) → Sound (ls ++ ms) → Sound ls
sound_front ls ms s = record {
  each = all_front WellFormed ls ms s.each;
  apart = apart_front (map name_of ls) (map name_of ms) (subst Apart (map-append name_of ls ms) s.apart);
}

pub last_well : (ls : List Line) (l : Line) → Sound (ls ++ l ∷ []) → WellFormed l
last_well ls l s = all_last WellFormed ls l s.each

pub last_absent : (ls : List Line) (l : Line) → Sound (ls ++ l ∷ []) → Absent l.name (map name_of ls)
last_absent ls l s = apart_last (map name_of ls) l.name (subst Apart (map_push name_of ls l) s.apart)

well : (y : Symbol) → WellFormed (line_of y)
well y = record {
  word = y.name.word;
  short = omega (arith, length-take y.name.bytes.len y.name.bytes.cells, y.name.bytes.within);
  arity_within = y.arity_most;
  weight_some = y.weight_least;
  weight_within = y.weight_most;
}

wells : (ss : List Symbol) → AllByRecursion WellFormed (map line_of ss)
wells [] = tt
wells (y ∷ ys) = (well y, wells ys)

pub names_lines : (ss : List Symbol) → map name_of (map line_of ss) ≡ names ss
names_lines [] = refl
names_lines (y ∷ ys) = ap (λ ns. spelled y.name ∷ ns) (names_lines ys)

-- the lines of symbols are good, if no two names are equal
pub sound_lines : (ss : List Symbol) → Apart (names ss) → Sound (map line_of ss)
sound_lines ss h = record { each = wells ss; apart = subst Apart (sym (names_lines ss)) h }

-- a line of a name that is there already is bad
pub bad_again : (ss : List Symbol) (y : Symbol) (rest after : List ℕ) (k : ℕ) → rest ≡ text_of (line_of y) ++ after → k < length ss → get_or (names ss) k [] ≡ spelled y.name → (l : Line) (more : List ℕ) → Sound (map line_of ss ++ l ∷ []) → rest ≡ text_of l ++ more → ⊥
bad_again ss y rest after k e within taken l more s f =
    let same = (line_once l (line_of y) more after (last_well (map line_of ss) l s) (well y) (sym f ∙ e)).0 in
    let size = length-map ss (λ (z : Symbol). spelled z.name) in
    let absent : Absent l.name (names ss) = subst (Absent l.name) (names_lines ss) (last_absent (map line_of ss) l s) in
    absent k (omega arith) (taken ∙ ap name_of (sym same))

-- the refusal of the line after those of the symbols
module _ (text rest : List ℕ) (ss : List Symbol) (e : text ≡ flat_map text_of (map line_of ss) ++ rest) (h : Apart (names ss)) where
  pub refused : BadLine (map line_of ss) rest ⊎ TooMany (map line_of ss) rest → Refused text (SignatureLine (length ss + 1))
  refused why = record {
    before = map line_of ss;
    rest = rest;
    whole = e;
    sound = sound_lines ss h;
    is = ap SignatureLine (omega (arith, length-map ss line_of));
    why = why;
  }

  -- there are at most 64 symbols, and the text goes on in another way than with a good line
  pub bad_line : length ss ≤ 64 → (rest ≡ [] → ss ≡ []) → ((l : Line) (after : List ℕ) → Sound (map line_of ss ++ l ∷ []) → rest ≢ text_of l ++ after) → Refused text (SignatureLine (length ss + 1))
  bad_line most more bad =
      let size = length-map ss line_of in
      elim (cases_lt (length ss) 64) [
        | inl few ↦ refused (inl (record { few = omega (arith, size); more = λ e. ap (map line_of) (more e); bad = bad }))
        | inr full ↦ refused (inr (record { all = omega (arith, size); more = λ e. omega (arith, ap length (more e)) }))
      ]

-- one more symbol
module _ (ss : List Symbol) (y : Symbol) where
  pub text_more : (text rest after : List ℕ) → text ≡ flat_map text_of (map line_of ss) ++ rest → rest ≡ text_of (line_of y) ++ after → text ≡ flat_map text_of (map line_of (ss ++ y ∷ [])) ++ after
  text_more text rest after e f =
      let ls = map line_of ss in
      let lines : map line_of (ss ++ y ∷ []) ≡ ls ++ line_of y ∷ [] = map_push line_of ss y in
      e ∙ ap (λ r. flat_map text_of ls ++ r) f ∙ sym (append_assoc (flat_map text_of ls) (text_of (line_of y)) after) ∙ ap (λ t. t ++ after) (flat_map_more text_of [] ls (line_of y) ∙ ap (flat_map text_of) (sym lines))

  pub apart_more : Apart (names ss) → Absent (spelled y.name) (names ss) → Apart (names (ss ++ y ∷ []))
  apart_more h a = subst Apart (sym (map_push (λ (z : Symbol). spelled z.name) ss y)) (apart_push _ _ h a)
