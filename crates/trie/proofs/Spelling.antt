-- The labels of a row.
use Rattle.std.proofs.Common.{◌≡◌, ℕ, ◌+◌, ◌-◌, ◌<◌, ◌≤◌, true, false, List, [], ◌∷◌, map, length, get_or, drop, refl, ap, ◌∙◌, arith, length-append}
use Rattle.std.proofs.lemmas.List.{get_or_append_left, get_or-map, length-map, drop_more}
use Rattle.terms.specs.declared.pattern.Node.{Node}
use Rattle.terms.specs.declared.pattern.Node.TheVariants.{Var, App}
use Rattle.trie.specs.declared.branch.Label.{Label}
use Rattle.trie.specs.declared.branch.Label.TheVariants.{Star, Number}
use Rattle.trie.specs.Trees.{is_number}
use Rattle.trie.specs.Contents.{label_of, labels}

pub label_inside : (row : List Node) (n i : ℕ) → i < length row → get_or (labels row n) i Star ≡ label_of (get_or row i (Var 0))
label_inside row n i h =
    let len = length-map row label_of in
    get_or_append_left (map label_of row) (Number n ∷ []) Star i (omega arith) ∙ get_or-map label_of row i (Var 0) Star h

pub label_last : (row : List Node) (n i : ℕ) → i ≡ length row → get_or (labels row n) i Star ≡ Number n
label_last [] n i e = rw e
label_last (x ∷ row) n i e = rw e (label_last row n (length row) refl)

pub labels_length : (row : List Node) (n : ℕ) → length (labels row n) ≡ length row + 1
labels_length row n = let a = length-append (map label_of row) (Number n ∷ []) in let b = length-map row label_of in omega arith

pub labels_before : (s : List Label) (i : ℕ) → 0 < i → i ≤ length s → drop (i - 1) s ≡ get_or s (i - 1) Star ∷ drop i s
labels_before s i pos within = let up : i - 1 + 1 ≡ i = omega arith in drop_more s (i - 1) Star (omega arith) ∙ ap (λ k. get_or s (i - 1) Star ∷ drop k s) up

-- labels that are no number, and then a number
abbrev pub Row : List Label → Type 0
Row [] = ⊥
Row (k ∷ []) = is_number k ≡ true
Row (k ∷ (j ∷ u)) = (is_number k ≡ false) × Row (j ∷ u)

no_number : (n : Node) → is_number (label_of n) ≡ false
no_number (Var x) = refl
no_number (App f a) = refl

pub labels_row : (row : List Node) (n : ℕ) → Row (labels row n)
labels_row [] n = refl
labels_row (x ∷ []) n = (no_number x, refl)
labels_row (x ∷ (y ∷ row)) n = (no_number x, labels_row (y ∷ row) n)

pub label_no_number : (row : List Node) (n i : ℕ) → i < length row → is_number (get_or (labels row n) i Star) ≡ false
label_no_number row n i h = ap is_number (label_inside row n i h) ∙ no_number (get_or row i (Var 0))
