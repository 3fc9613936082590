-- One cell into the bank.
use Rattle.std.proofs.Common.{◌≡◌, ℕ, zero, suc, ◌<◌, ◌≤◌, true, false, ◌&&◌, eqb, List, [], ◌∷◌, ◌++◌, length, get_or, take, Some, None, Decides, Option, sym, refl, ap, ◌∙◌, ap₂, inl, inr, arith}
use Rattle.std.specs.Str.{bytes_eq}
use Rattle.std.proofs.lemmas.Slice.Eq.{bytes_eq-Decides}
use Rattle.std.proofs.lemmas.Bool.{cases_Bool, false≢true, lt-ltb, le-ltb}
use Rattle.std.proofs.lemmas.Bool.Decides.{Decides-eqb, Decides-and, Decides-like}
use Rattle.std.proofs.lemmas.List.{take_more_set, take-set, get_or-take, length-take-le, length-set, take-take}
use Rattle.lent_list.specs.Words.{First, Appended}
use Rattle.bank.specs.declared.cell.Cell.{Cell}
use Rattle.bank.specs.declared.cell.Cell.TheVariants.{Var, App}
use Rattle.enter.specs.Enter.{same_cell, place, note}
use Rattle.enter.specs.Machine.{Put, Gives, Grew}

abbrev SameApp : (f g m n : ℕ) (xs ys : List ℕ) → Type 0
SameApp f g m n xs ys = (f ≡ g) × ((m ≡ n) × (xs ≡ ys))

app_eq : {f g m n : ℕ} {xs ys : List ℕ} → SameApp f g m n xs ys → App f m xs ≡ App g n ys
app_eq s = let p = s.0 in let q = s.1.0 in let r = s.1.1 in cc

app_parts : {f g m n : ℕ} {xs ys : List ℕ} → App f m xs ≡ App g n ys → SameApp f g m n xs ys
app_parts {f} {g} {m} {n} {xs} {ys} e = let p : f ≡ g = cc in let q : m ≡ n = cc in let r : xs ≡ ys = cc in (p, (q, r))

var_parts : {x y : ℕ} → Var x ≡ Var y → x ≡ y
var_parts e = cc

apart : {x g n : ℕ} {ys : List ℕ} → Var x ≡ App g n ys → ⊥
apart e = let z : ◌≡◌ {A = ℕ} 0 1 = cc in omega arith

pub same_decides : (x c : Cell) → Decides (same_cell x c) (x ≡ c)
same_decides (Var x) (Var y) = Decides-like (eqb x y) (ap Var) var_parts (Decides-eqb x y)
same_decides (Var x) (App g n ys) = (λ e. absurd (false≢true e), λ e. absurd (apart e))
same_decides (App f m xs) (Var y) = (λ e. absurd (false≢true e), λ e. absurd (apart (sym e)))
same_decides (App f m xs) (App g n ys) =
    Decides-like (eqb f g && (eqb m n && bytes_eq xs ys)) app_eq app_parts
    (Decides-and (eqb f g) (eqb m n && bytes_eq xs ys) (Decides-eqb f g) (Decides-and (eqb m n) (bytes_eq xs ys) (Decides-eqb m n) (bytes_eq-Decides xs ys)))

differs : (x c : Cell) → (x ≡ c → ⊥) → same_cell x c ≡ false
differs x c h = elim (cases_Bool (same_cell x c)) [
  | inl t ↦ absurd (h ((same_decides x c).0 t))
  | inr f ↦ f
]

pub place_some : (b : List Cell) (c d : Cell) (i : ℕ) → i < length b → get_or b i d ≡ c → ((k : ℕ) → k < i → get_or b k d ≡ c → ⊥) → place c b ≡ Some i
place_some [] c d i l e h = absurd (let z : ⊥ = omega arith in z)
place_some (x ∷ xs) c d zero l e h = rw ((same_decides x c).1 e)
place_some (x ∷ xs) c d (suc i) l e h =
    let rest = place_some xs c d i (omega arith) e (λ k lk. h (suc k) (omega arith)) in
    rw (differs x c (h 0 (omega arith)), rest)

place_none : (b : List Cell) (c d : Cell) → ((k : ℕ) → k < length b → get_or b k d ≡ c → ⊥) → place c b ≡ None
place_none [] c d h = refl
place_none (x ∷ xs) c d h =
    let rest = place_none xs c d (λ k lk. h (suc k) (omega arith)) in
    rw (differs x c (h 0 (omega arith)), rest)

pub note_found : (cells cells' : List Cell) (n n' i m : ℕ) (c : Cell) → First cells n c (Some i) → n ≤ length cells → cells' ≡ cells → n' ≡ n
    → note m c (take n cells) ≡ Some (take n' cells', i)
note_found cells cells' n n' i m c f h e k =
    let size = length-take-le n cells h in
    let at : get_or (take n cells) i c ≡ c = get_or-take n cells i c f.0 ∙ f.2 in
    let p = place_some (take n cells) c c i (omega (arith, size, f.0)) at (λ j l q. f.3 j c l (sym (get_or-take n cells j c (omega (arith, f.0))) ∙ q)) in
    rw (p, e, k)

not_there : (cells : List Cell) (n : ℕ) (c : Cell) → First cells n c None → n ≤ length cells → place c (take n cells) ≡ None
not_there cells n c f h =
    let size = length-take-le n cells h in
    place_none (take n cells) c c (λ k l q. f k c (omega (arith, size)) (omega (arith, size)) (sym (get_or-take n cells k c (omega (arith, size))) ∙ q))

pub note_new : (cells cells' : List Cell) (n n' : ℕ) (c : Cell) → First cells n c None → n ≤ length cells → Appended cells n cells' n' c true
    → note (length cells) c (take n cells) ≡ Some (take n' cells', n)
note_new cells cells' n n' c f h a =
    let size = length-take-le n cells h in
    let full : take n' cells' ≡ take n cells ++ c ∷ [] = ap₂ take a.2 a.1 ∙ take_more_set cells n c a.0 in
    rw (not_there cells n c f h, size, lt-ltb n (length cells) a.0, full)

pub note_full : (cells cells' : List Cell) (n n' : ℕ) (c : Cell) → First cells n c None → n ≤ length cells → Appended cells n cells' n' c false
    → note (length cells) c (take n cells) ≡ None
note_full cells cells' n n' c f h a =
    let size = length-take-le n cells h in
    rw (not_there cells n c f h, size, le-ltb n (length cells) a.0)

pub grew_same : {cells cells' : List Cell} {n n' : ℕ} → n ≤ length cells → cells' ≡ cells → n' ≡ n → Grew cells n cells' n'
grew_same {cells} {cells'} {n} {n'} h e k = record { up = omega arith; within = rw e (omega arith); size = ap length e; front = ap (take n) e }

pub grew_new : (cells cells' : List Cell) (n n' : ℕ) (c : Cell) → Appended cells n cells' n' c true → Grew cells n cells' n'
grew_new cells cells' n n' c a =
    let size : length cells' ≡ length cells = ap length a.1 ∙ length-set cells n c in
    record { up = omega (arith, a.2); within = omega (arith, a.2, a.0, size); size = size; front = ap (take n) a.1 ∙ take-set cells n c }

pub grew_trans : {xs ys zs : List Cell} {l m n : ℕ} → Grew xs l ys m → Grew ys m zs n → Grew xs l zs n
grew_trans {xs} {ys} {zs} {l} {m} {n} g h = record {
  up = omega (arith, g.up, h.up);
  within = h.within;
  size = h.size ∙ g.size;
  front = sym (take-take l m zs g.up) ∙ ap (take l) h.front ∙ take-take l m ys g.up ∙ g.front;
}

pub put_gives : (cells cells' : List Cell) (n n' : ℕ) (c : Cell) (r : Option ℕ) → n ≤ length cells → Put cells n cells' n' c r → Gives (note (length cells) c (take n cells)) r cells' n'
put_gives cells cells' n n' c (Some i) h (inl p) = note_found cells cells' n n' i (length cells) c p.0 h p.1 p.2
put_gives cells cells' n n' c (Some i) h (inr p) = note_new cells cells' n n' c p.0 h p.1 ∙ ap (λ k. Some (take n' cells', k)) (sym p.2)
put_gives cells cells' n n' c None h p = note_full cells cells' n n' c p.0 h p.1

pub put_grew : (cells cells' : List Cell) (n n' : ℕ) (c : Cell) (r : Option ℕ) → n ≤ length cells → Put cells n cells' n' c r → Grew cells n cells' n'
put_grew cells cells' n n' c (Some i) h (inl p) = grew_same h p.1 p.2
put_grew cells cells' n n' c (Some i) h (inr p) = grew_new cells cells' n n' c p.1
put_grew cells cells' n n' c None h p = grew_same h p.1.1 p.1.2

pub none_from : (o : Option ℕ) → ((i : ℕ) → o ≡ Some i → ⊥) → o ≡ None
none_from None h = refl
none_from (Some i) h = absurd (h i refl)
