-- Lexicographic descent ends where the descents of the parts do.
use mathlib.Core.Path.{◌≡◌, refl, sym, ◌∙◌, ap}
use mathlib.Core.WellFounded.{Acc}
use native.Mathlib.Omega.{arith}
use Prim.Native.Nat.{ℕ, zero, suc, ◌<◌}
use Rattle.terms.specs.Term.{Term, Terms, nil, ◌▹◌, width}

below_acc : (n m : ℕ) → m < n → Acc ◌<◌ m
below_acc zero m h = let z : ⊥ = omega arith in absurd z
below_acc (suc n) m h = Acc.intro m (λ k l. below_acc n k (omega arith))

pub nat_acc : (n : ℕ) → Acc ◌<◌ n
nat_acc n = below_acc (suc n) n (omega arith)

pub data Lex (A : Term → Term → Type 0) : Terms → Terms → Type 0 where
  here : {s t : Term} {ss ts : Terms} → A s t → width ss ≡ width ts → Lex A (s ▹ ss) (t ▹ ts)
  next : {s : Term} {ss ts : Terms} → Lex A ss ts → Lex A (s ▹ ss) (s ▹ ts)

module _ (A : Term → Term → Type 0) where
  abbrev pub Ends : Term → Type 0
  Ends t = Acc (λ (u s : Term). A s u) t

  pub data AllEnd : Terms → Type 0 where
    none : AllEnd nil
    and : {t : Term} {ts : Terms} → Ends t → AllEnd ts → AllEnd (t ▹ ts)

  -- us is below ts, and its terms are accessible
  abbrev pub Down : Terms → Terms → Type 0
  Down us ts = Lex A ts us × AllEnd us

  width_zero : (ts : Terms) → width ts ≡ 0 → Acc Down ts
  width_zero nil e = Acc.intro nil (λ us d. empty d.0)
    where
      empty : {us : Terms} → Lex A nil us → Acc Down us
      empty h = elim h [ ]
  width_zero (t ▹ ts) e = let z : ⊥ = omega arith in absurd z

  lex_width : {ss ts : Terms} → Lex A ss ts → width ss ≡ width ts
  lex_width (here a e) = ap suc e
  lex_width (next l) = ap suc (lex_width l)

  -- one more term in front
  below_cons : (n : ℕ) (t : Term) (ts : Terms) → width ts ≡ n →
      ((u : Term) → A t u → (us : Terms) → width us ≡ n → AllEnd us → Acc Down (u ▹ us)) →
      ((us : Terms) → Down us ts → width us ≡ n → Acc Down (t ▹ us)) →
      {vs : Terms} → Lex A (t ▹ ts) vs → AllEnd vs → Acc Down vs
  below_cons n t ts e iht ihs (here {t = u} {ts = us} a k) (and ou ous) = iht u a us (sym k ∙ e) ous
  below_cons n t ts e iht ihs (next {ts = us} l) (and ou ous) = ihs us (l, ous) (sym (lex_width l) ∙ e)

  inner : (n : ℕ) (t : Term) → ((u : Term) → A t u → (us : Terms) → width us ≡ n → AllEnd us → Acc Down (u ▹ us)) →
      {ts : Terms} → Acc Down ts → width ts ≡ n → Acc Down (t ▹ ts)
  inner n t iht (Acc.intro ts h) e = Acc.intro (t ▹ ts) (λ vs d. below_cons n t ts e iht (λ us k k'. inner n t iht (h us k) k') d.0 d.1)

  cons_acc : (n : ℕ) → ((us : Terms) → width us ≡ n → AllEnd us → Acc Down us) → {t : Term} → Ends t → (ts : Terms) → width ts ≡ n → AllEnd ts → Acc Down (t ▹ ts)
  cons_acc n tails (Acc.intro t h) ts e o = inner n t (λ u a us k ous. cons_acc n tails (h u a) us k ous) (tails ts e o) e

  sized : (n : ℕ) (ts : Terms) → width ts ≡ n → AllEnd ts → Acc Down ts
  sized zero ts e o = width_zero ts e
  sized (suc n) nil e o = let z : ⊥ = omega arith in absurd z
  sized (suc n) (t ▹ ts) e (and a o) = cons_acc n (sized n) a ts (omega arith) o

  pub lex_acc : (ts : Terms) → AllEnd ts → Acc Down ts
  lex_acc ts o = sized (width ts) ts refl o
