-- Noting places in any order gives the lowest.
use Rattle.std.proofs.Common.{◌≡◌, ℕ, ◌<◌, ◌≤◌, min, Bool, true, false, not, ◌⊎◌, List, [], ◌∷◌, ◌++◌, Some, None, Option, sym, refl, ap, ◌∙◌, inl, inr, arith}
use mathlib.Core.Bool.{false≢true}
use native.Mathlib.Nat.{min_comm, min-le_left, min-le_right, min-eq_left, min-eq_right}
use Rattle.std.proofs.lemmas.Bool.{cases_lt}
use Rattle.signature.specs.declared.signature.Signature.{Signature}
use Rattle.grammar.proofs.Steps.{none_some, some_same}
use Rattle.formula.specs.Scans.{low, note}
use Rattle.formula.specs.Uses.{Use, misused, Listed, here, later, FirstMisused, NoneMisused}

min_swap : (r p q : ℕ) → min (min r p) q ≡ min (min r q) p
min_swap r p q = least (min (min r p) q) (min (min r q) p) (below r p q) (below r q p) (which r p q) (which r q p)
  where
    below : (r p q : ℕ) → (min (min r p) q ≤ r) × (min (min r p) q ≤ p) × (min (min r p) q ≤ q)
    below r p q =
        let a = min-le_left (min r p) q in
        let b = min-le_left r p in
        let c = min-le_right r p in
        (omega arith, omega arith, min-le_right (min r p) q)

    one : (a b : ℕ) → (min a b ≡ a) ⊎ (min a b ≡ b)
    one a b = by (cases_lt a b)
      where
        by : (a < b) ⊎ (b ≤ a) → (min a b ≡ a) ⊎ (min a b ≡ b)
        by (inl h) = let k : a ≤ b = omega arith in inl (min-eq_left k)
        by (inr h) = inr (min-eq_right h)

    which : (r p q : ℕ) → (min (min r p) q ≡ r) ⊎ ((min (min r p) q ≡ p) ⊎ (min (min r p) q ≡ q))
    which r p q = outer (one (min r p) q) (one r p)
      where
        outer : (min (min r p) q ≡ min r p) ⊎ (min (min r p) q ≡ q) → (min r p ≡ r) ⊎ (min r p ≡ p) → (min (min r p) q ≡ r) ⊎ ((min (min r p) q ≡ p) ⊎ (min (min r p) q ≡ q))
        outer (inl e) (inl f) = inl (e ∙ f)
        outer (inl e) (inr f) = inr (inl (e ∙ f))
        outer (inr e) f = inr (inr e)

    least : (x y : ℕ) → (x ≤ r) × (x ≤ p) × (x ≤ q) → (y ≤ r) × (y ≤ q) × (y ≤ p) → (x ≡ r) ⊎ ((x ≡ p) ⊎ (x ≡ q)) → (y ≡ r) ⊎ ((y ≡ q) ⊎ (y ≡ p)) → x ≡ y
    least x y a b (inl e) (inl f) = omega arith
    least x y a b (inl e) (inr (inl f)) = omega arith
    least x y a b (inl e) (inr (inr f)) = omega arith
    least x y a b (inr (inl e)) (inl f) = omega arith
    least x y a b (inr (inl e)) (inr (inl f)) = omega arith
    least x y a b (inr (inl e)) (inr (inr f)) = omega arith
    least x y a b (inr (inr e)) (inl f) = omega arith
    least x y a b (inr (inr e)) (inr (inl f)) = omega arith
    least x y a b (inr (inr e)) (inr (inr f)) = omega arith

low_swap : (b : Option ℕ) (p q : ℕ) → low (low b p) q ≡ low (low b q) p
low_swap None p q = ap Some (min_comm p q)
low_swap (Some r) p q = ap Some (min_swap r p q)

note_swap : (x y : Bool) (b : Option ℕ) (p q : ℕ) → note x (note y b q) p ≡ note y (note x b p) q
note_swap true y b p q = refl
note_swap false true b p q = refl
note_swap false false b p q = low_swap b q p

-- the lowest place noted over the uses of symbols
abbrev pub misuse : Signature → List Use → Option ℕ → Option ℕ
misuse s [] b = b
misuse s (u ∷ us) b = misuse s us (note (not (misused s u)) b u.word.place)

pub misuse_note : (s : Signature) (us : List Use) (x : Bool) (b : Option ℕ) (p : ℕ) → misuse s us (note x b p) ≡ note x (misuse s us b) p
misuse_note s [] x b p = refl
misuse_note s (u ∷ us) x b p = ap (misuse s us) (note_swap (not (misused s u)) x b u.word.place p) ∙ misuse_note s us x (note (not (misused s u)) b u.word.place) p

pub misuse_append : (s : Signature) (us vs : List Use) (b : Option ℕ) → misuse s (us ++ vs) b ≡ misuse s vs (misuse s us b)
misuse_append s [] vs b = refl
misuse_append s (u ∷ us) vs b = misuse_append s us vs (note (not (misused s u)) b u.word.place)

-- what is noted is a place of a misused symbol, or was noted before; and nothing lower is
abbrev Under : Option ℕ → ℕ → Type 0
Under o p = (q : ℕ) × (o ≡ Some q) × (q ≤ p)

record Lowest (s : Signature) (us : List Use) (b o : Option ℕ) : Type 0 where
  some : (p : ℕ) → o ≡ Some p → (b ≡ Some p) ⊎ ((u : Use) × Listed u us × (misused s u ≡ true) × (u.word.place ≡ p))
  before : (q : ℕ) → b ≡ Some q → Under o q
  all : (u : Use) → Listed u us → misused s u ≡ true → Under o u.word.place

low_some : (b : Option ℕ) (p q : ℕ) → low b p ≡ Some q → (b ≡ Some q) ⊎ (p ≡ q)
low_some None p q e = inr (some_same e)
low_some (Some r) p q e = by (cases_lt r p)
  where
    same : min r p ≡ q
    same = some_same e

    by : (r < p) ⊎ (p ≤ r) → (Some r ≡ Some q) ⊎ (p ≡ q)
    by (inl h) = let k : r ≤ p = omega arith in inl (ap Some (sym (min-eq_left k) ∙ same))
    by (inr h) = inr (sym (min-eq_right h) ∙ same)

low_before : (b : Option ℕ) (p q : ℕ) → b ≡ Some q → Under (low b p) q
low_before None p q e = none_some e
low_before (Some r) p q e = (min r p, refl, rank)
  where
    same : r ≡ q
    same = some_same e

    rank : min r p ≤ q
    rank = omega (arith, min-le_left r p, same)

low_here : (b : Option ℕ) (p : ℕ) → Under (low b p) p
low_here None p = (p, refl, omega arith)
low_here (Some r) p = (min r p, refl, min-le_right r p)

module _ (s : Signature) (v : Use) (us : List Use) (b : Option ℕ) where
  listed : {P : Use → Type 0} → P v → ((u : Use) → Listed u us → P u) → (u : Use) → Listed u (v ∷ us) → P u
  listed h t u here = h
  listed h t u (later l) = t u l

  right_more : misused s v ≡ false → (o : Option ℕ) → Lowest s us b o → Lowest s (v ∷ us) b o
  right_more fine o r = record {
    some = λ p e. by p (r.some p e);
    before = r.before;
    all = listed {P = λ u. misused s u ≡ true → Under o u.word.place} (λ bad. absurd (false≢true (sym fine ∙ bad))) r.all;
  }
    where
      by : (p : ℕ) → (b ≡ Some p) ⊎ ((u : Use) × Listed u us × (misused s u ≡ true) × (u.word.place ≡ p)) → (b ≡ Some p) ⊎ ((u : Use) × Listed u (v ∷ us) × (misused s u ≡ true) × (u.word.place ≡ p))
      by p (inl e) = inl e
      by p (inr (u, l, m, e)) = inr (u, later l, m, e)

  wrong_more : misused s v ≡ true → (o : Option ℕ) → Lowest s us (low b v.word.place) o → Lowest s (v ∷ us) b o
  wrong_more bad o r = record {
    some = λ p e. by p (r.some p e);
    before = λ q e. through (low_before b v.word.place q e);
    all = listed {P = λ u. misused s u ≡ true → Under o u.word.place} (λ _. through (low_here b v.word.place)) r.all;
  }
    where
      through : {q : ℕ} → Under (low b v.word.place) q → Under o q
      through (m, e, h) = let k = r.before m e in (k.0, k.1, omega (arith, k.2))

      split : (p : ℕ) → (b ≡ Some p) ⊎ (v.word.place ≡ p) → (b ≡ Some p) ⊎ ((u : Use) × Listed u (v ∷ us) × (misused s u ≡ true) × (u.word.place ≡ p))
      split p (inl e) = inl e
      split p (inr e) = inr (v, here, bad, e)

      by : (p : ℕ) → (low b v.word.place ≡ Some p) ⊎ ((u : Use) × Listed u us × (misused s u ≡ true) × (u.word.place ≡ p)) → (b ≡ Some p) ⊎ ((u : Use) × Listed u (v ∷ us) × (misused s u ≡ true) × (u.word.place ≡ p))
      by p (inl e) = split p (low_some b v.word.place p e)
      by p (inr (u, l, m, e)) = inr (u, later l, m, e)

none_listed : {u : Use} → Listed u [] → ⊥
none_listed l = elim l [ ]

lowest : (s : Signature) (us : List Use) (b : Option ℕ) → Lowest s us b (misuse s us b)
lowest s [] b = record { some = λ p e. inl e; before = λ q e. (q, e, omega arith); all = λ u l. absurd (none_listed l) }
lowest s (u ∷ us) b = by (misused s u) refl (λ c. lowest s us c)
  where
    by : (t : Bool) → misused s u ≡ t → ((c : Option ℕ) → Lowest s us c (misuse s us c)) → Lowest s (u ∷ us) b (misuse s (u ∷ us) b)
    by true e rest = rw e (wrong_more s u us b e (misuse s us (low b u.word.place)) (rest (low b u.word.place)))
    by false e rest = rw e (right_more s u us b e (misuse s us b) (rest b))

pub first_misused : (s : Signature) (us : List Use) (p : ℕ) → misuse s us None ≡ Some p → FirstMisused s us p
first_misused s us p e = by (l.some p e)
  where
    l : Lowest s us None (misuse s us None)
    l = lowest s us None

    by : (None ≡ Some p) ⊎ ((u : Use) × Listed u us × (misused s u ≡ true) × (u.word.place ≡ p)) → FirstMisused s us p
    by (inl n) = none_some n
    by (inr (u, among, bad, place)) = record {
      culprit = u;
      among = among;
      bad = bad;
      place = place;
      first = λ v lv bv. let k = l.all v lv bv in let same = some_same (sym e ∙ k.1) in omega (arith, k.2, same);
    }

pub none_misused : (s : Signature) (us : List Use) → misuse s us None ≡ None → NoneMisused s us
none_misused s us e u l = by (misused s u) refl
  where
    by : (t : Bool) → misused s u ≡ t → misused s u ≡ false
    by true b = let k = (lowest s us None).all u l b in none_some (sym e ∙ k.1)
    by false b = b
