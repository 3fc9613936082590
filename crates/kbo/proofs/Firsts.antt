-- The first arguments of two terms that differ, by their places.
use Rattle.std.proofs.Common.{◌≡◌, ℕ, zero, suc, ◌<◌, List, [], ◌∷◌, length, get_or, Option, Some, None, MatchOption, refl, sym, ap, ◌∙◌, subst, arith}
use Rattle.std.specs.List.{zip, HoldsAt, AllWithin}
use Rattle.std.proofs.lemmas.Slice.Zip.{get_or-zip, length-zip}
use Rattle.terms.specs.Term.{width}
use Rattle.terms.specs.declared.pattern.Node.{Node}
use Rattle.rewriting.specs.Kbo.{Kbo, KboLex}
use Rattle.rewriting.specs.Replace.{args}
use Rattle.rewriting.proofs.KboCases.{skip, unskip, differ, decided, lex_none, lex_width}
use Rattle.subterms.specs.Places.{at}
use Rattle.subterms.specs.Rows.{row_of, at_all, ArgumentsAt}
use Rattle.subterms.specs.declared.Subterms.{Subterms}
use Rattle.kbo.specs.Differences.{First}

module _ (ms ns : List Node) where
  width_all : (is : List ℕ) → width (at_all ms is) ≡ length is
  width_all [] = refl
  width_all (i ∷ is) = ap suc (width_all is)

  none_differ : (w : ℕ → ℕ) (is js : List ℕ) → ((k : ℕ) → k < length is → k < length js → at ms (get_or is k 0) ≡ at ns (get_or js k 0)) → KboLex w (at_all ms is) (at_all ns js) → ⊥
  none_differ w [] js same h = lex_none w h
  none_differ w (i ∷ is) [] same h = absurd (omega (arith, lex_width w h))
  none_differ w (i ∷ is) (j ∷ js) same h = none_differ w is js (λ k l m. same (suc k) (omega arith) (omega arith)) (skip w (at_all ms (i ∷ is)) (at_all ns (j ∷ js)) _ _ _ _ refl refl (same 0 (omega arith) (omega arith)) h)

  -- the subterms at i and j decide what those at is and js say
  record Decide (is js : List ℕ) (i j : ℕ) : Type 0 where
    pub down : (w : ℕ → ℕ) → KboLex w (at_all ms is) (at_all ns js) → Kbo w (at ms i) (at ns j)
    pub up : (w : ℕ → ℕ) → Kbo w (at ms i) (at ns j) → KboLex w (at_all ms is) (at_all ns js)

  one_differs : (is js : List ℕ) (k : ℕ) → width (at_all ms is) ≡ width (at_all ns js) → k < length is → k < length js → ((m : ℕ) → m < k → at ms (get_or is m 0) ≡ at ns (get_or js m 0)) → (at ms (get_or is k 0) ≡ at ns (get_or js k 0) → ⊥) → Decide is js (get_or is k 0) (get_or js k 0)
  one_differs [] js k e l m same apart = absurd (omega arith)
  one_differs (i ∷ is) [] k e l m same apart = absurd (omega arith)
  one_differs (i ∷ is) (j ∷ js) zero e l m same apart = record {
    down = λ w h. differ w (at_all ms (i ∷ is)) (at_all ns (j ∷ js)) _ _ _ _ refl refl apart h;
    up = λ w h. decided w (at_all ms (i ∷ is)) (at_all ns (j ∷ js)) _ _ _ _ refl refl (omega arith) h;
  }
  one_differs (i ∷ is) (j ∷ js) (suc k) e l m same apart =
      let d = one_differs is js k (omega arith) (omega arith) (omega arith) (λ n h. same (suc n) (omega arith)) apart in
      let here = same 0 (omega arith) in
      record {
        down = λ w h. d.down w (skip w (at_all ms (i ∷ is)) (at_all ns (j ∷ js)) _ _ _ _ refl refl here h);
        up = λ w h. unskip w (at_all ms (i ∷ is)) (at_all ns (j ∷ js)) _ _ _ _ refl refl here (d.up w h);
      }

module _ (s t : Subterms) where
  abbrev pub Same : ℕ × ℕ → Type 0
  Same d = (d.0 < length (row_of s)) × (d.1 < length (row_of t)) × (at (row_of s) d.0 ≡ at (row_of t) d.1)

  -- what is found among the pairs of places
  module _ (p q : ℕ) (is js : List ℕ) (a : ArgumentsAt (row_of s) p is) (b : ArgumentsAt (row_of t) q js) (even : width (args (at (row_of s) p)) ≡ width (args (at (row_of t) q))) where
    pub found : (r : Option (ℕ × ℕ)) → MatchOption r (AllWithin Same (zip is js) 0 (length (zip is js))) (λ d. (Same d → ⊥) × (k : ℕ) × (k < length (zip is js)) × HoldsAt (λ e. e ≡ d) (zip is js) k × AllWithin Same (zip is js) 0 k) → MatchOption r ((w : ℕ → ℕ) → KboLex w (args (at (row_of s) p)) (args (at (row_of t) q)) → ⊥) (λ d. First s p t q d.0 d.1)
    found None h = λ w l.
        none_differ (row_of s) (row_of t) w is js (λ k x y. (subst Same (get_or-zip is js k (0, 0) x y) (h k (0, 0) (omega arith) (omega (arith, length-zip is js)))).2) (rw (a.terms, b.terms) l)
    found (Some d) h =
        let k = h.1 in
        let x : k < length is = omega (arith, h.2, length-zip is js) in
        let y : k < length js = omega (arith, h.2, length-zip is js) in
        let is_pair : (get_or is k 0, get_or js k 0) ≡ d = sym (get_or-zip is js k (0, 0) x y) ∙ h.3 (0, 0) in
        let e : width (at_all (row_of s) is) ≡ width (at_all (row_of t) js) = ap width a.terms ∙ even ∙ sym (ap width b.terms) in
        let in-s = a.behind k 0 x in
        let in-t = b.behind k 0 y in
        let one = one_differs (row_of s) (row_of t) is js k e x y (λ m l. (subst Same (get_or-zip is js m (0, 0) (omega arith) (omega arith)) (h.4 m (0, 0) (omega arith) l)).2) (λ z. h.0 (subst Same is_pair (in-s.1, in-t.1, z))) in
        subst (λ (c : ℕ × ℕ). First s p t q c.0 c.1) is_pair record {
          under = in-s.0;
          inside = in-s.1;
          inside' = in-t.1;
          down = λ w l. one.down w (rw (a.terms, b.terms) l);
          up = λ w l. rw (← a.terms, ← b.terms) (one.up w l);
        }
