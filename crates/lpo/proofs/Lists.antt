-- What is seen of the arguments of two terms, by their places.
use Rattle.std.proofs.Common.{◌≡◌, ℕ, zero, suc, ◌<◌, List, [], ◌∷◌, length, get_or, ◌⊎◌, inl, inr, refl, ap₂, subst, arith}
use Rattle.terms.specs.Term.{Term, ◌▹◌, width, cons_tail, cons_head}
use Rattle.terms.specs.declared.pattern.Node.{Node}
use Rattle.rewriting.specs.Lpo.{Lpo, LpoSome, LpoAll}
use Rattle.rewriting.proofs.LpoCases.{irreflexive, some_none, some_equal, some_above, some_later, some_skip, all_more, all_has, all_rest, skip, unskip, differ, decided}
use Rattle.subterms.specs.Places.{at}
use Rattle.subterms.specs.Rows.{at_all}
use Rattle.lpo.specs.Seen.{Says, SaysLex}
use Rattle.lpo.specs.declared.sides.Compared.{Compared}
use Rattle.lpo.specs.declared.sides.Compared.TheVariants.{Above, Equal, Neither}

-- what an answer says of two terms
module _ (s t : Term) where
  pub told_some : (r : Compared) → Says r s t → (r ≡ Neither → ⊥) → Lpo s t ⊎ (s ≡ t)
  told_some Above h n = inl h
  told_some Equal h n = inr h
  told_some Neither h n = absurd (n refl)

  pub told_none : (r : Compared) → Says r s t → r ≡ Neither → (Lpo s t → ⊥) × (s ≡ t → ⊥)
  told_none r h e = subst (λ x. Says x s t) e h

  pub told_equal : (r : Compared) → Says r s t → r ≡ Equal → s ≡ t
  told_equal r h e = subst (λ x. Says x s t) e h

  pub told_above : (r : Compared) → Says r s t → r ≡ Above → Lpo s t
  told_above r h e = subst (λ x. Says x s t) e h

  pub above_told : (r : Compared) → Says r s t → Lpo s t → r ≡ Above
  above_told Above h l = refl
  above_told Equal h l = absurd (irreflexive t (subst (λ u. Lpo u t) h l))
  above_told Neither h l = absurd (h.0 l)

module _ (ms : List Node) where
  pub some_at : (t : Term) (is : List ℕ) (k : ℕ) → k < length is → Lpo (at ms (get_or is k 0)) t ⊎ (at ms (get_or is k 0) ≡ t) → LpoSome (at_all ms is) t
  some_at t [] k l h = absurd (omega arith)
  some_at t (i ∷ is) zero l (inl h) = some_above t (at_all ms (i ∷ is)) _ _ refl h
  some_at t (i ∷ is) zero l (inr h) = some_equal t (at_all ms (i ∷ is)) _ _ refl h
  some_at t (i ∷ is) (suc k) l h = some_later t (at_all ms (i ∷ is)) _ _ refl (some_at t is k (omega arith) h)

  pub some_nowhere : (t : Term) (is : List ℕ) → ((k : ℕ) → k < length is → (Lpo (at ms (get_or is k 0)) t → ⊥) × (at ms (get_or is k 0) ≡ t → ⊥)) → LpoSome (at_all ms is) t → ⊥
  some_nowhere t [] n h = some_none t h
  some_nowhere t (i ∷ is) n h =
      let here = n 0 (omega arith) in
      some_nowhere t is (λ k l. n (suc k) (omega arith)) (some_skip t (at_all ms (i ∷ is)) _ _ refl here.0 here.1 h)

  pub all_at : (s : Term) (is : List ℕ) → ((k : ℕ) → k < length is → Lpo s (at ms (get_or is k 0))) → LpoAll s (at_all ms is)
  all_at s [] h = LpoAll.none
  all_at s (i ∷ is) h = all_more s (at_all ms (i ∷ is)) _ _ refl (h 0 (omega arith)) (all_at s is (λ k l. h (suc k) (omega arith)))

  pub each_at : (s : Term) (is : List ℕ) → LpoAll s (at_all ms is) → (k : ℕ) → k < length is → Lpo s (at ms (get_or is k 0))
  each_at s [] h k l = absurd (omega arith)
  each_at s (i ∷ is) h zero l = all_has s (at_all ms (i ∷ is)) _ _ refl h
  each_at s (i ∷ is) h (suc k) l = each_at s is (all_rest s (at_all ms (i ∷ is)) _ _ refl h) k (omega arith)

-- the first arguments that differ decide
module _ (ms ns : List Node) where
  pub all_same : (is js : List ℕ) → width (at_all ms is) ≡ width (at_all ns js) → ((k : ℕ) → k < length is → k < length js → at ms (get_or is k 0) ≡ at ns (get_or js k 0)) → at_all ms is ≡ at_all ns js
  all_same [] [] e same = refl
  all_same [] (j ∷ js) e same = absurd (omega arith)
  all_same (i ∷ is) [] e same = absurd (omega arith)
  all_same (i ∷ is) (j ∷ js) e same = ap₂ ◌▹◌ (same 0 (omega arith) (omega arith)) (all_same is js (omega arith) (λ k l m. same (suc k) (omega arith) (omega arith)))

  later : (r : Compared) (i j : ℕ) (is js : List ℕ) → at ms i ≡ at ns j → SaysLex r (at_all ms is) (at_all ns js) → SaysLex r (at_all ms (i ∷ is)) (at_all ns (j ∷ js))
  later Above i j is js e h = unskip (at_all ms (i ∷ is)) (at_all ns (j ∷ js)) _ _ _ _ refl refl e h
  later Equal i j is js e h = ap₂ ◌▹◌ e h
  later Neither i j is js e h = (λ l. h.0 (skip (at_all ms (i ∷ is)) (at_all ns (j ∷ js)) _ _ _ _ refl refl e l), λ l. h.1 (cons_tail l))

  here : (r : Compared) (i j : ℕ) (is js : List ℕ) → width (at_all ms is) ≡ width (at_all ns js) → Says r (at ms i) (at ns j) → (r ≡ Equal → ⊥) → SaysLex r (at_all ms (i ∷ is)) (at_all ns (j ∷ js))
  here Above i j is js e h n = decided (at_all ms (i ∷ is)) (at_all ns (j ∷ js)) _ _ _ _ refl refl e h
  here Equal i j is js e h n = absurd (n refl)
  here Neither i j is js e h n = (λ l. h.0 (differ (at_all ms (i ∷ is)) (at_all ns (j ∷ js)) _ _ _ _ refl refl h.1 l), λ l. h.1 (cons_head l))

  pub first_says : (r : Compared) (is js : List ℕ) (k : ℕ) → width (at_all ms is) ≡ width (at_all ns js) → k < length is → k < length js → ((m : ℕ) → m < k → at ms (get_or is m 0) ≡ at ns (get_or js m 0)) → Says r (at ms (get_or is k 0)) (at ns (get_or js k 0)) → (r ≡ Equal → ⊥) → SaysLex r (at_all ms is) (at_all ns js)
  first_says r [] js k e l m same h n = absurd (omega arith)
  first_says r (i ∷ is) [] k e l m same h n = absurd (omega arith)
  first_says r (i ∷ is) (j ∷ js) zero e l m same h n = here r i j is js (omega arith) h n
  first_says r (i ∷ is) (j ∷ js) (suc k) e l m same h n = later r i j is js (same 0 (omega arith)) (first_says r is js k (omega arith) (omega arith) (omega arith) (λ x y. same (suc x) (omega arith)) h n)
