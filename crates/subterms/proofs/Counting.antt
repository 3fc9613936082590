-- Counting the variables of a row, and of the term that it is the preorder of.
use Rattle.std.proofs.Common.{◌≡◌, ℕ, ◌+◌, ◌<◌, ◌≤◌, Bool, true, false, eqb, filter, List, [], ◌∷◌, ◌++◌, length, Decides, sym, refl, ap, ◌∙◌, ap₂, arith}
use native.Mathlib.Decide.{ℕ_discrete, dec_lt}
use Rattle.std.proofs.lemmas.Bool.{and_parts, and_from, leb-true, le-leb, eq-eqb, ne_eqb}
use Rattle.std.proofs.lemmas.Bool.Decides.{Decides-like}
use Rattle.terms.specs.Term.{Term, Terms, var, app, nil, ◌▹◌}
use Rattle.terms.specs.Preorder.{preorder, preorders}
use Rattle.terms.specs.declared.pattern.Node.{Node}
use Rattle.terms.specs.declared.pattern.Node.TheVariants.{Var, App}
use Rattle.rewriting.specs.Count.{count, counts, Covers}
use Rattle.subterms.specs.Variables.{occurs_in, occurring, covered, every, CoversRow}

once : (x : ℕ) (n : Node) → occurs_in x n ≤ 1
once x (Var y) = by (ℕ_discrete x y)
  where
    by : (d : Dec (x ≡ y)) → elim d as (λ _. ℕ) [ yes e ↦ 1 | no h ↦ 0 ] ≤ 1
    by (yes e) = omega arith
    by (no h) = omega arith
once x (App f a) = omega arith

abbrev pub is_var : ℕ → Node → Bool
is_var x (Var y) = eqb y x
is_var x (App f a) = false

-- how often the variable stands in the row, as a count of the nodes that are it
pub occurring_filter : (x : ℕ) (ns : List Node) → length (filter (is_var x) ns) ≡ occurring x ns
occurring_filter x [] = refl
occurring_filter x (Var y ∷ ns) = by (ℕ_discrete x y) (occurring_filter x ns)
  where
    by : (d : Dec (x ≡ y)) → length (filter (is_var x) ns) ≡ occurring x ns → length (filter (is_var x) (Var y ∷ ns)) ≡ elim d as (λ _. ℕ) [ yes e ↦ 1 | no h ↦ 0 ] + occurring x ns
    by (yes e) h = rw (eq-eqb y x (sym e)) (omega arith)
    by (no n) h = rw (ne_eqb y x (λ e. n (sym e))) (omega arith)
occurring_filter x (App f a ∷ ns) = let h = occurring_filter x ns in omega arith

pub occurring_most : (x : ℕ) (ns : List Node) → occurring x ns ≤ length ns
occurring_most x [] = omega arith
occurring_most x (n ∷ ns) = omega (arith, once x n, occurring_most x ns)

occurring_append : (x : ℕ) (ms ns : List Node) → occurring x (ms ++ ns) ≡ occurring x ms + occurring x ns
occurring_append x [] ns = omega arith
occurring_append x (m ∷ ms) ns = let e = occurring_append x ms ns in omega arith

mutual
  pub occurring_preorder : (x : ℕ) (t : Term) → occurring x (preorder t) ≡ count x t
  occurring_preorder x (var y) = omega arith
  occurring_preorder x (app f ts) = let e = occurring_preorders x ts in omega arith

  occurring_preorders : (x : ℕ) (ts : Terms) → occurring x (preorders ts) ≡ counts x ts
  occurring_preorders x nil = refl
  occurring_preorders x (t ▹ ts) = occurring_append x (preorder t) (preorders ts) ∙ ap₂ ◌+◌ (occurring_preorder x t) (occurring_preorders x ts)

-- a row covers another if their terms do
pub covers_preorder : (s t : Term) (ms ns : List Node) → ms ≡ preorder s → ns ≡ preorder t → (r : Bool) → Decides r (CoversRow ms ns) → Decides r (Covers s t)
covers_preorder s t ms ns es et r d =
    let down : (x : ℕ) → occurring x ms ≡ count x s = λ x. ap (occurring x) es ∙ occurring_preorder x s in
    let low : (x : ℕ) → occurring x ns ≡ count x t = λ x. ap (occurring x) et ∙ occurring_preorder x t in
    Decides-like r (λ h x. omega (arith, h x, down x, low x)) (λ h x. omega (arith, h x, down x, low x)) d

module _ (ms ns : List Node) where
  found : (x : ℕ) (n : Node) → covered ms ns n ≡ true → 1 ≤ occurs_in x n → occurring x ns ≤ occurring x ms
  found x (Var y) h k = by (ℕ_discrete x y) k
    where
      by : (d : Dec (x ≡ y)) → 1 ≤ elim d as (λ _. ℕ) [ yes e ↦ 1 | no h ↦ 0 ] → occurring x ns ≤ occurring x ms
      by (yes e) k = omega (arith, leb-true _ _ h, ap (λ z. occurring z ns) e, ap (λ z. occurring z ms) e)
      by (no e) k = absurd (omega arith)
  found x (App f a) h k = absurd (omega arith)

  all_found : (x : ℕ) (ks : List Node) → every (covered ms ns) ks ≡ true → 1 ≤ occurring x ks → occurring x ns ≤ occurring x ms
  all_found x [] h k = absurd (omega arith)
  all_found x (n ∷ ks) h k = by (dec_lt 0 (occurs_in x n)) (all_found x ks (and_parts _ _ h).1)
    where
      by : Dec (0 < occurs_in x n) → (1 ≤ occurring x ks → occurring x ns ≤ occurring x ms) → occurring x ns ≤ occurring x ms
      by (yes l) later = found x n (and_parts _ _ h).0 l
      by (no l) later = later (omega arith)

  each_covered : (n : Node) → CoversRow ms ns → covered ms ns n ≡ true
  each_covered (Var x) h = le-leb _ _ (h x)
  each_covered (App f a) h = refl

  all_covered : (ks : List Node) → CoversRow ms ns → every (covered ms ns) ks ≡ true
  all_covered [] h = refl
  all_covered (n ∷ ks) h = and_from _ _ (each_covered n h) (all_covered ks h)

  pub covers_decides : (r : Bool) → r ≡ every (covered ms ns) ns → Decides r (CoversRow ms ns)
  covers_decides r e = (λ h x. by x (dec_lt 0 (occurring x ns)) (sym e ∙ h), λ h. e ∙ all_covered ns h)
    where
      by : (x : ℕ) → Dec (0 < occurring x ns) → every (covered ms ns) ns ≡ true → occurring x ns ≤ occurring x ms
      by x (yes l) h = all_found x ns h l
      by x (no l) h = omega arith
