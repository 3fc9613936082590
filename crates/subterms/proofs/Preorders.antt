-- A row that reads as terms is their preorder, and reads as no other terms.
use Rattle.std.proofs.Common.{◌≡◌, ℕ, zero, suc, ◌+◌, ◌-◌, ◌<◌, ◌≤◌, true, List, [], ◌∷◌, ◌++◌, length, is_some, Some, None, Option, sym, refl, ap, ◌∙◌, ap₂, append_assoc, append-nil, arith}
use mathlib.Core.Bool.{false≢true}
use Rattle.std.proofs.lemmas.List.{length-append}
use Rattle.terms.specs.Term.{Term, Terms, var, app, nil, ◌▹◌, width, cells, cellss}
use Rattle.terms.specs.Preorder.{split, headed, in_front, row, alone, decode, Whole, preorder, preorders}
use Rattle.terms.specs.declared.pattern.Node.{Node}
use Rattle.terms.specs.declared.pattern.Node.TheVariants.{Var, App}

-- the first k of some terms, and the others
abbrev pub first : ℕ → Terms → Terms
first zero ts = nil
first (suc k) nil = nil
first (suc k) (t ▹ ts) = t ▹ first k ts

abbrev pub rest : ℕ → Terms → Terms
rest zero ts = ts
rest (suc k) nil = nil
rest (suc k) (t ▹ ts) = rest k ts

pub width_first : (k : ℕ) (ts : Terms) → k ≤ width ts → width (first k ts) ≡ k
width_first zero ts h = refl
width_first (suc k) nil h = absurd (omega arith)
width_first (suc k) (t ▹ ts) h = ap suc (width_first k ts (omega arith))

pub width_rest : (k : ℕ) (ts : Terms) → k ≤ width ts → width (rest k ts) + k ≡ width ts
width_rest zero ts h = omega arith
width_rest (suc k) nil h = absurd (omega arith)
width_rest (suc k) (t ▹ ts) h = let p = width_rest k ts (omega arith) in omega arith

pub rest_cons : (k : ℕ) (t : Term) (ts : Terms) → 0 < k → rest k (t ▹ ts) ≡ rest (k - 1) ts
rest_cons zero t ts h = absurd (omega arith)
rest_cons (suc k) t ts h = let e : k ≡ suc k - 1 = omega arith in ap (λ n. rest n ts) e

pub first_cons : (k : ℕ) (t : Term) (ts : Terms) → 0 < k → first k (t ▹ ts) ≡ t ▹ first (k - 1) ts
first_cons zero t ts h = absurd (omega arith)
first_cons (suc k) t ts h = let e : k ≡ suc k - 1 = omega arith in ap (λ n. t ▹ first n ts) e

pub rest_rest : (j k : ℕ) (ts : Terms) → rest j (rest k ts) ≡ rest (j + k) ts
rest_rest j zero ts = ap (λ n. rest n ts) (omega arith)
rest_rest j (suc k) nil = rest_nil j ∙ ap (λ n. rest n nil) (let e : suc (j + k) ≡ j + suc k = omega arith in e)
  where
    rest_nil : (n : ℕ) → rest n nil ≡ nil
    rest_nil zero = refl
    rest_nil (suc n) = refl
rest_rest j (suc k) (t ▹ ts) = rest_rest j k ts ∙ ap (λ n. rest n (t ▹ ts)) (let e : suc (j + k) ≡ j + suc k = omega arith in e)

some_inj : {A : Type 0} {x y : A} → Some x ≡ Some y → x ≡ y
some_inj e = cc

none≢some : {A : Type 0} {x : A} → ¬ (None ≡ Some x)
none≢some e = let z : ◌≡◌ {A = ℕ} 0 1 = cc in omega arith

split_first : (k : ℕ) (ts : Terms) → k ≤ width ts → split k ts ≡ Some (first k ts, rest k ts)
split_first zero ts h = refl
split_first (suc k) nil h = absurd (omega arith)
split_first (suc k) (t ▹ ts) h = rw (split_first k ts (omega arith))

split_wide : (k : ℕ) (ts : Terms) (p : Terms × Terms) → split k ts ≡ Some p → k ≤ width ts
split_wide zero ts p e = omega arith
split_wide (suc k) nil p e = absurd (none≢some e)
split_wide (suc k) (t ▹ ts) p e = by (split k ts) (split_wide k ts) e
  where
    by : (o : Option (Terms × Terms)) → ((q : Terms × Terms) → o ≡ Some q → k ≤ width ts) → elim o as (λ _. Option (Terms × Terms)) [ None ↦ None | Some q ↦ Some (t ▹ q.0, q.1) ] ≡ Some p → suc k ≤ suc (width ts)
    by None q h = absurd (none≢some h)
    by (Some u) q h = let w = q u refl in omega arith

-- what stands behind a node that reads
pub record Behind (n : Node) (o : Option Terms) (ts : Terms) : Type 0 where
  pub terms : Terms
  pub is : o ≡ Some terms
  pub read : in_front n (Some terms) ≡ Some ts

pub behind : (n : Node) (o : Option Terms) (ts : Terms) → in_front n o ≡ Some ts → Behind n o ts
behind n None ts e = absurd (none≢some e)
behind n (Some us) ts e = record { terms = us; is = refl; read = e }

pub read_var : (x : ℕ) (us ts : Terms) → in_front (Var x) (Some us) ≡ Some ts → ts ≡ var x ▹ us
read_var x us ts e = sym (some_inj e)

pub read_wide : (f a : ℕ) (us ts : Terms) → in_front (App f a) (Some us) ≡ Some ts → a ≤ width us
read_wide f a us ts e = by (split a us) refl e
  where
    by : (o : Option (Terms × Terms)) → split a us ≡ o → headed f o ≡ Some ts → a ≤ width us
    by None q h = absurd (none≢some h)
    by (Some p) q h = split_wide a us p q

pub read_app : (f a : ℕ) (us ts : Terms) → in_front (App f a) (Some us) ≡ Some ts → ts ≡ app f (first a us) ▹ rest a us
read_app f a us ts e = sym (some_inj (sym (ap (headed f) (split_first a us (read_wide f a us ts e))) ∙ e))

preorders_parts : (k : ℕ) (ts : Terms) → preorders (first k ts) ++ preorders (rest k ts) ≡ preorders ts
preorders_parts zero ts = refl
preorders_parts (suc k) nil = refl
preorders_parts (suc k) (t ▹ ts) = append_assoc (preorder t) (preorders (first k ts)) (preorders (rest k ts)) ∙ ap (λ ns. preorder t ++ ns) (preorders_parts k ts)

front_preorders : (n : Node) (us ts : Terms) → in_front n (Some us) ≡ Some ts → preorders ts ≡ n ∷ preorders us
front_preorders (Var x) us ts e = ap preorders (read_var x us ts e)
front_preorders (App f a) us ts e =
    let w = width_first a us (read_wide f a us ts e) in
    ap preorders (read_app f a us ts e) ∙ ap₂ (λ m ns. App f m ∷ ns) w (preorders_parts a us)

pub row_is : (ns : List Node) (ts : Terms) → row ns ≡ Some ts → preorders ts ≡ ns
row_is [] ts e = ap preorders (sym (some_inj e))
row_is (n ∷ ns) ts e =
    let b = behind n (row ns) ts e in
    front_preorders n b.terms ts b.read ∙ ap (λ ms. n ∷ ms) (row_is ns b.terms b.is)

-- the preorder of terms reads as them
append : Terms → Terms → Terms
append nil us = us
append (t ▹ ts) us = t ▹ append ts us

append_none : (ts : Terms) → append ts nil ≡ ts
unfolding append
append_none nil = refl
append_none (t ▹ ts) = ap (λ us. t ▹ us) (append_none ts)

split_append : (ts us : Terms) → split (width ts) (append ts us) ≡ Some (ts, us)
unfolding append
split_append nil us = refl
split_append (t ▹ ts) us = rw (split_append ts us)

mutual
  unfolding append

  row_preorder : (t : Term) (ns : List Node) (us : Terms) → row ns ≡ Some us → row (preorder t ++ ns) ≡ Some (t ▹ us)
  row_preorder (var x) ns us e = rw e
  row_preorder (app f ts) ns us e = rw (row_preorders ts ns us e, split_append ts us)

  row_preorders : (ts : Terms) (ns : List Node) (us : Terms) → row ns ≡ Some us → row (preorders ts ++ ns) ≡ Some (append ts us)
  row_preorders nil ns us e = e
  row_preorders (t ▹ ts) ns us e = rw (append_assoc (preorder t) (preorders ts) ns) (row_preorder t (preorders ts ++ ns) (append ts us) (row_preorders ts ns us e))

pub row_of_preorders : (ts : Terms) → row (preorders ts) ≡ Some ts
row_of_preorders ts = ap row (sym (append-nil (preorders ts))) ∙ row_preorders ts [] nil refl ∙ ap Some (append_none ts)

mutual
  pub length_preorder : (t : Term) → length (preorder t) ≡ cells t
  length_preorder (var x) = refl
  length_preorder (app f ts) = ap suc (length_preorders ts)

  length_preorders : (ts : Terms) → length (preorders ts) ≡ cellss ts
  length_preorders nil = refl
  length_preorders (t ▹ ts) = length-append (preorder t) (preorders ts) ∙ ap₂ ◌+◌ (length_preorder t) (length_preorders ts)

pub cells_some : (t : Term) → 1 ≤ cells t
cells_some (var x) = omega arith
cells_some (app f ts) = omega arith

pub width_cells : (ts : Terms) → width ts ≤ length (preorders ts)
width_cells nil = omega arith
width_cells (t ▹ ts) = omega (arith, width_cells ts, length-append (preorder t) (preorders ts), length_preorder t, cells_some t)

pub whole_row : (ns : List Node) → Whole ns → (t : Term) × (row ns ≡ Some (t ▹ nil)) × (decode ns ≡ Some t)
whole_row ns w = by (row ns) refl w
  where
    by : (o : Option Terms) → row ns ≡ o → is_some (alone o) ≡ true → (t : Term) × (row ns ≡ Some (t ▹ nil)) × (alone (row ns) ≡ Some t)
    by None e h = absurd (false≢true h)
    by (Some nil) e h = absurd (false≢true h)
    by (Some (t ▹ nil)) e h = (t, e, ap alone e)
    by (Some (t ▹ (u ▹ us))) e h = absurd (false≢true h)
