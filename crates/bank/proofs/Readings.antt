-- The terms of a bank's cells.
use Rattle.std.proofs.Common.{◌≡◌, ℕ, zero, suc, ◌<◌, ◌≤◌, List, [], ◌∷◌, ◌++◌, length, get_or, take, sym, refl, ap, ◌∙◌, subst, ap₂, inl, inr, arith, length-append}
use Rattle.std.proofs.lemmas.List.{same_lists, get_or-take, get_or_default, length-take-le, get_or_append_left}
use Rattle.std.proofs.lemmas.Bool.{cases_lt, cases_order}
use Rattle.terms.specs.Term.{Term, Terms, var, app, nil, ◌▹◌, width}
use Rattle.terms.specs.Sig.{Sig, Over, AllOver}
use Rattle.bank.specs.declared.cell.Cell.{Cell}
use Rattle.bank.specs.declared.cell.Cell.TheVariants.{Var, App}
use Rattle.bank.specs.Rules.{Slots, Node, Fitting, Rules}
use Rattle.bank.specs.Means.{Means, MeansAll, is_var, is_app, none, and, Laws}

pub clash : {c : Cell} {x f a : ℕ} {args : List ℕ} → c ≡ Var x → c ≡ App f a args → ⊥
clash p q = let z : ◌≡◌ {A = ℕ} 0 1 = cc in omega arith

pub means_within : {b : List Cell} {i : ℕ} {t : Term} → Means b i t → i < length b
means_within (is_var l e) = l
means_within (is_app l e h) = l

-- what a cell's term is, by the cell
pub open_var : {b : List Cell} {i x : ℕ} {t : Term} → Means b i t → get_or b i (Var 0) ≡ Var x → t ≡ var x
open_var {x = x} (is_var {x = y} l e) q = let z : y ≡ x = cc in ap var z
open_var (is_app l e h) q = absurd (clash q e)

pub record Opened (b : List Cell) (f : ℕ) (js : List ℕ) (t : Term) : Type 0 where
  pub terms : Terms
  pub means : MeansAll b js terms
  pub is : t ≡ app f terms

pub open_app : {b : List Cell} {i f a : ℕ} {args : List ℕ} {t : Term} → Means b i t → get_or b i (Var 0) ≡ App f a args → Opened b f (take a args) t
open_app (is_var l e) q = absurd (clash e q)
open_app {b = b} {f = f} {a = a} {args = args} (is_app {f = g} {a = m} {args = xs} {ts = ts} l e h) q =
    let p : g ≡ f = cc in
    let r : m ≡ a = cc in
    let s : xs ≡ args = cc in
    record { terms = ts; means = subst (λ ys. MeansAll b ys ts) (ap₂ take r s) h; is = ap (λ k. app k ts) p }

pub open_none : {b : List Cell} {is : List ℕ} {ts : Terms} → MeansAll b is ts → is ≡ [] → ts ≡ nil
open_none none e = refl
open_none (and h hs) e = let z : ◌≡◌ {A = ℕ} 0 1 = cc in absurd (let w : ⊥ = omega arith in w)

pub record OpenedArgs (b : List Cell) (i : ℕ) (is : List ℕ) (ts : Terms) : Type 0 where
  pub term : Term
  pub terms : Terms
  pub first : Means b i term
  pub more : MeansAll b is terms
  pub splits : ts ≡ term ▹ terms

pub open_args : {b : List Cell} {i : ℕ} {is js : List ℕ} {ts : Terms} → MeansAll b js ts → js ≡ i ∷ is → OpenedArgs b i is ts
open_args none e = let z : ◌≡◌ {A = ℕ} 0 1 = cc in absurd (let w : ⊥ = omega arith in w)
open_args {b = b} {i = i} {is = is} (and {i = j} {is = js} {t = t} {ts = ts} h hs) e =
    let p : j ≡ i = cc in
    let q : js ≡ is = cc in
    record { term = t; terms = ts; first = subst (λ k. Means b k t) p h; more = subst (λ ks. MeansAll b ks ts) q hs; splits = refl }

-- arguments that agree up to the arity agree as records
same_slots : {i j a : ℕ} (xs ys : List ℕ) → Slots i a xs → Slots j a ys → a ≤ 4 → take a xs ≡ take a ys → xs ≡ ys
same_slots {a = a} xs ys s t few e =
    same_lists xs ys (omega (arith, s.four, t.four)) (λ k d h.
    let h4 : k < 4 = omega (arith, s.four) in
    let hy : k < length ys = omega (arith, t.four) in
    get_or_default xs k d 0 h ∙ (elim (cases_lt k a) [
      | inl l ↦ sym (get_or-take a xs k 0 l) ∙ ap (λ zs. get_or zs k 0) e ∙ get_or-take a ys k 0 l
      | inr g ↦ (s.each k h4).1 g ∙ sym ((t.each k h4).1 g)
    ]) ∙ get_or_default ys k 0 d hy)

module _ (S : Sig) (b : List Cell) (rules : Rules S b) where
  pub node : {i f a : ℕ} {args : List ℕ} → i < length b → get_or b i (Var 0) ≡ App f a args → Node S i f a args
  node {i = i} l e = subst (Fitting S i) e (rules.fitting i l)

  pub place_one : {i j : ℕ} → i < length b → j < length b → get_or b i (Var 0) ≡ get_or b j (Var 0) → i ≡ j
  place_one {i = i} {j = j} li lj e = elim (cases_order i j) [
    | inl q ↦ q
    | inr o ↦ elim o [
      | inl l ↦ absurd (rules.apart j lj (i, l, e))
      | inr l ↦ absurd (rules.apart i li (j, l, sym e))
    ]
  ]

  mutual
    pub same : (t : Term) {i j : ℕ} → Means b i t → Means b j t → i ≡ j
    same (var x) (is_var l e) (is_var l' e') = place_one l l' (e ∙ sym e')
    same (app f ts) (is_app {a = a} {args = xs} l e h) (is_app {i = j} {a = a'} {args = ys} l' e' h') =
        let n = node l e in
        let n' = node l' e' in
        let q : a' ≡ a = n'.arity ∙ sym n.arity in
        let w : App f a' ys ≡ App f a ys = ap (λ m. App f m ys) q in
        let m : Node S j f a ys = subst (λ m. Node S j f m ys) q n' in
        let z = same_slots xs ys n.slots m.slots n.few (sames ts h (subst (λ m. MeansAll b (take m ys) ts) q h')) in
        place_one l l' (e ∙ (ap (App f a) z ∙ sym (e' ∙ w)))

    sames : (ts : Terms) {is js : List ℕ} → MeansAll b is ts → MeansAll b js ts → is ≡ js
    sames nil none none = refl
    sames (t ▹ ts) (and h hs) (and h' hs') = ap₂ ◌∷◌ (same t h h') (sames ts hs hs')

module _ (b : List Cell) where
  mutual
    one : (t : Term) {i j : ℕ} {u : Term} → i ≡ j → Means b i t → Means b j u → t ≡ u
    one (var x) k (is_var {i = i} l e) (is_var {i = j} {x = y} l' e') =
        let c : get_or b i (Var 0) ≡ get_or b j (Var 0) = ap (λ m. get_or b m (Var 0)) k in let z : x ≡ y = cc in ap var z
    one (var x) k (is_var {i = i} l e) (is_app {i = j} l' e' h') = absurd (clash (sym (ap (λ m. get_or b m (Var 0)) k) ∙ e) e')
    one (app f ts) k (is_app {i = i} l e h) (is_var {i = j} l' e') = absurd (clash (ap (λ m. get_or b m (Var 0)) k ∙ e') e)
    one (app f ts) k (is_app {i = i} {a = a} {args = xs} l e h) (is_app {i = j} {f = g} {a = a'} {args = ys} l' e' h') =
        let c : get_or b i (Var 0) ≡ get_or b j (Var 0) = ap (λ m. get_or b m (Var 0)) k in
        let z : f ≡ g = cc in
        let y : take a xs ≡ take a' ys = let p : a ≡ a' = cc in let q : xs ≡ ys = cc in ap₂ take p q in
        ap₂ app z (ones ts y h h')

    ones : (ts : Terms) {is js : List ℕ} {us : Terms} → is ≡ js → MeansAll b is ts → MeansAll b js us → ts ≡ us
    ones nil k none none = refl
    ones nil k none (and h hs) = let z : ◌≡◌ {A = ℕ} 0 1 = cc in absurd (let w : ⊥ = omega arith in w)
    ones (t ▹ ts) k (and h hs) none = let z : ◌≡◌ {A = ℕ} 0 1 = cc in absurd (let w : ⊥ = omega arith in w)
    ones (t ▹ ts) k (and {i = i} {is = is} h hs) (and {i = j} {is = js} h' hs') =
        let z : i ≡ j = cc in
        let y : is ≡ js = cc in
        ap₂ ◌▹◌ (one t z h h') (ones ts y hs hs')

  pub tall : (ts : Terms) {is : List ℕ} → MeansAll b is ts → width ts ≡ length is
  tall nil none = refl
  tall (t ▹ ts) (and h hs) = ap suc (tall ts hs)

module _ (b c : List Cell) (le : length b ≤ length c) (agree : (i : ℕ) → i < length b → get_or b i (Var 0) ≡ get_or c i (Var 0)) where
  mutual
    grows : (t : Term) {i : ℕ} → Means b i t → Means c i t
    grows (var x) (is_var {i = i} l e) = is_var (omega arith) (sym (agree i l) ∙ e)
    grows (app f ts) (is_app {i = i} l e h) = is_app (omega arith) (sym (agree i l) ∙ e) (grows_all ts h)

    grows_all : (ts : Terms) {is : List ℕ} → MeansAll b is ts → MeansAll c is ts
    grows_all nil none = none
    grows_all (t ▹ ts) (and h hs) = and (grows t h) (grows_all ts hs)

-- a bank that grows keeps what its cells mean
pub grown : (b more : List Cell) (t : Term) {i : ℕ} → Means b i t → Means (b ++ more) i t
grown b more t h = grows b (b ++ more) (simp length-append (omega arith)) (λ i l. sym (get_or_append_left b more (Var 0) i l)) t h

pub grown_all : (b more : List Cell) (ts : Terms) {is : List ℕ} → MeansAll b is ts → MeansAll (b ++ more) is ts
grown_all b more ts h = grows_all b (b ++ more) (simp length-append (omega arith)) (λ i l. sym (get_or_append_left b more (Var 0) i l)) ts h

module _ (S : Sig) (b : List Cell) (rules : Rules S b) where
  abbrev pub Read : ℕ → Type 0
  Read i = (t : Term) × Means b i t × Over S t

  reads_args : (i : ℕ) → ((j : ℕ) → j < i → Read j) → (is : List ℕ) → ((k : ℕ) → k < length is → get_or is k 0 < i) → (ts : Terms) × MeansAll b is ts × AllOver S ts
  reads_args i h [] k = (nil, none, tt)
  reads_args i h (j ∷ is) k =
      let p = h j (k 0 (omega arith)) in
      let q = reads_args i h is (λ m l. k (suc m) (omega arith)) in
      (p.0 ▹ q.0, and p.1 q.1, (p.2, q.2))

  reads_cell : (i : ℕ) → i < length b → ((j : ℕ) → j < i → Read j) → (c : Cell) → get_or b i (Var 0) ≡ c → Read i
  reads_cell i l h (Var x) e = (var x, is_var l e, tt)
  reads_cell i l h (App f a args) e =
      let n = node S b rules l e in
      let size : length (take a args) ≡ a = length-take-le a args (omega (arith, n.few, n.slots.four)) in
      let q = reads_args i h (take a args) (λ k lk.
      let ka : k < a = omega (arith, size) in
      let k4 : k < 4 = omega (arith, n.few) in
      subst (λ v. v < i) (sym (get_or-take a args k 0 ka)) ((n.slots.each k k4).0 ka)) in
      (app f q.0, is_app l e q.1, (n.symbol, tall b q.0 q.1 ∙ size ∙ n.arity, q.2))

  reads_below : (m i : ℕ) → i < m → i < length b → Read i
  reads_below zero i h l = absurd (let z : ⊥ = omega arith in z)
  reads_below (suc m) i h l = reads_cell i l (λ j k. reads_below m j (omega arith) (omega arith)) (get_or b i (Var 0)) refl

  pub reads : (i : ℕ) → i < length b → Read i
  reads i l = reads_below (suc i) i (omega arith) l

pub means_one : (b : List Cell) {i : ℕ} {t u : Term} → Means b i t → Means b i u → t ≡ u
means_one b {t = t} h k = one b t refl h k

pub laws : (S : Sig) (b : List Cell) → Rules S b → Laws S b
laws S b rules = record {
  reads = reads S b rules;
  one = λ i t u h k. means_one b h k;
  same = λ i j t h k. same S b rules t h k;
  grows = λ more i t h. grown b more t h;
}
