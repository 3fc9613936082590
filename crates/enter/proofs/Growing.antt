-- Entering keeps the rules, and the cell entered stands for the term.
use Rattle.std.proofs.Common.{◌≡◌, ℕ, zero, suc, ◌<◌, ◌≤◌, Bool, true, false, cond, ltb, List, [], ◌∷◌, ◌++◌, length, get_or, take, replicate, Some, None, Option, sym, refl, ap, ◌∙◌, subst, inl, inr, append_assoc, append-nil, arith}
use Rattle.std.proofs.lemmas.List.{get_or_past, get_or_append_left, get_or_at, length_push}
use Rattle.std.proofs.lemmas.Bool.{cases_lt, cases_Bool, false≢true}
use Rattle.terms.specs.Term.{Term, Terms, var, app, nil, ◌▹◌, width, sub, subs}
use Rattle.terms.specs.Sig.{Sig, Over, AllOver}
use Rattle.bank.specs.declared.cell.Cell.{Cell}
use Rattle.bank.specs.declared.cell.Cell.TheVariants.{Var, App}
use Rattle.bank.specs.Rules.{Fitting, Rules}
use Rattle.bank.specs.Means.{Means, MeansAll, is_var, is_app, none, and}
use Rattle.bank.proofs.Readings.{grown, grown_all, means_within, tall}
use Rattle.enter.specs.Enter.{same_cell, place, next, noted, note, chain, fill, blank, bound, enter, enters}
use Rattle.bank.specs.Bindings.{Binds}
use Rattle.enter.specs.Grown.{Parts, Grown}
use Rattle.enter.proofs.Noting.{same_decides}
use Rattle.enter.proofs.Machining.{none_some, both}

-- variables below 32 and at most four arguments
abbrev mutual
  pub Modest : Term → Type 0
  Modest (var x) = x < 32
  Modest (app f ts) = (width ts ≤ 4) × AllModest ts

  pub AllModest : Terms → Type 0
  AllModest nil = Unit {0}
  AllModest (t ▹ ts) = Modest t × AllModest ts

pub some_eq : {X : Type 0} {x y : X} → Some x ≡ Some y → x ≡ y
some_eq e = cc

next_some : (o : Option ℕ) (i : ℕ) → next o ≡ Some i → (k : ℕ) × (o ≡ Some k) × (i ≡ suc k)
next_some None i e = absurd (none_some e)
next_some (Some k) i e = (k, refl, sym (some_eq e))

abbrev There : List Cell → Cell → Type 0
There b c = (i : ℕ) → place c b ≡ Some i → (i < length b) × (get_or b i (Var 0) ≡ c)

there : (x : Cell) (xs : List Cell) (c : Cell) (s : Bool) → There xs c → same_cell x c ≡ s → (i : ℕ) → cond s (Some 0) (next (place c xs)) ≡ Some i → (i < length (x ∷ xs)) × (get_or (x ∷ xs) i (Var 0) ≡ c)
there x xs c true more q i e = let z : 0 ≡ i = some_eq e in (omega arith, ap (λ k. get_or (x ∷ xs) k (Var 0)) (sym z) ∙ (same_decides x c).0 q)
there x xs c false more q i e =
    let n = next_some (place c xs) i e in
    let r = more n.0 n.1 in
    (omega (arith, r.0, n.2), ap (λ k. get_or (x ∷ xs) k (Var 0)) n.2 ∙ r.1)

place_there : (b : List Cell) (c : Cell) → There b c
place_there [] c i e = absurd (none_some e)
place_there (x ∷ xs) c i e = there x xs c (same_cell x c) (place_there xs c) refl i e

next_none : (o : Option ℕ) → next o ≡ None → o ≡ None
next_none None e = refl
next_none (Some k) e = absurd (none_some (sym e))

abbrev Absent : List Cell → Cell → Type 0
Absent b c = (k : ℕ) → k < length b → get_or b k (Var 0) ≡ c → ⊥

absent : (x : Cell) (xs : List Cell) (c : Cell) (s : Bool) → (place c xs ≡ None → Absent xs c) → same_cell x c ≡ s → cond s (Some 0) (next (place c xs)) ≡ None → Absent (x ∷ xs) c
absent x xs c true more q e k l r = none_some (sym e)
absent x xs c false more q e zero l r = false≢true (sym q ∙ (same_decides x c).1 r)
absent x xs c false more q e (suc k) l r = more (next_none (place c xs) e) k (omega arith) r

place_absent : (b : List Cell) (c : Cell) → place c b ≡ None → Absent b c
place_absent [] c e k l q = let z : ⊥ = omega arith in z
place_absent (x ∷ xs) c e k l q = absent x xs c (same_cell x c) (place_absent xs c) refl e k l q

outside : (b : List Cell) (j : ℕ) → length b ≤ j → j < length b → ⊥
outside b j g l = omega arith

pub record Noted (S : Sig) (b : List Cell) (c : Cell) (b' : List Cell) (i : ℕ) : Type 0 where
  pub more : List Cell
  pub grows : b' ≡ b ++ more
  pub rules : Rules S b'
  pub within : i < length b'
  pub is : get_or b' i (Var 0) ≡ c
  pub new : (j : ℕ) → length b ≤ j → j < length b' → j ≡ i

pub appended : (S : Sig) (b : List Cell) (c : Cell) → Rules S b → Fitting S (length b) c → place c b ≡ None → Noted S b c (b ++ c ∷ []) (length b)
appended S b c rules fit free =
    let size = length_push b c in
    let old : (j : ℕ) → j < length b → get_or (b ++ c ∷ []) j (Var 0) ≡ get_or b j (Var 0) = λ j l. get_or_append_left b (c ∷ []) (Var 0) j l in
    let last : get_or (b ++ c ∷ []) (length b) (Var 0) ≡ c = get_or_at b c [] (Var 0) (length b) refl in
    record {
      more = c ∷ [];
      grows = refl;
      rules = record {
        fitting = λ j l. elim (cases_lt j (length b)) [
          | inl h ↦ subst (Fitting S j) (sym (old j h)) (rules.fitting j h)
          | inr g ↦ let e : length b ≡ j = omega (arith, size) in subst (λ k. Fitting S k (get_or (b ++ c ∷ []) k (Var 0))) e (subst (Fitting S (length b)) (sym last) fit)
        ];
        apart = λ j l earlier. elim (cases_lt j (length b)) [
          | inl h ↦ rules.apart j h (earlier.0, earlier.1, sym (old earlier.0 (omega (arith, earlier.1))) ∙ earlier.2 ∙ old j h)
          | inr g ↦
              let e : j ≡ length b = omega (arith, size) in
              let before : earlier.0 < length b = omega (arith, earlier.1) in
              place_absent b c free earlier.0 before (sym (old earlier.0 before) ∙ earlier.2 ∙ ap (λ k. get_or (b ++ c ∷ []) k (Var 0)) e ∙ last)
        ];
      };
      within = omega (arith, size);
      is = last;
      new = λ j g l. omega (arith, size);
    }

noted_law : (S : Sig) (m : ℕ) (b : List Cell) (c : Cell) (o : Option ℕ) (b' : List Cell) (i : ℕ) → place c b ≡ o → Rules S b → Fitting S (length b) c → noted m c b o ≡ Some (b', i) → Noted S b c b' i
noted_law S m b c (Some k) b' i p rules fit e =
    let q : ◌≡◌ {A = List Cell × ℕ} (b, k) (b', i) = some_eq e in
    let t = place_there b c k p in
    let same : Noted S b c b k = record { more = []; grows = sym (append-nil b); rules = rules; within = t.0; is = t.1; new = λ j g l. absurd (outside b j g l) } in
    subst (λ (r : List Cell × ℕ). Noted S b c r.0 r.1) q same
noted_law S m b c None b' i p rules fit e = elim (cases_Bool (ltb (length b) m)) [
  | inl t ↦
      let q : ◌≡◌ {A = List Cell × ℕ} (b ++ c ∷ [], length b) (b', i) = some_eq (sym (ap (λ z. cond z (Some (b ++ c ∷ [], length b)) None) t) ∙ e) in
      subst (λ (r : List Cell × ℕ). Noted S b c r.0 r.1) q (appended S b c rules fit p)
  | inr f ↦ absurd (none_some (sym (ap (λ z. cond z (Some (b ++ c ∷ [], length b)) None) f) ∙ e))
]

pub note_law : (S : Sig) (m : ℕ) (b : List Cell) (c : Cell) (b' : List Cell) (i : ℕ) → Rules S b → Fitting S (length b) c → note m c b ≡ Some (b', i) → Noted S b c b' i
note_law S m b c b' i rules fit e = noted_law S m b c (place c b) b' i refl rules fit e

-- the slots of an application
at1 : (i : ℕ) (xs ys : List ℕ) → ((k : ℕ) → get_or xs k 0 ≡ get_or ys k 0) → (k : ℕ) → get_or (i ∷ xs) k 0 ≡ get_or (i ∷ ys) k 0
at1 i xs ys h zero = refl
at1 i xs ys h (suc k) = h k

pub same_width : (σ : ℕ → Term) (ts : Terms) → width ts ≡ width (subs σ ts)
same_width σ nil = refl
same_width σ (t ▹ ts) = ap suc (same_width σ ts)

zeros : (n k : ℕ) → ◌≡◌ {A = ℕ} (get_or (replicate n 0) k 0) 0
zeros zero k = refl
zeros (suc n) zero = refl
zeros (suc n) (suc k) = zeros n k

pub record Filled (is : List ℕ) : Type 0 where
  pub four : length (fill blank 0 is) ≡ 4
  pub front : take (length is) (fill blank 0 is) ≡ is
  pub each : (k : ℕ) → get_or (fill blank 0 is) k 0 ≡ get_or is k 0

pub filled : (is : List ℕ) → length is ≤ 4 → Filled is
filled [] h = record { four = refl; front = refl; each = zeros 4 }
filled (i ∷ []) h = record { four = refl; front = refl; each = λ k. at1 i (replicate 3 0) [] (zeros 3) k }
filled (i ∷ (j ∷ [])) h = record { four = refl; front = refl; each = λ k. at1 i (j ∷ replicate 2 0) (j ∷ []) (at1 j (replicate 2 0) [] (zeros 2)) k }
filled (i ∷ (j ∷ (k ∷ []))) h = record { four = refl; front = refl; each = λ n. at1 i (j ∷ (k ∷ replicate 1 0)) (j ∷ (k ∷ [])) (at1 j (k ∷ replicate 1 0) (k ∷ []) (at1 k (replicate 1 0) [] (zeros 1))) n }
filled (i ∷ (j ∷ (k ∷ (l ∷ [])))) h = record { four = refl; front = refl; each = λ n. refl }
filled (i ∷ (j ∷ (k ∷ (l ∷ (m ∷ is))))) h = absurd (let z : ⊥ = omega arith in z)

below : (b : List Cell) (ts : Terms) {is : List ℕ} → MeansAll b is ts → (k : ℕ) → k < length is → get_or is k 0 < length b
below b nil none k l = absurd (let z : ⊥ = omega arith in z)
below b (t ▹ ts) (and h hs) zero l = means_within h
below b (t ▹ ts) (and h hs) (suc k) l = below b ts hs k (omega arith)

pub record GrownAll (S : Sig) (b : List Cell) (ts : Terms) (b' : List Cell) (is : List ℕ) : Type 0 where
  pub more : List Cell
  pub grows : b' ≡ b ++ more
  pub rules : Rules S b'
  pub means : MeansAll b' is ts
  pub new : (j : ℕ) → length b ≤ j → j < length b' → (s : Term) × Means b' j s × Parts s ts

pub binds_grown : (b more : List Cell) (bindings : List (Option ℕ)) (σ : ℕ → Term) → Binds b bindings σ → Binds (b ++ more) bindings σ
binds_grown b more bindings σ h = record { cell = λ x i e. grown b more (σ x) (h.cell x i e); free = h.free }

-- a noted variable stands for itself
entered_var : (S : Sig) (b : List Cell) (x : ℕ) (b' : List Cell) (i : ℕ) → Noted S b (Var x) b' i → Grown S b (var x) b' i
entered_var S b x b' i n = record {
  more = n.more;
  grows = n.grows;
  rules = n.rules;
  means = is_var n.within n.is;
  new = λ j g l. (var x, subst (λ k. Means b' k (var x)) (sym (n.new j g l)) (is_var n.within n.is), refl);
}

-- a noted application of entered arguments
pub entered_app : (S : Sig) (b b₁ b₂ : List Cell) (f a : ℕ) (ts : Terms) (is : List ℕ) (i : ℕ) → a ≡ length is → a ≤ 4
    → GrownAll S b ts b₁ is → Noted S b₁ (App f a (fill blank 0 is)) b₂ i → Grown S b (app f ts) b₂ i
entered_app S b b₁ b₂ f a ts is i wide few g n =
    let full = filled is (omega arith) in
    let front : take a (fill blank 0 is) ≡ is = ap (λ k. take k (fill blank 0 is)) wide ∙ full.front in
    let args : MeansAll b₂ is ts = subst (λ z. MeansAll z is ts) (sym n.grows) (grown_all b₁ n.more ts g.means) in
    let means : Means b₂ i (app f ts) = is_app n.within n.is (subst (λ js. MeansAll b₂ js ts) (sym front) args) in
    record {
      more = g.more ++ n.more;
      grows = n.grows ∙ ap (λ z. z ++ n.more) g.grows ∙ append_assoc b g.more n.more;
      rules = n.rules;
      means = means;
      new = λ j h l. elim (cases_lt j (length b₁)) [
        | inl q ↦ let p = g.new j h q in (p.0, subst (λ z. Means z j p.0) (sym n.grows) (grown b₁ n.more p.0 p.1), inr p.2)
        | inr q ↦ (app f ts, subst (λ k. Means b₂ k (app f ts)) (sym (n.new j q l)) means, inl refl)
      ];
    }

pub fitting_app : (S : Sig) (b : List Cell) (f a : ℕ) (ts : Terms) (is : List ℕ) → f < S.symbols → a ≡ S.arity f → a ≤ 4 → a ≡ length is → MeansAll b is ts → Fitting S (length b) (App f a (fill blank 0 is))
fitting_app S b f a ts is known arity few wide h =
    let full = filled is (omega arith) in
    record {
      symbol = known;
      arity = arity;
      few = few;
      slots = record {
        four = full.four;
        each = λ k k4. (λ ka. subst (λ v. v < length b) (sym (full.each k)) (below b ts h k (omega arith)), λ ak. full.each k ∙ get_or_past is k 0 (omega arith));
      };
    }

joined_new : (S : Sig) (b b₁ b₂ : List Cell) (t : Term) (ts : Terms) (i : ℕ) (is : List ℕ) → Grown S b t b₁ i → GrownAll S b₁ ts b₂ is → GrownAll S b (t ▹ ts) b₂ (i ∷ is)
joined_new S b b₁ b₂ t ts i is g h = record {
  more = g.more ++ h.more;
  grows = h.grows ∙ ap (λ z. z ++ h.more) g.grows ∙ append_assoc b g.more h.more;
  rules = h.rules;
  means = and (subst (λ z. Means z i t) (sym h.grows) (grown b₁ h.more t g.means)) h.means;
  new = λ j k l. elim (cases_lt j (length b₁)) [
    | inl q ↦ let p = g.new j k q in (p.0, subst (λ z. Means z j p.0) (sym h.grows) (grown b₁ h.more p.0 p.1), inl p.2)
    | inr q ↦ let p = h.new j q l in (p.0, p.1, inr p.2)
  ];
}

pub chain_inv : {A B : Type 0} (o : Option A) (k : A → Option B) (r : B) → chain o k ≡ Some r → (a : A) × (o ≡ Some a) × (k a ≡ Some r)
chain_inv None k r e = absurd (none_some e)
chain_inv (Some a) k r e = (a, refl, e)

bound_law : (S : Sig) (m : ℕ) (bindings : List (Option ℕ)) (σ : ℕ → Term) (x : ℕ) (o : Option ℕ) (b b' : List Cell) (i : ℕ) → get_or bindings x None ≡ o
    → Rules S b → x < 32 → Binds b bindings σ → bound m x b o ≡ Some (b', i) → Grown S b (σ x) b' i
bound_law S m bindings σ x (Some k) b b' i is rules small binds e =
    let q : ◌≡◌ {A = List Cell × ℕ} (b, k) (b', i) = some_eq e in
    let same : Grown S b (σ x) b k = record { more = []; grows = sym (append-nil b); rules = rules; means = binds.cell x k is; new = λ j g l. absurd (outside b j g l) } in
    subst (λ (r : List Cell × ℕ). Grown S b (σ x) r.0 r.1) q same
bound_law S m bindings σ x None b b' i is rules small binds e =
    subst (λ t. Grown S b t b' i) (sym (binds.free x is)) (entered_var S b x b' i (note_law S m b (Var x) b' i rules small e))

module _ (S : Sig) (m : ℕ) (bindings : List (Option ℕ)) (σ : ℕ → Term) where
  mutual
    pub enter_law : (t : Term) (b b' : List Cell) (i : ℕ) → Rules S b → Over S t → Modest t → Binds b bindings σ → enter m bindings t b ≡ Some (b', i) → Grown S b (sub σ t) b' i
    enter_law (var x) b b' i rules over modest binds e = bound_law S m bindings σ x (get_or bindings x None) b b' i refl rules modest binds e
    enter_law (app f ts) b b' i rules over modest binds e =
        let c = chain_inv (enters m bindings ts b) (λ r. note m (App f (width ts) (fill blank 0 r.1)) r.0) (b', i) e in
        let g = enters_law ts b c.0.0 c.0.1 rules over.2 modest.1 binds c.1 in
        let wide : width ts ≡ length c.0.1 = same_width σ ts ∙ tall c.0.0 (subs σ ts) g.means in
        let fit = fitting_app S c.0.0 f (width ts) (subs σ ts) c.0.1 over.0 over.1 modest.0 wide g.means in
        let n = note_law S m c.0.0 (App f (width ts) (fill blank 0 c.0.1)) b' i g.rules fit c.2 in
        entered_app S b c.0.0 b' f (width ts) (subs σ ts) c.0.1 i wide modest.0 g n

    pub enters_law : (ts : Terms) (b b' : List Cell) (is : List ℕ) → Rules S b → AllOver S ts → AllModest ts → Binds b bindings σ → enters m bindings ts b ≡ Some (b', is) → GrownAll S b (subs σ ts) b' is
    enters_law nil b b' is rules over modest binds e =
        let q : ◌≡◌ {A = List Cell × List ℕ} (b, []) (b', is) = some_eq e in
        let same : GrownAll S b nil b [] = record { more = []; grows = sym (append-nil b); rules = rules; means = none; new = λ j g l. absurd (outside b j g l) } in
        subst (λ (r : List Cell × List ℕ). GrownAll S b nil r.0 r.1) q same
    enters_law (t ▹ ts) b b' is rules over modest binds e =
        let c = chain_inv (enter m bindings t b) (λ r. chain (enters m bindings ts r.0) (λ s. Some (both s.0 (r.1 ∷ s.1)))) (b', is) e in
        let d = chain_inv (enters m bindings ts c.0.0) (λ s. Some (both s.0 (c.0.1 ∷ s.1))) (b', is) c.2 in
        let g = enter_law t b c.0.0 c.0.1 rules over.0 modest.0 binds c.1 in
        let binds₁ = subst (λ z. Binds z bindings σ) (sym g.grows) (binds_grown b g.more bindings σ binds) in
        let h = enters_law ts c.0.0 d.0.0 d.0.1 g.rules over.1 modest.1 binds₁ d.1 in
        let q : both d.0.0 (c.0.1 ∷ d.0.1) ≡ (b', is) = some_eq d.2 in
        subst (λ (r : List Cell × List ℕ). GrownAll S b (subs σ (t ▹ ts)) r.0 r.1) q (joined_new S b c.0.0 d.0.0 (sub σ t) (subs σ ts) c.0.1 d.0.1 g h)
