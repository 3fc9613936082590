-- A bank that refuses a term cannot be grown to hold it within its cells.
use Rattle.std.proofs.Common.{◌≡◌, ℕ, zero, suc, ◌<◌, ◌≤◌, cond, eqb, List, [], ◌∷◌, ◌++◌, length, get_or, take, Some, None, Option, sym, refl, ◌∙◌, subst, inl, inr, arith}
use Rattle.std.proofs.lemmas.List.{length_push}
use Rattle.std.proofs.lemmas.Bool.{cases_lt, cases_eq, eq-eqb, ne_eqb, lt-ltb}
use Rattle.terms.specs.Term.{Term, Terms, var, app, nil, ◌▹◌, width, sub, subs}
use Rattle.terms.specs.Sig.{Sig, Over, AllOver}
use Rattle.bank.specs.declared.cell.Cell.{Cell}
use Rattle.bank.specs.declared.cell.Cell.TheVariants.{Var, App}
use Rattle.bank.specs.Rules.{Fitting, Rules}
use Rattle.bank.specs.Means.{Means, MeansAll, is_var, is_app, and}
use Rattle.bank.proofs.Readings.{grown, reads, means_within, means_one, same, tall}
use Rattle.enter.specs.Enter.{place, noted, note, chain, fill, blank, bound, enter, enters}
use Rattle.bank.specs.Bindings.{Binds}
use Rattle.enter.specs.Grown.{Part, Parts, Grown}
use Rattle.enter.proofs.Machining.{none_some, chain_some, both}
use Rattle.enter.proofs.Growing.{Modest, AllModest, Noted, GrownAll, appended, entered_app, fitting_app, binds_grown, same_width, enter_law, enters_law}

-- n numbers below m that differ are at most m
pigeon : (m n : ℕ) (f : (k : ℕ) → k < n → ℕ) → ((k : ℕ) (l : k < n) → f k l < m) → ((j k : ℕ) (p : j < n) (q : k < n) → f j p ≡ f k q → j ≡ k) → n ≤ m
pigeon m zero f below inj = omega arith
pigeon zero (suc n) f below inj = absurd (let z : ⊥ = omega (arith, below 0 (omega arith)) in z)
pigeon (suc m) (suc n) f below inj =
    let up : (k : ℕ) → k < n → k < suc n = λ k l. omega arith in
    let last : n < suc n = omega arith in
    let v = f n last in
    let g : (k : ℕ) → k < n → ℕ = λ k l. cond (eqb (f k (up k l)) m) v (f k (up k l)) in
    let hit : (k : ℕ) (l : k < n) → f k (up k l) ≡ m → g k l ≡ v = λ k l e. rw (eq-eqb (f k (up k l)) m e) in
    let miss : (k : ℕ) (l : k < n) → (f k (up k l) ≡ m → ⊥) → g k l ≡ f k (up k l) = λ k l e. rw (ne_eqb (f k (up k l)) m e) in
    let other : (k : ℕ) (l : k < n) → f k (up k l) ≡ v → ⊥ = λ k l e. let q = inj k n (up k l) last e in omega arith in
    let low : (k : ℕ) (l : k < n) → g k l < m = λ k l. elim (cases_eq (f k (up k l)) m) [
      | inl e ↦ elim (cases_eq v m) [
        | inl d ↦ absurd (other k l (e ∙ sym d))
        | inr d ↦ let b = below n last in let h : v < m = elim (cases_lt v m) [ inl q ↦ q | inr q ↦ absurd (d (let w : v ≡ m = omega arith in w)) ] in rw (hit k l e) h
      ]
      | inr d ↦
          let b = below k (up k l) in
          let h : f k (up k l) < m = elim (cases_lt (f k (up k l)) m) [ inl q ↦ q | inr q ↦ absurd (d (let w : f k (up k l) ≡ m = omega arith in w)) ] in
          rw (miss k l d) h
    ] in
    let one : (j k : ℕ) (p : j < n) (q : k < n) → g j p ≡ g k q → j ≡ k = λ j k p q e. elim (cases_eq (f j (up j p)) m) [
      | inl a ↦ elim (cases_eq (f k (up k q)) m) [
        | inl b ↦ inj j k (up j p) (up k q) (a ∙ sym b)
        | inr b ↦ absurd (other k q (sym (sym (hit j p a) ∙ e ∙ miss k q b)))
      ]
      | inr a ↦ elim (cases_eq (f k (up k q)) m) [
        | inl b ↦ absurd (other j p (sym (miss j p a) ∙ e ∙ hit k q b))
        | inr b ↦ inj j k (up j p) (up k q) (sym (miss j p a) ∙ e ∙ miss k q b)
      ]
    ] in
    let r = pigeon m n g low one in
    omega arith

-- the parts of a term that stands in a bank stand in it
mutual
  pub part_stands : {b : List Cell} {i : ℕ} (t s : Term) → Means b i t → Part s t → (j : ℕ) × Means b j s
  part_stands {b = b} {i = i} (var x) s h e = (i, subst (Means b i) (sym e) h)
  part_stands {b = b} {i = i} (app f ts) s h (inl e) = (i, subst (Means b i) (sym e) h)
  part_stands (app f ts) s (is_app l e h) (inr p) = parts_stand ts s h p

  parts_stand : {b : List Cell} {is : List ℕ} (ts : Terms) (s : Term) → MeansAll b is ts → Parts s ts → (j : ℕ) × Means b j s
  parts_stand nil s h p = absurd p
  parts_stand (t ▹ ts) s (and h hs) (inl p) = part_stands t s h p
  parts_stand (t ▹ ts) s (and h hs) (inr p) = parts_stand ts s hs p

app_stands : {b : List Cell} {i f : ℕ} {ts : Terms} → Means b i (app f ts) → (is : List ℕ) × MeansAll b is ts
app_stands (is_app {a = a} {args = args} l e h) = (take a args, h)

module _ (S : Sig) (B : List Cell) where
  -- each cell of b stands for a term that stands in B too
  pub record Within (b : List Cell) : Type 0 where
    pub rules : Rules S b
    pub each : (k : ℕ) → k < length b → (s : Term) × (j : ℕ) × Means b k s × Means B j s

  within_size : (b : List Cell) → Within b → length b ≤ length B
  within_size b w = pigeon (length B) (length b) (λ k l. (w.each k l).1) (λ k l. means_within (w.each k l).3) (λ j k p q e.
      let x = w.each j p in
      let y = w.each k q in
      let t : x.0 ≡ y.0 = means_one B (subst (λ i. Means B i x.0) e x.3) y.3 in
      same S b w.rules y.0 (subst (Means b j) t x.2) y.2)

  -- after an entry of what stands in B
  within_grown : (b b' : List Cell) (more : List Cell) → Within b → b' ≡ b ++ more → Rules S b'
      → ((k : ℕ) → length b ≤ k → k < length b' → (s : Term) × (j : ℕ) × Means b' k s × Means B j s) → Within b'
  within_grown b b' more w e rules new = record {
    rules = rules;
    each = λ k l. elim (cases_lt k (length b)) [
      | inl h ↦ let x = w.each k h in (x.0, x.1, subst (λ z. Means z k x.0) (sym e) (grown b more x.0 x.2), x.3)
      | inr g ↦ new k g l
    ];
  }

  within_entered : (b b' : List Cell) (t : Term) (i x : ℕ) → Within b → Grown S b t b' i → Means B x t → Within b'
  within_entered b b' t i x w g h = within_grown b b' g.more w g.grows g.rules (λ k p q.
      let n = g.new k p q in
      let s = part_stands t n.0 h n.2 in
      (n.0, s.0, n.1, s.1))

  within_all : (b b' : List Cell) (ts : Terms) (is js : List ℕ) → Within b → GrownAll S b ts b' is → MeansAll B js ts → Within b'
  within_all b b' ts is js w g h = within_grown b b' g.more w g.grows g.rules (λ k p q.
      let n = g.new k p q in
      let s = parts_stand ts n.0 h n.2 in
      (n.0, s.0, n.1, s.1))

  module _ (m : ℕ) (few : length B ≤ m) where
    -- a cell whose term stands in B finds its place, or a free one
    note_room : (b : List Cell) (c : Cell) (o : Option ℕ) (s : Term) (x : ℕ) → place c b ≡ o → Within b → Fitting S (length b) c
        → (Noted S b c (b ++ c ∷ []) (length b) → Means (b ++ c ∷ []) (length b) s) → Means B x s → (r : List Cell × ℕ) × (noted m c b o ≡ Some r)
    note_room b c (Some k) s x p w fit means h = ((b, k), refl)
    note_room b c None s x p w fit means h =
        let n = appended S b c w.rules fit p in
        let size = length_push b c in
        let more = within_grown b (b ++ c ∷ []) (c ∷ []) w refl n.rules (λ k g l.
        (s, x, subst (λ i. Means (b ++ c ∷ []) i s) (sym (n.new k g l)) (means n), h)) in
        let room : length b < m = omega (arith, within_size (b ++ c ∷ []) more, size) in
        ((b ++ c ∷ [], length b), rw (lt-ltb (length b) m room))

    module _ (bindings : List (Option ℕ)) (σ : ℕ → Term) where
      bound_room : (x : ℕ) (o : Option ℕ) (b : List Cell) (y : ℕ) → get_or bindings x None ≡ o → Within b → x < 32 → Binds b bindings σ → Means B y (σ x) → (r : List Cell × ℕ) × (bound m x b o ≡ Some r)
      bound_room x (Some k) b y e w small binds h = ((b, k), refl)
      bound_room x None b y e w small binds h =
          note_room b (Var x) (place (Var x) b) (var x) y refl w small (λ n. is_var n.within n.is) (subst (Means B y) (binds.free x e) h)

      mutual
        enter_room : (t : Term) (b : List Cell) (y : ℕ) → Within b → Over S t → Modest t → Binds b bindings σ → Means B y (sub σ t) → (r : List Cell × ℕ) × (enter m bindings t b ≡ Some r)
        enter_room (var x) b y w over modest binds h = bound_room x (get_or bindings x None) b y refl w modest binds h
        enter_room (app f ts) b y w over modest binds h =
            let args = app_stands h in
            let r = enters_room ts b args.0 w over.2 modest.1 binds args.1 in
            let b₁ = r.0.0 in
            let is = r.0.1 in
            let g = enters_law S m bindings σ ts b b₁ is w.rules over.2 modest.1 binds r.1 in
            let wide : width ts ≡ length is = same_width σ ts ∙ tall b₁ (subs σ ts) g.means in
            let fit = fitting_app S b₁ f (width ts) (subs σ ts) is over.0 over.1 modest.0 wide g.means in
            let c = App f (width ts) (fill blank 0 is) in
            let n = note_room b₁ c (place c b₁) (app f (subs σ ts)) y refl (within_all b b₁ (subs σ ts) is args.0 w g args.1) fit
            (λ n. (entered_app S b b₁ (b₁ ++ c ∷ []) f (width ts) (subs σ ts) is (length b₁) wide modest.0 g n).means) h in
            (n.0, chain_some (enters m bindings ts b) (λ q. note m (App f (width ts) (fill blank 0 q.1)) q.0) (b₁, is) r.1 ∙ n.1)

        enters_room : (ts : Terms) (b : List Cell) (js : List ℕ) → Within b → AllOver S ts → AllModest ts → Binds b bindings σ → MeansAll B js (subs σ ts) → (r : List Cell × List ℕ) × (enters m bindings ts b ≡ Some r)
        enters_room nil b js w over modest binds h = ((b, []), refl)
        enters_room (t ▹ ts) b js w over modest binds (and {i = y} {is = ys} h hs) =
            let r = enter_room t b y w over.0 modest.0 binds h in
            let b₁ = r.0.0 in
            let g = enter_law S m bindings σ t b b₁ r.0.1 w.rules over.0 modest.0 binds r.1 in
            let binds₁ = subst (λ z. Binds z bindings σ) (sym g.grows) (binds_grown b g.more bindings σ binds) in
            let q = enters_room ts b₁ ys (within_entered b b₁ (sub σ t) r.0.1 y w g h) over.1 modest.1 binds₁ hs in (
              both q.0.0 (r.0.1 ∷ q.0.1),
              chain_some (enter m bindings t b) (λ u. chain (enters m bindings ts u.0) (λ v. Some (both v.0 (u.1 ∷ v.1)))) r.0 r.1
                  ∙ chain_some (enters m bindings ts b₁) (λ v. Some (both v.0 (r.0.1 ∷ v.1))) q.0 q.1,
            )

-- a refused term stands in no bank of m cells that the bank can grow to
pub no_room : (S : Sig) (m : ℕ) (bindings : List (Option ℕ)) (σ : ℕ → Term) (t : Term) (b more : List Cell) (i : ℕ) → Rules S b → Over S t → Modest t → Binds b bindings σ
    → enter m bindings t b ≡ None → length (b ++ more) ≤ m → Means (b ++ more) i (sub σ t) → ⊥
no_room S m bindings σ t b more i rules over modest binds refused few h =
    let w : Within S (b ++ more) b = record { rules = rules; each = λ k l. let r = reads S b rules k l in (r.0, k, r.1, grown b more r.0 r.1) } in
    let r = enter_room S (b ++ more) m few bindings σ t b i w over modest binds h in
    none_some (sym refused ∙ r.1)
