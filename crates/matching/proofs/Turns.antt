-- What one node does to the solutions.
use Rattle.std.proofs.Common.{◌≡◌, ℕ, zero, suc, ltb, ◌<◌, ◌≤◌, true, ◌⊎◌, List, [], ◌∷◌, ◌++◌, length, get_or, reverse, take, set, is_some, Some, None, Option, sym, refl, ap, ◌∙◌, subst, inl, inr, arith}
use Rattle.std.proofs.lemmas.List.{length-append, length-take-le, reverse-append, reverse-reverse, get_or-set_same, get_or-set_other}
use Rattle.std.proofs.lemmas.Bool.{cases_eq, ltb-true, and_parts}
use Rattle.terms.specs.Term.{Term, Terms, var, app, nil, ◌▹◌, width, subs, Occs}
use Rattle.terms.specs.Sig.{Sig}
use Rattle.terms.specs.Preorder.{in_front, small}
use Rattle.terms.specs.declared.pattern.Node.{Node}
use Rattle.terms.specs.declared.pattern.Node.TheVariants as node
use Rattle.subterms.specs.Places.{arguments}
use Rattle.subterms.proofs.Preorders.{first, rest, width_first, read_var, read_app, read_wide}
use Rattle.bank.specs.declared.cell.Cell.{Cell}
use Rattle.bank.specs.declared.cell.Cell.TheVariants.{Var, App}
use Rattle.bank.specs.Rules.{Rules}
use Rattle.bank.specs.Means.{Means, MeansAll, is_app, none, and}
use Rattle.bank.proofs.Readings.{node as fits, means_within, same, tall, open_app}
use Rattle.matching.specs.Solving.{Has, Onward, Never, Placed, Met, pending}
use Rattle.row.specs.Items.{items}
use Rattle.row.specs.declared.Row.{Row}

pub none_some : {X : Type 0} {x : X} → None ≡ Some x → ⊥
none_some e = let z : ◌≡◌ {A = ℕ} 0 1 = cc in omega arith

pub onward_same : {b : List Cell} {θ : List (Option ℕ)} {ps : Terms} {js : List ℕ} → Onward b θ ps js θ ps js
onward_same = record { on = λ S σ r s. s; back = λ S σ r s. s; keeps = λ x h. h; covers = λ x o. inr o; inside = λ h. h }

pub onward_trans : {b : List Cell} {θ θ' θ'' : List (Option ℕ)} {ps ps' ps'' : Terms} {js js' js'' : List ℕ} → Onward b θ ps js θ' ps' js' → Onward b θ' ps' js' θ'' ps'' js'' → Onward b θ ps js θ'' ps'' js''
onward_trans f g = record {
  on = λ S σ r s. g.on S σ r (f.on S σ r s);
  back = λ S σ r s. f.back S σ r (g.back S σ r s);
  keeps = λ x h. g.keeps x (f.keeps x h);
  covers = λ x o. elim (f.covers x o) [ inl h ↦ inl (g.keeps x h) | inr p ↦ g.covers x p ];
  inside = λ h. g.inside (f.inside h);
}

pub parts : {b : List Cell} {j : ℕ} {js : List ℕ} {t : Term} {ts : Terms} → MeansAll b (j ∷ js) (t ▹ ts) → Means b j t × MeansAll b js ts
parts (and h hs) = (h, hs)

module _ (b : List Cell) (θ : List (Option ℕ)) (j : ℕ) (js : List ℕ) where
  var_bound : (x : ℕ) (ps : Terms) → get_or θ x None ≡ Some j → Onward b θ (var x ▹ ps) (j ∷ js) θ ps js
  var_bound x ps e = record {
    on = λ S σ r s. record { bound = s.bound; means = (parts s.means).1 };
    back = λ S σ r s. record { bound = s.bound; means = and (s.bound x j e) s.means };
    keeps = λ y h. h;
    covers = λ y o. elim o [ inl q ↦ inl (rw q (rw e)) | inr p ↦ inr p ];
    inside = λ h. h;
  }

  var_free : (x : ℕ) (ps : Terms) → j < length b → x < length θ → get_or θ x None ≡ None → Onward b θ (var x ▹ ps) (j ∷ js) (set θ x (Some j)) ps js
  var_free x ps l lx e =
      let here : get_or (set θ x (Some j)) x None ≡ Some j = get_or-set_same θ x (Some j) None lx in
      let there : (y : ℕ) → (y ≡ x → ⊥) → get_or (set θ x (Some j)) y None ≡ get_or θ y None = λ y n. get_or-set_other θ x y (Some j) None n in
      let has : Has (set θ x (Some j)) x = rw here in
      record {
        on = λ S σ r s. record {
          bound = λ y i q. elim (cases_eq y x) [
            | inl z ↦
                let k : Some j ≡ Some i = sym here ∙ ap (λ w. get_or (set θ x (Some j)) w None) (sym z) ∙ q in
                let m : j ≡ i = cc in
                subst (λ w. Means b w (σ y)) m (subst (λ w. Means b j (σ w)) (sym z) (parts s.means).0)
            | inr n ↦ s.bound y i (sym (there y n) ∙ q)
          ];
          means = (parts s.means).1;
        };
        back = λ S σ r s. record {
          bound = λ y i q. elim (cases_eq y x) [
            | inl z ↦ absurd (none_some (sym e ∙ ap (λ w. get_or θ w None) (sym z) ∙ q))
            | inr n ↦ s.bound y i (there y n ∙ q)
          ];
          means = and (s.bound x j here) s.means;
        };
        keeps = λ y h. elim (cases_eq y x) [ inl z ↦ rw z has | inr n ↦ ap is_some (there y n) ∙ h ];
        covers = λ y o. elim o [ inl z ↦ inl (rw z has) | inr p ↦ inr p ];
        inside = λ h y i q. elim (cases_eq y x) [
          | inl z ↦
              let k : Some j ≡ Some i = sym here ∙ ap (λ w. get_or (set θ x (Some j)) w None) (sym z) ∙ q in
              let m : j ≡ i = cc in
              omega arith
          | inr n ↦ h y i (sym (there y n) ∙ q)
        ];
      }

  var_never : (x k : ℕ) (ps : Terms) → get_or θ x None ≡ Some k → (k ≡ j → ⊥) → Never b θ (var x ▹ ps) (j ∷ js)
  var_never x k ps e n S σ rules s = n (same S b rules (σ x) (s.bound x k e) (parts s.means).0)

  placed : (x : ℕ) (ps qs : Terms) (θ' : List (Option ℕ)) (u : Unit {0}) → j < length b → x < length θ → Placed θ x j θ' (Some u) → in_front (node.Var x) (Some ps) ≡ Some qs → Onward b θ qs (j ∷ js) θ' ps js
  placed x ps qs θ' u l lx p e =
      let q = read_var x ps qs e in
      elim p [
        | inl w ↦ subst (λ z. Onward b θ z (j ∷ js) θ' ps js) (sym q) (subst (λ z. Onward b θ (var x ▹ ps) (j ∷ js) z ps js) (sym w.1) (var_bound x ps w.0))
        | inr w ↦ subst (λ z. Onward b θ z (j ∷ js) θ' ps js) (sym q) (subst (λ z. Onward b θ (var x ▹ ps) (j ∷ js) z ps js) (sym w.1) (var_free x ps l lx w.0))
      ]

  not_placed : (x : ℕ) (ps qs : Terms) (θ' : List (Option ℕ)) → Placed θ x j θ' None → in_front (node.Var x) (Some ps) ≡ Some qs → Never b θ qs (j ∷ js)
  not_placed x ps qs θ' p e = subst (λ z. Never b θ z (j ∷ js)) (sym (read_var x ps qs e)) (var_never x p.0 ps p.1 p.2)

  out : (t : Term) (ts : Terms) → length b ≤ j → Never b θ (t ▹ ts) (j ∷ js)
  out t ts g S σ rules s = omega (arith, means_within (parts s.means).0)

  outside : (n : Node) (ps qs : Terms) → length b ≤ j → in_front n (Some ps) ≡ Some qs → Never b θ qs (j ∷ js)
  outside (node.Var x) ps qs g e = subst (λ z. Never b θ z (j ∷ js)) (sym (read_var x ps qs e)) (out (var x) ps g)
  outside (node.App f a) ps qs g e = subst (λ z. Never b θ z (j ∷ js)) (sym (read_app f a ps qs e)) (out (app f (first a ps)) (rest a ps) g)

-- the first terms and the others, and so their cells
join : {b : List Cell} (σ : ℕ → Term) (a : ℕ) (ps : Terms) {is js : List ℕ} → MeansAll b is (subs σ (first a ps)) → MeansAll b js (subs σ (rest a ps)) → MeansAll b (is ++ js) (subs σ ps)
join σ zero ps none k = k
join σ (suc a) nil none k = k
join σ (suc a) (p ▹ ps) (and h hs) k = and h (join σ a ps hs k)

cut : {b : List Cell} (σ : ℕ → Term) (a : ℕ) (ps : Terms) (is js : List ℕ) → length is ≡ a → a ≤ width ps → MeansAll b (is ++ js) (subs σ ps) → MeansAll b is (subs σ (first a ps)) × MeansAll b js (subs σ (rest a ps))
cut σ zero ps [] js e l h = (none, h)
cut σ zero ps (i ∷ is) js e l h = absurd (let z : ⊥ = omega arith in z)
cut σ (suc a) nil is js e l h = absurd (let z : ⊥ = omega arith in z)
cut σ (suc a) (p ▹ ps) [] js e l h = absurd (let z : ⊥ = omega arith in z)
cut σ (suc a) (p ▹ ps) (i ∷ is) js e l h =
    let q = parts h in
    let r = cut σ a ps is js (omega arith) (omega arith) q.1 in
    (and q.0 r.0, r.1)

occurs : (x a : ℕ) (ps : Terms) → Occs x (first a ps) ⊎ Occs x (rest a ps) → Occs x ps
occurs x zero ps (inl o) = absurd o
occurs x zero ps (inr o) = o
occurs x (suc a) nil (inl o) = absurd o
occurs x (suc a) nil (inr o) = absurd o
occurs x (suc a) (p ▹ ps) (inl (inl o)) = inl o
occurs x (suc a) (p ▹ ps) (inl (inr o)) = inr (occurs x a ps (inl o))
occurs x (suc a) (p ▹ ps) (inr o) = inr (occurs x a ps (inr o))

same_width : (σ : ℕ → Term) (ts : Terms) → width (subs σ ts) ≡ width ts
same_width σ nil = refl
same_width σ (t ▹ ts) = ap suc (same_width σ ts)

module _ (b : List Cell) (θ : List (Option ℕ)) (j : ℕ) (js : List ℕ) (f a : ℕ) (ps qs : Terms) (e : in_front (node.App f a) (Some ps) ≡ Some qs) where
  wide : a ≤ width ps
  wide = read_wide f a ps qs e

  size : (S : Sig) {i g m : ℕ} {args : List ℕ} → Rules S b → i < length b → get_or b i (Var 0) ≡ App g m args → length (take m args) ≡ m
  size S {m = m} {args = args} rules l q = let n = fits S b rules l q in length-take-le m args (omega (arith, n.few, n.slots.four))

  opened : (args : List ℕ) → j < length b → get_or b j (Var 0) ≡ App f a args → Onward b θ qs (j ∷ js) θ ps (take a args ++ js)
  opened args l q = subst (λ z. Onward b θ z (j ∷ js) θ ps (take a args ++ js)) (sym (read_app f a ps qs e)) record {
    on = λ S σ rules s.
        let p = parts s.means in
        let o = open_app p.0 q in
        let t : o.terms ≡ subs σ (first a ps) = cc o.is in
        record { bound = s.bound; means = join σ a ps (subst (MeansAll b (take a args)) t o.means) p.1 };
    back = λ S σ rules s.
        let c = cut σ a ps (take a args) js (size S rules l q) wide s.means in
        record { bound = s.bound; means = and (is_app l q c.0) c.1 };
    keeps = λ x h. h;
    covers = λ x o. inr (occurs x a ps o);
    inside = λ h. h;
  }

  clash : (S : Sig) (us : Terms) → Rules S b → width us ≡ a → ((args : List ℕ) → get_or b j (Var 0) ≡ App f a args → ⊥) → Means b j (app f us) → ⊥
  clash S us rules w not (is_app {a = m} {args = args} l q h) =
      let z : m ≡ a = sym (size S rules l q) ∙ sym (tall b us h) ∙ w in
      not args (q ∙ ap (λ k. App f k args) z)

  not_opened : ((args : List ℕ) → get_or b j (Var 0) ≡ App f a args → ⊥) → Never b θ qs (j ∷ js)
  not_opened not = subst (λ z. Never b θ z (j ∷ js)) (sym (read_app f a ps qs e)) (λ S σ rules s.
      clash S (subs σ (first a ps)) rules (same_width σ (first a ps) ∙ width_first a ps wide) not (parts s.means).0)

-- the next cell is taken
pub taken : (old new : Row ℕ 32) (j : ℕ) → items old ≡ items new ++ j ∷ [] → pending old ≡ j ∷ pending new
taken old new j e = ap reverse e ∙ reverse-append (items new) (j ∷ [])

-- the arguments come in its place, the first of them next
pub put : (old new : Row ℕ 32) (m a : ℕ) (args : List ℕ) → m ≡ a → items new ≡ items old ++ reverse (take m args) → pending new ≡ take a args ++ pending old
put old new m a args is e =
    ap reverse e ∙ reverse-append (items old) (reverse (take m args)) ∙ ap (λ ys. ys ++ pending old) (reverse-reverse (take m args)) ∙ ap (λ (k : ℕ). take k args ++ pending old) is

-- a pattern's symbols take at most four arguments
pub few : (n : Node) (f a : ℕ) → n ≡ node.App f a → small n ≡ true → a ≤ 4
few n f a is h = omega (arith, ltb-true a 5 (and_parts (ltb f 64) (ltb a 5) (sym (ap small is) ∙ h)).1)

-- the same of the pending cells, of which j is the next
module _ (b : List Cell) (θ θ' : List (Option ℕ)) (js ks : List ℕ) (j : ℕ) (peeled : js ≡ j ∷ ks) where
  pub met_outside : (js' : List ℕ) (n : Node) → length b ≤ j → Met b n θ js θ' js' None
  met_outside js' n g ps qs e = subst (Never b θ qs) (sym peeled) (outside b θ j ks n ps qs g e)

  pub met_var : (n : Node) (x : ℕ) (u : Unit {0}) → n ≡ node.Var x → j < length b → x < length θ → Placed θ x j θ' (Some u) → Met b n θ js θ' ks (Some u)
  met_var n x u is l lx p = (
    omega (arith, ap arguments is, ap length peeled),
    λ ps qs e. subst (λ is. Onward b θ qs is θ' ps ks) (sym peeled) (placed b θ j ks x ps qs θ' u l lx p (ap (λ m. in_front m (Some ps)) (sym is) ∙ e)),
  )

  pub met_other : (js' : List ℕ) (n : Node) (x : ℕ) → n ≡ node.Var x → Placed θ x j θ' None → Met b n θ js θ' js' None
  met_other js' n x is p ps qs e = subst (Never b θ qs) (sym peeled) (not_placed b θ j ks x ps qs θ' p (ap (λ m. in_front m (Some ps)) (sym is) ∙ e))

  pub met_app : (js' : List ℕ) (n : Node) (f a : ℕ) (args : List ℕ) (u : Unit {0}) → n ≡ node.App f a → j < length b → get_or b j (Var 0) ≡ App f a args → length (take a args) ≡ a → js' ≡ take a args ++ ks → Met b n θ js θ js' (Some u)
  met_app js' n f a args u is l q long w = (
    omega (arith, ap arguments is, ap length peeled, simp length-append at (ap length w), long),
    λ ps qs e. subst (λ is. Onward b θ qs js θ ps is) (sym w)
        (subst (λ is. Onward b θ qs is θ ps (take a args ++ ks)) (sym peeled) (opened b θ j ks f a ps qs (ap (λ m. in_front m (Some ps)) (sym is) ∙ e) args l q)),
  )

  pub met_unlike : (js' : List ℕ) (n : Node) (f a : ℕ) → n ≡ node.App f a → ((args : List ℕ) → get_or b j (Var 0) ≡ App f a args → ⊥) → Met b n θ js θ' js' None
  met_unlike js' n f a is q ps qs e = subst (Never b θ qs) (sym peeled) (not_opened b θ j ks f a ps qs (ap (λ m. in_front m (Some ps)) (sym is) ∙ e) q)
