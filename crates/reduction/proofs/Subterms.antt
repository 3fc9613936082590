-- A cell is reached from another exactly if its term is a subterm of the other's.
use Rattle.std.proofs.Common.{◌≡◌, ℕ, ◌<◌, ◌≤◌, List, length, get_or, take, sym, refl, ◌∙◌, subst, inl, inr, arith}
use Rattle.std.proofs.lemmas.List.{get_or-take, length-take-le}
use Rattle.lists.specs.Members.{In}
use Rattle.lists.proofs.Members.{place}
use Rattle.terms.specs.Term.{Term, Terms, var, app, nil, ◌▹◌}
use Rattle.terms.specs.Sig.{Sig}
use Rattle.bank.specs.declared.cell.Cell.{Cell}
use Rattle.bank.specs.declared.cell.Cell.TheVariants.{Var, App}
use Rattle.bank.specs.Rules.{Rules}
use Rattle.bank.specs.Means.{Means, MeansAll, is_app, none, and}
use Rattle.bank.proofs.Readings.{node, same, open_app}
use Rattle.enter.specs.Grown.{Part, Parts}
use Rattle.reduction.specs.Reaches.{Reaches, root, argument}

pub part_self : (t : Term) → Part t t
part_self (var x) = refl
part_self (app f ts) = inl refl

mutual
  pub part_trans : (s u t : Term) → Part s u → Part u t → Part s t
  part_trans s u (var x) h e = subst (Part s) e h
  part_trans s u (app f ts) h (inl e) = subst (Part s) e h
  part_trans s u (app f ts) h (inr k) = inr (parts_trans s u ts h k)

  pub parts_trans : (s u : Term) (ts : Terms) → Part s u → Parts u ts → Parts s ts
  parts_trans s u nil h k = absurd k
  parts_trans s u (t ▹ ts) h (inl k) = inl (part_trans s u t h k)
  parts_trans s u (t ▹ ts) h (inr k) = inr (parts_trans s u ts h k)

pub reach_trans : {b : List Cell} {r i j : ℕ} → Reaches b r i → Reaches b i j → Reaches b r j
reach_trans h root = h
reach_trans h (argument k e m) = argument (reach_trans h k) e m

-- an argument's cell stands for one of the arguments
pub of_argument : (b : List Cell) (ts : Terms) {is : List ℕ} (j : ℕ) → MeansAll b is ts → In j is → (s : Term) × Means b j s × Parts s ts
of_argument b nil j none h = absurd h
of_argument b (t ▹ ts) j (and k ks) (inl e) = (t, subst (λ x. Means b x t) (sym e) k, inl (part_self t))
of_argument b (t ▹ ts) j (and k ks) (inr h) = let v = of_argument b ts j ks h in (v.0, v.1, inr v.2)

module _ (b : List Cell) (r : ℕ) where
  -- what a reached cell stands for is a subterm
  pub reached_part : {j : ℕ} (t : Term) → Means b r t → Reaches b r j → (s : Term) × Means b j s × Part s t
  reached_part t h root = (t, h, part_self t)
  reached_part t h (argument {j = j} {a = a} {args = args} k e n) =
      let u = reached_part t h k in
      let o = open_app u.1 e in
      let v = of_argument b o.terms j o.means n in
      (v.0, v.1, part_trans v.0 u.0 t (subst (Part v.0) (sym o.is) (inr v.2)) u.2)

module _ (S : Sig) (b : List Cell) (rules : Rules S b) where
  mutual
    -- a cell whose term is a subterm is reached
    pub part_reached : (s t : Term) (r j : ℕ) → Part s t → Means b r t → Means b j s → Reaches b r j
    part_reached s (var x) r j e h m = subst (Reaches b r) (same S b rules s (subst (Means b r) (sym e) h) m) root
    part_reached s (app f ts) r j (inl e) h m = subst (Reaches b r) (same S b rules s (subst (Means b r) (sym e) h) m) root
    part_reached s (app f ts) r j (inr k) (is_app {a = a} {args = args} l e hs) m = parts_reached s ts r j k hs m (λ i n. argument root e n)

    parts_reached : (s : Term) (ts : Terms) (r j : ℕ) {is : List ℕ} → Parts s ts → MeansAll b is ts → Means b j s → ((i : ℕ) → In i is → Reaches b r i) → Reaches b r j
    parts_reached s nil r j k hs m reach = absurd k
    parts_reached s (t ▹ ts) r j (inl k) (and {i = i} h hs) m reach = reach_trans (reach i (inl refl)) (part_reached s t i j k h m)
    parts_reached s (t ▹ ts) r j (inr k) (and h hs) m reach = parts_reached s ts r j k hs m (λ i n. reach i (inr n))

-- an argument has a lower number than its term
pub argument_lower : (S : Sig) (b : List Cell) (i j f a : ℕ) (args : List ℕ) → Rules S b → i < length b → get_or b i (Var 0) ≡ App f a args → In j (take a args) → j < i
argument_lower S b i j f a args rules l e h =
    let n = node S b rules l e in
    let p = place j 0 (take a args) h in
    let size = length-take-le a args (omega (arith, n.few, n.slots.four)) in
    let low : p.at < a = omega (arith, p.below, size) in
    subst (λ v. v < i) (sym (get_or-take a args p.at 0 low) ∙ p.reads) ((n.slots.each p.at (omega (arith, low, n.few))).0 low)

-- a subterm's cell does not come after the term's
pub reached_below : (S : Sig) (b : List Cell) (r : ℕ) → Rules S b → r < length b → {j : ℕ} → Reaches b r j → j ≤ r
reached_below S b r rules l root = omega arith
reached_below S b r rules l (argument {i = i} {j = j} {f = f} {a = a} {args = args} k e n) =
    let up = reached_below S b r rules l k in
    let low = argument_lower S b i j f a args rules (omega (arith, up, l)) e n in
    omega (arith, up, low)
