-- What the walk over a pattern's nodes keeps, and what it comes to.
use Rattle.std.proofs.Common.{◌≡◌, ℕ, zero, suc, ◌+◌, ◌<◌, ◌≤◌, true, List, [], ◌∷◌, length, get_or, replicate, Some, None, Option, unwrap_or, sym, refl, ap, ◌∙◌, subst, inl, inr, arith}
use Rattle.std.proofs.lemmas.List.{drop_all}
use Rattle.terms.specs.Term.{Term, Terms, var, nil, ◌▹◌, width}
use Rattle.terms.specs.Sig.{Sig}
use Rattle.terms.specs.Preorder.{in_front, row, small}
use Rattle.terms.specs.Patterns.{nodes_of, term_of}
use Rattle.terms.specs.declared.pattern.Pattern.{Pattern}
use Rattle.terms.specs.declared.pattern.Node.{Node}
use Rattle.terms.specs.declared.pattern.Node.TheVariants.{Var, App}
use Rattle.terms.proofs.Rows.{small_at}
use Rattle.subterms.specs.Places.{from, arguments}
use Rattle.subterms.proofs.Preorders.{width_rest, read_var, read_app, read_wide}
use Rattle.subterms.proofs.Places.{from_whole, width_from, step}
use Rattle.subterms.proofs.Patterns.{pattern_short}
use Rattle.bank.specs.declared.cell.Cell.{Cell}
use Rattle.bank.specs.Rules.{Rules}
use Rattle.bank.specs.Means.{Means, none, and}
use Rattle.bank.specs.Bindings.{Binds}
use Rattle.bank.proofs.Readings.{reads}
use Rattle.matching.specs.Matched.{Bound, Matched}
use Rattle.matching.specs.Solving.{Inside, Onward, Met}
use Rattle.matching.proofs.Turns.{none_some, parts, onward_same, onward_trans}

abbrev pub unbound : List (Option ℕ)
unbound = replicate 16 None

unbound_none : (n x : ℕ) → get_or {A = Option ℕ} (replicate n None) x None ≡ None
unbound_none zero x = refl
unbound_none (suc n) zero = refl
unbound_none (suc n) (suc x) = unbound_none n x

-- before node i, with the bindings θ and the cells js
pub record Going (b : List Cell) (p : Pattern) (cell : ℕ) (θ : List (Option ℕ)) (js : List ℕ) (i : ℕ) : Type 0 where
  pub slots : length θ ≡ 16
  pub tall : width (from (nodes_of p) i) ≡ length js
  pub onward : Onward b unbound (term_of p ▹ nil) (cell ∷ []) θ (from (nodes_of p) i) js

pub start : (b : List Cell) (p : Pattern) (cell : ℕ) (js : List ℕ) → js ≡ cell ∷ [] → Going b p cell unbound js 0
start b p cell js e =
    let t : term_of p ▹ nil ≡ from (nodes_of p) 0 = sym (from_whole (nodes_of p) p.whole) in
    let P = λ (ts : Terms). λ (js : List ℕ). Onward b unbound (term_of p ▹ nil) (cell ∷ []) unbound ts js in
    record {
      slots = refl;
      tall = sym (ap width t) ∙ sym (ap length e);
      onward = subst (λ js. P (from (nodes_of p) 0) js) (sym e) (subst (λ ts. P ts (cell ∷ [])) t onward_same);
    }

-- a node takes its arguments from the terms behind it
front_width : (n : Node) (ps qs : Terms) → in_front n (Some ps) ≡ Some qs → (0 < width qs) × (width qs + arguments n ≡ width ps + 1)
front_width (Var x) ps qs e = let q = ap width (read_var x ps qs e) in (omega arith, omega arith)
front_width (App f a) ps qs e =
    let q = ap width (read_app f a ps qs e) in
    let r = width_rest a ps (read_wide f a ps qs e) in
    (omega arith, omega arith)

module _ {b : List Cell} {p : Pattern} {cell : ℕ} {θ : List (Option ℕ)} {js : List ℕ} {i : ℕ} (g : Going b p cell θ js i) where
  module _ (n : Node) (l : i < length (nodes_of p)) (is : get_or (nodes_of p) i (Var 0) ≡ n) where
    front : in_front n (Some (from (nodes_of p) (i + 1))) ≡ Some (from (nodes_of p) i)
    front = step (nodes_of p) p.whole i n l is

    pub fits : length js + arguments n ≤ 33
    fits = omega (arith, (front_width n _ _ front).0, (front_width n _ _ front).1, g.tall, width_from (nodes_of p) p.whole (i + 1), pattern_short p)

    pub small_node : small n ≡ true
    small_node = ap small (sym is) ∙ small_at (nodes_of p) i p.within l

    pub again : (θ' : List (Option ℕ)) (js' : List ℕ) (u : Unit {0}) → length θ' ≡ length θ → Met b n θ js θ' js' (Some u) → Going b p cell θ' js' (i + 1)
    again θ' js' u sθ m = record {
      slots = sθ ∙ g.slots;
      tall = omega (arith, m.0, (front_width n _ _ front).1, g.tall);
      onward = onward_trans g.onward (m.1 (from (nodes_of p) (i + 1)) (from (nodes_of p) i) front);
    }

    pub ended : (θ' : List (Option ℕ)) (js' : List ℕ) → Met b n θ js θ' js' None → Matched b p cell None
    ended θ' js' m S rules within inst =
        let none-bound : (x k : ℕ) → get_or unbound x None ≡ Some k → Means b k (inst.inst x) = λ x k e. absurd (none_some (sym (unbound_none 16 x) ∙ e)) in
        m (from (nodes_of p) (i + 1)) (from (nodes_of p) i) front S inst.inst rules
        (g.onward.on S inst.inst rules record { bound = none-bound; means = and inst.means none })

-- a binding's term
abbrev read_at : (S : Sig) (b : List Cell) → Rules S b → (o : Option ℕ) → ((i : ℕ) → o ≡ Some i → i < length b) → ℕ → Term
read_at S b rules None l x = var x
read_at S b rules (Some i) l x = (reads S b rules i (l i refl)).0

read_means : (S : Sig) (b : List Cell) (rules : Rules S b) (o : Option ℕ) (l : (i : ℕ) → o ≡ Some i → i < length b) (x i : ℕ) → o ≡ Some i → Means b i (read_at S b rules o l x)
read_means S b rules None l x i e = absurd (none_some e)
read_means S b rules (Some k) l x i e = let z : k ≡ i = cc in subst (λ j. Means b j (reads S b rules k (l k refl)).0) z (reads S b rules k (l k refl)).1

read_free : (S : Sig) (b : List Cell) (rules : Rules S b) (o : Option ℕ) (l : (i : ℕ) → o ≡ Some i → i < length b) (x : ℕ) → o ≡ None → read_at S b rules o l x ≡ var x
read_free S b rules None l x e = refl
read_free S b rules (Some k) l x e = absurd (none_some (sym e))

bound : (S : Sig) (b : List Cell) (t : Term) (cell : ℕ) (θ : List (Option ℕ)) → Rules S b → Onward b unbound (t ▹ nil) (cell ∷ []) θ nil [] → Bound b t θ cell
bound S b t cell θ rules o =
    let inside : Inside b θ = o.inside (λ x i e. absurd (none_some (sym (unbound_none 16 x) ∙ e))) in
    let σ = λ (x : ℕ). read_at S b rules (get_or θ x None) (inside x) x in
    let binds : Binds b θ σ = record { cell = λ x i e. read_means S b rules (get_or θ x None) (inside x) x i e; free = λ x e. read_free S b rules (get_or θ x None) (inside x) x e } in
    record {
      inst = σ;
      binds = binds;
      means = (parts (o.back S σ rules record { bound = binds.cell; means = none }).means).0;
      covers = λ x occ. elim (o.covers x (inl occ)) [ inl h ↦ h | inr z ↦ absurd z ];
    }

empty : (js : List ℕ) → length js ≡ 0 → js ≡ []
empty [] e = refl
empty (j ∷ js) e = absurd (omega arith)

pub finished : {b : List Cell} {p : Pattern} {cell : ℕ} {θ : List (Option ℕ)} {js : List ℕ} {i : ℕ} → Going b p cell θ js i → length (nodes_of p) ≤ i → Matched b p cell (Some θ)
finished {b = b} {p = p} {cell = cell} {θ = θ} {js = js} {i = i} g past =
    let all : from (nodes_of p) i ≡ nil = ap (λ ns. unwrap_or (row ns) nil) (drop_all i (nodes_of p) past) in
    let left : js ≡ [] = empty js (sym g.tall ∙ ap width all) in
    let P = λ (ts : Terms). λ (js : List ℕ). Onward b unbound (term_of p ▹ nil) (cell ∷ []) θ ts js in
    let o = subst (P nil) left (subst (λ ts. P ts js) all g.onward) in
    (g.slots, λ S rules within. bound S b (term_of p) cell θ rules o)
