-- One cell's turn.
use Rattle.std.proofs.Common.{◌≡◌, ℕ, zero, suc, ◌<◌, ◌≤◌, Bool, true, false, ◌⊎◌, List, [], ◌∷◌, ◌++◌, length, get_or, take, Some, None, Decides, sym, refl, ap, ◌∙◌, subst, ap₂, inl, inr, append_assoc, arith, length-append}
use mathlib.Core.Bool.{false≢true}
use Rattle.std.proofs.lemmas.List.{get_or-take, length-take-le, get_or_append_left}
use Rattle.std.proofs.lemmas.Bool.{cases_Bool}
use Rattle.lists.specs.Members.{In}
use Rattle.terms.specs.Term.{Term, Terms, var, app, nil, ◌▹◌, width}
use Rattle.terms.specs.Sig.{Sig}
use Rattle.bank.specs.declared.cell.Cell.{Cell}
use Rattle.bank.specs.declared.cell.Cell.TheVariants.{Var, App}
use Rattle.bank.specs.Rules.{Rules, Slots, Node}
use Rattle.bank.specs.Means.{Means, MeansAll, is_app, none, and}
use Rattle.bank.proofs.Readings.{node, same, means_within, grown_all, reads, open_var, open_app, Opened, tall}
use Rattle.enter.specs.Enter.{note, fill, blank, enter, enters}
use Rattle.enter.proofs.Machining.{both, chain_some}
use Rattle.enter.proofs.Growing.{note_law}
use Rattle.reduction.specs.Reaches.{Reaches, argument}
use Rattle.reduction.specs.Replaced.{replace, replaces}
use Rattle.reduction.specs.Steps.{Crowded}
use Rattle.reduction.proofs.Subterms.{argument_lower}
use Rattle.reduction.proofs.Presence.{presents, slots_filled}
use Rattle.reduction.proofs.Replacing.{replaced_itself, replaced_app, replaced_var}
use Rattle.rebuild.specs.Forms.{Slotted, Mapped}
use Rattle.rebuild.specs.Rebuilds.{Ready}
use Rattle.rebuild.proofs.Rebuilding.{Forms, still, new_there, crowded, passes, turns, stands}

-- numbers by their places: two lists, the second of which has the first's numbers changed
pub record Renamed (ρ : ℕ → ℕ) (is js : List ℕ) : Type 0 where
  pub long : length js ≡ length is
  pub each : (k : ℕ) → k < length is → get_or js k 0 ≡ ρ (get_or is k 0)

module _ (b b₁ : List Cell) (s s' : Term) (ρ : ℕ → ℕ) where
  pub forms_of : (ts : Terms) {is : List ℕ} (js : List ℕ) → MeansAll b is ts → Renamed ρ is js
      → ((x : ℕ) → In x is → (t : Term) → Means b x t → Means b₁ (ρ x) (replace s s' t)) → MeansAll b₁ js (replaces s s' ts)
  forms_of nil [] none e h = none
  forms_of nil (j ∷ js) none e h = absurd (let z : ⊥ = omega (arith, e.long) in z)
  forms_of (t ▹ ts) [] (and n ns) e h = absurd (let z : ⊥ = omega (arith, e.long) in z)
  forms_of (t ▹ ts) (j ∷ js) (and {i = i} n ns) e h =
      and (subst (λ x. Means b₁ x (replace s s' t)) (sym (e.each 0 (omega arith))) (h i (inl refl) t n))
      (forms_of ts js ns (record { long = omega (arith, e.long); each = λ k l. e.each (suc k) (omega (arith, l)) }) (λ x q. h x (inr q)))

pub slots_renamed : (a : ℕ) (forms args args' : List ℕ) → a ≤ 4 → Slotted a forms args args' → Renamed (λ x. get_or forms x 0) (take a args) (take a args')
slots_renamed a forms args args' few h =
    let size = length-take-le a args (omega (arith, h.four)) in
    let size' = length-take-le a args' (omega (arith, h.four')) in
    record {
      long = size' ∙ sym size;
      each = λ k l. let ka : k < a = omega (arith, l, size) in get_or-take a args' k 0 ka ∙ h.each k (omega (arith, ka)) ka ∙ ap (λ x. get_or forms x 0) (sym (get_or-take a args k 0 ka));
    }

-- what is meant stands in the bank
pub all_within : (b : List Cell) (ts : Terms) {is : List ℕ} → MeansAll b is ts → (k : ℕ) → k < length is → get_or is k 0 < length b
all_within b nil none k l = absurd (let z : ⊥ = omega (arith, l) in z)
all_within b (t ▹ ts) (and n ns) zero l = means_within n
all_within b (t ▹ ts) (and n ns) (suc k) l = all_within b ts ns k (omega (arith, l))

-- a mark says whether a cell is reached
reached_or_not : {P : Type 0} {x : Bool} → Decides x P → P ⊎ (P → ⊥)
reached_or_not {x = x} d = elim (cases_Bool x) [ inl t ↦ inl (d.0 t) | inr f ↦ inr (λ p. false≢true (sym f ∙ d.1 p)) ]

module _ (S : Sig) (m : ℕ) (b b₀ : List Cell) (r j v : ℕ) (s s' : Term) (marks : List Bool) (ready : Ready S b b₀ r j v s s' marks)
    (k : ℕ) (b₁ : List Cell) (forms : List ℕ) (h : Forms S m b b₀ r j v s s' marks ready k b₁ forms) (within : k < length b) where
  pub same_cell_there : get_or b₁ k (Var 0) ≡ get_or b k (Var 0)
  same_cell_there =
      ap (λ z. get_or z k (Var 0)) (h.grows ∙ ap (λ z. z ++ h.more) ready.grows ∙ append_assoc b ready.more h.more)
      ∙ get_or_append_left b (ready.more ++ h.more) (Var 0) k within

  more_cells : length b ≤ length b₁
  more_cells = omega (arith, ap length h.grows ∙ length-append b₀ h.more, ap length ready.grows ∙ length-append b ready.more)

  not_redex : (k ≡ j → ⊥) → (t : Term) → Means b k t → t ≡ s → ⊥
  not_redex other t n e = other (same S b ready.rules s (subst (Means b k) e n) ready.there)

  module _ (f a : ℕ) (args args' : List ℕ) (is : get_or b k (Var 0) ≡ App f a args) (slotted : Slotted a forms args args') (reached : Reaches b r k) (other : k ≡ j → ⊥) where
    here : Node S k f a args
    here = node S b ready.rules within is

    pub old_term : (t : Term) × Means b k t × Opened b f (take a args) t
    old_term = let q = reads S b ready.rules k within in (q.0, q.1, open_app q.1 is)

    arg_form : (x : ℕ) → In x (take a args) → (t : Term) → Means b x t → Means b₁ (get_or forms x 0) (replace s s' t)
    arg_form x q t n =
        let low = argument_lower S b k x f a args ready.rules within is q in
        h.each x low (argument reached is q) t n

    abbrev pub ts : Terms
    ts = old_term.2.terms

    new_args : MeansAll b₁ (take a args') (replaces s s' ts)
    new_args = forms_of b b₁ s s' (λ x. get_or forms x 0) ts (take a args') old_term.2.means (slots_renamed a forms args args' here.few slotted) arg_form

    replaced : replace s s' old_term.0 ≡ app f (replaces s s' ts)
    replaced =
        ap (replace s s') old_term.2.is
        ∙ replaced_app s s' f ts (λ e. not_redex other old_term.0 old_term.1 (old_term.2.is ∙ e))

    new_slots : Slots (length b₁) a args'
    new_slots = record {
      four = slotted.four';
      each = λ i i4. (
        λ ia. subst (λ x. x < length b₁) (get_or-take a args' i 0 ia) (all_within b₁ (replaces s s' ts) new_args i (omega (arith, ia, length-take-le a args' (omega (arith, slotted.four', here.few))))),
        λ ai. slotted.rest i i4 ai,
      );
    }

    new_node : Node S (length b₁) f a args'
    new_node = record { symbol = here.symbol; arity = here.arity; few = here.few; slots = new_slots }

    wide : width (replaces s s' ts) ≡ a
    wide = tall b₁ (replaces s s' ts) new_args ∙ length-take-le a args' (omega (arith, slotted.four', here.few))

    -- entering the changed form is looking for its cell
    pub as_noted : enter m [] (replace s s' old_term.0) b₁ ≡ note m (App f a args') b₁
    as_noted =
        ap (λ t. enter m [] t b₁) replaced
        ∙ (chain_some (enters m [] (replaces s s' ts) b₁) (λ q. note m (App f (width (replaces s s' ts)) (fill blank 0 q.1)) q.0) (both b₁ (take a args')) (presents S m b₁ h.rules (replaces s s' ts) new_args)
        ∙ ap₂ (λ w xs. note m (App f w xs) b₁) wide (slots_filled (length b₁) a args' here.few new_slots))

    pub keeps : App f a args' ≡ get_or b k (Var 0) → Means b₁ k (replace s s' old_term.0)
    keeps e = subst (Means b₁ k) (sym replaced) (is_app (omega (arith, within, more_cells)) (same_cell_there ∙ sym e) new_args)

    pub fresh : (b₂ : List Cell) (i : ℕ) → note m (App f a args') b₁ ≡ Some (b₂, i) → (more : List Cell) × (b₂ ≡ b₁ ++ more) × Rules S b₂ × Means b₂ i (replace s s' old_term.0)
    fresh b₂ i e =
        let n = note_law S m b₁ (App f a args') b₂ i h.rules new_node e in
        (n.more, n.grows, n.rules, subst (Means b₂ i) (sym replaced) (is_app n.within n.is (subst (λ z. MeansAll z (take a args') (replaces s s' ts)) (sym n.grows) (grown_all b₁ n.more (replaces s s' ts) new_args))))

  abbrev State : List Cell → List ℕ → Type 0
  State b₂ forms' = Forms S m b b₀ r j v s s' marks ready (suc k) b₂ forms'

  module _ (forms' : List ℕ) (i : ℕ) (others : (x : ℕ) → x < k → get_or forms' x 0 ≡ get_or forms x 0) (put : get_or forms' k 0 ≡ i) where
    -- the replaced cell
    pub redex_turn : k ≡ j → i ≡ v → State b₁ forms'
    redex_turn e q =
        elim (reached_or_not (ready.marked k)) [
          | inl reached ↦
              stands S m b b₀ r j v s s' marks ready k b₁ forms h forms' i others put s (subst (λ x. Means b x s) (sym e) ready.there) reached
              (subst (Means b₁ i) (sym (replaced_itself s s')) (subst (λ x. Means b₁ x s') (sym q) (new_there S m b b₀ r j v s s' marks ready k b₁ forms h)))
          | inr out ↦ passes S m b b₀ r j v s s' marks ready k b₁ forms h forms' i others put out
        ]

    -- a cell that is no subterm of the root's
    pub outside_turn : get_or marks k false ≡ false → State b₁ forms'
    outside_turn off = passes S m b b₀ r j v s s' marks ready k b₁ forms h forms' i others put (λ q. false≢true (sym off ∙ (ready.marked k).1 q))

    -- a subterm whose form is its own cell
    pub kept_turn : (c : Cell) → (k ≡ j → ⊥) → get_or marks k false ≡ true → (d : Cell) → get_or b k (Var 0) ≡ d → Mapped forms d c → c ≡ d → i ≡ k → State b₁ forms'
    kept_turn c other on (Var x) e mapped same_cell q =
        let t = reads S b ready.rules k within in
        let is : t.0 ≡ var x = open_var t.1 e in
        let unmoved : replace s s' t.0 ≡ t.0 = ap (replace s s') is ∙ (replaced_var s s' x (λ w. not_redex other t.0 t.1 (is ∙ w)) ∙ sym is) in
        stands S m b b₀ r j v s s' marks ready k b₁ forms h forms' i others put t.0 t.1 ((ready.marked k).0 on)
        (subst (λ y. Means b₁ y (replace s s' t.0)) (sym q) (subst (Means b₁ k) (sym unmoved) (still S m b b₀ r j v s s' marks ready k b₁ forms h t.1)))
    kept_turn c other on (App f a args) e (args', is, slotted) same_cell q =
        let reached = (ready.marked k).0 on in
        let t = old_term f a args args' e slotted reached other in
        stands S m b b₀ r j v s s' marks ready k b₁ forms h forms' i others put t.0 t.1 reached
        (subst (λ y. Means b₁ y (replace s s' t.0)) (sym q) (keeps f a args args' e slotted reached other (sym is ∙ same_cell ∙ sym e)))

    -- a subterm whose form is another cell
    pub fresh_turn : (c : Cell) → (k ≡ j → ⊥) → get_or marks k false ≡ true → (d : Cell) → get_or b k (Var 0) ≡ d → Mapped forms d c → (c ≡ d → ⊥) → (b₂ : List Cell) → note m c b₁ ≡ Some (b₂, i) → State b₂ forms'
    fresh_turn c other on (Var x) e mapped differs b₂ noted = absurd (differs mapped)
    fresh_turn c other on (App f a args) e (args', is, slotted) differs b₂ noted =
        let reached = (ready.marked k).0 on in
        let t = old_term f a args args' e slotted reached other in
        let n : note m (App f a args') b₁ ≡ Some (b₂, i) = ap (λ z. note m z b₁) (sym is) ∙ noted in
        let g = fresh f a args args' e slotted reached other b₂ i n in
        turns S m b b₀ r j v s s' marks ready k b₁ forms h forms' i others put t.0 t.1 reached b₂ g.0 g.1 g.2 (as_noted f a args args' e slotted reached other ∙ n) g.3

  -- a subterm whose form finds no room
  pub full_turn : (c : Cell) → (k ≡ j → ⊥) → get_or marks k false ≡ true → (d : Cell) → get_or b k (Var 0) ≡ d → Mapped forms d c → (c ≡ d → ⊥) → note m c b₁ ≡ None → Crowded m b r s s' b₀
  full_turn c other on (Var x) e mapped differs noted = absurd (differs mapped)
  full_turn c other on (App f a args) e (args', is, slotted) differs noted =
      let reached = (ready.marked k).0 on in
      let t = old_term f a args args' e slotted reached other in
      crowded S m b b₀ r j v s s' marks ready k b₁ forms h t.0 t.1 reached (as_noted f a args args' e slotted reached other ∙ (ap (λ z. note m z b₁) (sym is) ∙ noted))
