-- Entering a term that stands in the bank finds it, and changes nothing.
use Rattle.std.proofs.Common.{◌≡◌, ℕ, ◌<◌, ◌≤◌, List, [], ◌∷◌, length, get_or, take, Some, None, Option, sym, refl, ap, ◌∙◌, subst, ap₂, inl, inr, arith}
use Rattle.std.proofs.lemmas.List.{same_lists, get_or-take, get_or_default, get_or_past, length-take-le}
use Rattle.std.proofs.lemmas.Bool.{cases_lt}
use Rattle.terms.specs.Term.{Term, Terms, var, app, nil, ◌▹◌, width, sub, subs}
use Rattle.terms.specs.Sig.{Sig, Over, AllOver}
use Rattle.bank.specs.declared.cell.Cell.{Cell}
use Rattle.bank.specs.declared.cell.Cell.TheVariants.{Var, App}
use Rattle.bank.specs.Rules.{Slots, Rules}
use Rattle.bank.specs.Means.{Means, MeansAll, is_var, is_app, none, and}
use Rattle.bank.specs.Bindings.{Binds}
use Rattle.bank.proofs.Readings.{node, tall}
use Rattle.enter.specs.Enter.{noted, note, chain, fill, blank, bound, enter, enters}
use Rattle.enter.proofs.Noting.{place_some}
use Rattle.enter.proofs.Machining.{both, chain_some, chain_none}
use Rattle.enter.proofs.Growing.{Modest, AllModest, filled, same_width, enter_law, binds_grown}

-- the slots of a cell that keeps the rules are filled by its arguments
pub slots_filled : (i a : ℕ) (args : List ℕ) → a ≤ 4 → Slots i a args → fill blank 0 (take a args) ≡ args
slots_filled i a args few s =
    let size : length (take a args) ≡ a = length-take-le a args (omega (arith, s.four)) in
    let full = filled (take a args) (omega (arith, size)) in
    same_lists (fill blank 0 (take a args)) args (full.four ∙ sym s.four) (λ k d h.
    let k4 : k < 4 = omega (arith, h, full.four) in
    let ka : k < length args = omega (arith, s.four) in
    get_or_default (fill blank 0 (take a args)) k d 0 h ∙ full.each k ∙ (elim (cases_lt k a) [
      | inl l ↦ get_or-take a args k 0 l
      | inr g ↦ get_or_past (take a args) k 0 (omega (arith, size)) ∙ sym ((s.each k k4).1 g)
    ]) ∙ get_or_default args k 0 d ka)

module _ (S : Sig) (m : ℕ) (b : List Cell) (rules : Rules S b) where
  -- a cell of the bank is found where it stands
  pub noted_there : (i : ℕ) (c : Cell) → i < length b → get_or b i (Var 0) ≡ c → note m c b ≡ Some (b, i)
  noted_there i c l e =
      let p = place_some b c (Var 0) i l e (λ k h q. rules.apart i l (k, h, q ∙ sym e)) in
      ap (noted m c b) p

  mutual
    pub present : (t : Term) {i : ℕ} → Means b i t → enter m [] t b ≡ Some (b, i)
    present (var x) (is_var {i = i} l e) = noted_there i (Var x) l e
    present (app f ts) (is_app {i = i} {a = a} {args = args} l e h) =
        let n = node S b rules l e in
        let size : length (take a args) ≡ a = length-take-le a args (omega (arith, n.few, n.slots.four)) in
        let wide : width ts ≡ a = tall b ts h ∙ size in
        chain_some (enters m [] ts b) (λ r. note m (App f (width ts) (fill blank 0 r.1)) r.0) (both b (take a args)) (presents ts h)
        ∙ noted_there i (App f (width ts) (fill blank 0 (take a args))) l (e ∙ sym (ap₂ (λ w xs. App f w xs) wide (slots_filled i a args n.few n.slots)))

    pub presents : (ts : Terms) {is : List ℕ} → MeansAll b is ts → enters m [] ts b ≡ Some (b, is)
    presents nil none = refl
    presents (t ▹ ts) (and {i = i} {is = is} h hs) =
        chain_some (enter m [] t b) (λ r. chain (enters m [] ts r.0) (λ s. Some (both s.0 (r.1 ∷ s.1)))) (b, i) (present t h)
        ∙ chain_some (enters m [] ts b) (λ s. Some (both s.0 (i ∷ s.1))) (both b is) (presents ts hs)

-- bindings to cells do the same as the terms of those cells
module _ (S : Sig) (m : ℕ) (bindings : List (Option ℕ)) (σ : ℕ → Term) where
  bound_term : (x : ℕ) (o : Option ℕ) (b : List Cell) → get_or bindings x None ≡ o → Rules S b → Binds b bindings σ → bound m x b o ≡ enter m [] (σ x) b
  bound_term x (Some i) b e rules binds = sym (present S m b rules (σ x) (binds.cell x i e))
  bound_term x None b e rules binds = ap (λ t. enter m [] t b) (sym (binds.free x e))

  same_chain : {A B : Type 0} (o o' : Option A) (k k' : A → Option B) → o ≡ o' → ((a : A) → o ≡ Some a → k a ≡ k' a) → chain o k ≡ chain o' k'
  same_chain None o' k k' e h = sym (chain_none o' k' (sym e))
  same_chain (Some a) o' k k' e h = h a refl ∙ sym (chain_some o' k' a (sym e))

  mutual
    pub entered_instance : (t : Term) (b : List Cell) → Rules S b → Over S t → Modest t → Binds b bindings σ → enter m bindings t b ≡ enter m [] (sub σ t) b
    entered_instance (var x) b rules over modest binds = bound_term x (get_or bindings x None) b refl rules binds
    entered_instance (app f ts) b rules over modest binds =
        same_chain (enters m bindings ts b) (enters m [] (subs σ ts) b) (λ r. note m (App f (width ts) (fill blank 0 r.1)) r.0) (λ r. note m (App f (width (subs σ ts)) (fill blank 0 r.1)) r.0)
        (entered_instances ts b rules over.2 modest.1 binds)
        (λ r e. ap (λ w. note m (App f w (fill blank 0 r.1)) r.0) (same_width σ ts))

    pub entered_instances : (ts : Terms) (b : List Cell) → Rules S b → AllOver S ts → AllModest ts → Binds b bindings σ → enters m bindings ts b ≡ enters m [] (subs σ ts) b
    entered_instances nil b rules over modest binds = refl
    entered_instances (t ▹ ts) b rules over modest binds =
        same_chain (enter m bindings t b) (enter m [] (sub σ t) b) (λ r. chain (enters m bindings ts r.0) (λ s. Some (both s.0 (r.1 ∷ s.1)))) (λ r. chain (enters m [] (subs σ ts) r.0) (λ s. Some (both s.0 (r.1 ∷ s.1))))
        (entered_instance t b rules over.0 modest.0 binds)
        (λ r e.
        let g = enter_law S m bindings σ t b r.0 r.1 rules over.0 modest.0 binds e in
        let binds₁ = subst (λ z. Binds z bindings σ) (sym g.grows) (binds_grown b g.more bindings σ binds) in
        same_chain (enters m bindings ts r.0) (enters m [] (subs σ ts) r.0) (λ s. Some (both s.0 (r.1 ∷ s.1))) (λ s. Some (both s.0 (r.1 ∷ s.1)))
        (entered_instances ts r.0 g.rules over.1 modest.1 binds₁) (λ s q. refl))
