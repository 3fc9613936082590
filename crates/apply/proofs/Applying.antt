-- One step, argued from what its calls give.
use Rattle.std.proofs.Common.{◌≡◌, ℕ, ◌<◌, ◌≤◌, Bool, List, [], ◌++◌, length, take, drop, Some, None, Option, sym, refl, ap, ◌∙◌, subst, inl, inr, append_assoc, arith, length-append}
use Rattle.std.proofs.lemmas.List.{length-take-le, take-take, take-append-drop}
use Rattle.terms.specs.Term.{Term, sub}
use Rattle.terms.specs.Sig.{Sig, Over}
use Rattle.terms.specs.Patterns.{term_of}
use Rattle.terms.specs.declared.pattern.Pattern.{Pattern}
use Rattle.bank.specs.declared.cell.Cell.{Cell}
use Rattle.bank.specs.Bindings.{Instance as Match}
use Rattle.bank.specs.Checked.{Sized}
use Rattle.bank.proofs.Readings.{reads, means_within}
use Rattle.index.specs.Maps.{Map}
use Rattle.enter.specs.Enter.{enter}
use Rattle.enter.specs.Grown.{Grown}
use Rattle.enter.specs.Machine.{Grew}
use Rattle.enter.specs.Outcome.{Instance}
use Rattle.enter.proofs.Machining.{none_some}
use Rattle.enter.proofs.Rows.{modest}
use Rattle.matching.specs.Matched.{Bound, Matched}
use Rattle.reduction.specs.declared.oriented.Oriented.{Oriented}
use Rattle.reduction.specs.Redexes.{Equations, higher_side, lower_side}
use Rattle.reduction.specs.Steps.{Redex, Stepped, Blocked}
use Rattle.reduction.proofs.Presence.{entered_instance}
use Rattle.rebuild.specs.Rebuilds.{Ready, Ended, Rebuilds}
use Rattle.apply.specs.declared.Applied.{Applied}
use Rattle.apply.specs.Enters.{Enters}
use Rattle.apply.specs.Applies.{Redo, Taken}

-- an equation by one of its sides
pub record Sides (E : Equations) (k : ℕ) (higher : Pattern) : Type 0 where
  pub equation : Oriented
  pub stored : E k ≡ Some equation
  pub is : equation.higher ≡ higher

from_higher : (E : Equations) (k : ℕ) (p : Pattern) (o : Option Oriented) → E k ≡ o → higher_side o ≡ Some p → Sides E k p
from_higher E k p None e h = absurd (none_some h)
from_higher E k p (Some q) e h = record { equation = q; stored = e; is = let w : Some q.higher ≡ Some p = h in cc }

module _ (S : Sig) (E : Equations) (m low : Map) (cells : List Cell) (n r j k : ℕ) (marks : List Bool) (h : Redo S E m low cells n r j k marks) where
  abbrev b : List Cell
  b = take n cells

  size : length b ≡ n
  size = length-take-le n cells h.counted

  pub redex_counted : j < length b
  redex_counted = omega (arith, size, h.redex)

  pub sized : Sized cells
  sized = (omega (arith, h.root, h.counted), h.few)

  pub not_absent : m k ≡ None → ⊥
  not_absent e = none_some (sym e ∙ h.applies.stored)

  -- the equation whose higher side the index has
  sides : (p : Pattern) → m k ≡ Some p → Sides E k p
  sides p e = from_higher E k p (E k) refl (sym (h.filed.higher k) ∙ e)

  pub lower_there : low k ≡ None → ⊥
  lower_there e =
      let q = sides h.applies.pattern h.applies.stored in
      let w : Some q.equation.lower ≡ None = sym (ap lower_side q.stored) ∙ (sym (h.filed.lower k) ∙ e) in
      none_some (sym w)

  module _ (higher lower : Pattern) (is-higher : m k ≡ Some higher) (is-lower : low k ≡ Some lower) where
    eq : Sides E k higher
    eq = sides higher is-higher

    low_is : eq.equation.lower ≡ lower
    low_is = let w : Some eq.equation.lower ≡ Some lower = sym (ap lower_side eq.stored) ∙ (sym (h.filed.lower k) ∙ is-lower) in cc

    pub matches : Matched b higher j None → ⊥
    matches out =
        let same-pattern : h.applies.pattern ≡ higher = let w : Some h.applies.pattern ≡ Some higher = sym h.applies.stored ∙ is-higher in cc in
        out S h.rules (omega (arith, size, h.redex)) (subst (λ (p : Pattern). Match b (term_of p) j) same-pattern h.applies.fits)

    over_higher : Over S (term_of higher)
    over_higher = subst (λ (p : Pattern). Over S (term_of p)) eq.is (h.filed.over k eq.equation eq.stored).0

    over_lower : Over S (term_of lower)
    over_lower = subst (λ (p : Pattern). Over S (term_of p)) low_is (h.filed.over k eq.equation eq.stored).1

    module _ (θ : List (Option ℕ)) (bound : Bound b (term_of higher) θ j) where
      abbrev old : Term
      old = sub bound.inst (term_of higher)

      abbrev new : Term
      new = sub bound.inst (term_of lower)

      redex : Redex E b j k old new
      redex = record {
        equation = eq.equation;
        stored = eq.stored;
        inst = bound.inst;
        from = ap (λ (p : Pattern). sub bound.inst (term_of p)) (sym eq.is);
        to = ap (λ (p : Pattern). sub bound.inst (term_of p)) (sym low_is);
        means = bound.means;
      }

      as_term : enter (length cells) θ (term_of lower) b ≡ enter (length cells) [] new b
      as_term = entered_instance S (length cells) θ bound.inst (term_of lower) b h.rules over_lower (modest lower) bound.binds

      -- the instance finds no room
      pub no_instance : enter (length cells) θ (term_of lower) b ≡ None → Blocked (length cells) E b r j k
      no_instance e = record { old = old; new = new; redex = redex; no_room = inl (sym as_term ∙ e) }

      module _ (cells₁ : List Cell) (n₁ v : ℕ) (entered : Instance lower θ cells n cells₁ n₁ v) (same_size : length cells₁ ≡ length cells) where
        grown : Grown S b new (take n₁ cells₁) v
        grown = entered.law S bound.inst h.rules over_lower bound.binds

        pub grows_up : n ≤ n₁
        grows_up = let long = ap length grown.grows ∙ length-append b grown.more in omega (arith, long, size, length-take-le n₁ cells₁ entered.within)

        first : enter (length cells) [] new b ≡ Some (take n₁ cells₁, v)
        first = sym as_term ∙ entered.enters

        ready : Ready S b (take n₁ cells₁) r j v old new marks
        ready = record {
          more = grown.more;
          grows = grown.grows;
          rules = h.rules;
          rules₀ = grown.rules;
          root = omega (arith, size, h.root);
          there = bound.means;
          instead = grown.means;
          marked = h.marked;
        }

        ended : (cells₂ : List Cell) (n₂ : ℕ) (o : Option ℕ) → Rebuilds cells₁ n₁ r j v marks 2048 cells₂ n₂ o → Ended S (length cells) b (take n₁ cells₁) r old new (take n₂ cells₂) o
        ended cells₂ n₂ o does =
            subst (λ l. Ended S l b (take n₁ cells₁) r old new (take n₂ cells₂) o) same_size
            (does entered.within (omega (arith, same_size, h.few)) h.room (omega (arith, h.root, h.counted, h.few)) S b old new ready)

        pub no_forms : (cells₂ : List Cell) (n₂ : ℕ) → Rebuilds cells₁ n₁ r j v marks 2048 cells₂ n₂ None → Blocked (length cells) E b r j k
        no_forms cells₂ n₂ does = record { old = old; new = new; redex = redex; no_room = inr (take n₁ cells₁, v, first, ended cells₂ n₂ None does) }

        pub taken : (cells₂ : List Cell) (n₂ r' : ℕ) (a : Applied) → Rebuilds cells₁ n₁ r j v marks 2048 cells₂ n₂ (Some r') → Grew cells₁ n₁ cells₂ n₂ → a.put_in ≡ v → a.after ≡ r' → Taken S E cells n r j k cells₂ n₂ a
        taken cells₂ n₂ r' a does grew is-v is-r =
            let d = ended cells₂ n₂ (Some r') does in
            let t = reads S b h.rules r (omega (arith, size, h.root)) in
            let size₂ = length-take-le n₂ cells₂ grew.within in
            let front : take n₁ cells₂ ≡ take n₁ cells₁ = grew.front in
            record {
              stepped = subst (λ x. Stepped (length cells) E b r j k a.put_in (take n₂ cells₂) x) (sym is-r) (subst (λ x. Stepped (length cells) E b r j k x (take n₂ cells₂) r') (sym is-v) (record {
                old = old;
                new = new;
                redex = redex;
                first = take n₁ cells₁;
                entered = first;
                rebuilt = d.rebuilt;
                present = d.present;
              }));
              rules = d.rules;
              more = grown.more ++ drop n₁ (take n₂ cells₂);
              grows = sym (take-append-drop n₁ (take n₂ cells₂)) ∙ ap (λ z. z ++ drop n₁ (take n₂ cells₂)) (take-take n₁ n₂ cells₂ grew.up ∙ (front ∙ grown.grows)) ∙ append_assoc b grown.more (drop n₁ (take n₂ cells₂));
              within = grew.within;
              after = omega (arith, is-r, size₂, means_within (d.present t.0 t.1));
            }

-- the guard's count is the bank's
pub entered_at : (p : Pattern) (θ : List (Option ℕ)) (cells : List Cell) (n₀ n : ℕ) (cells₁ : List Cell) (n₁ v : ℕ) → n₀ ≡ n → Enters p θ cells n₀ cells₁ n₁ (Some v) → Instance p θ cells n cells₁ n₁ v
entered_at p θ cells n₀ n cells₁ n₁ v e h = subst (λ x. Instance p θ cells x cells₁ n₁ v) e h

pub record Refused (p : Pattern) (θ : List (Option ℕ)) (cells : List Cell) (n : ℕ) (cells₁ : List Cell) : Type 0 where
  pub stays : take n cells₁ ≡ take n cells
  pub none : Sized cells → n ≤ length cells → enter (length cells) θ (term_of p) (take n cells) ≡ None

pub refused_at : (p : Pattern) (θ : List (Option ℕ)) (cells : List Cell) (n₀ n : ℕ) (cells₁ : List Cell) (n₁ : ℕ) → n₀ ≡ n → Enters p θ cells n₀ cells₁ n₁ None → Refused p θ cells n cells₁
refused_at p θ cells n₀ n cells₁ n₁ e h = subst (λ x. Refused p θ cells x cells₁) e (record { stays = h.1; none = h.2 })

pub ends_at : (S : Sig) (E : Equations) (cells : List Cell) (n r j k : ℕ) (cells₂ : List Cell) (n₂ n₃ : ℕ) (a : Applied) → n₃ ≡ n₂ → Taken S E cells n r j k cells₂ n₂ a → Taken S E cells n r j k cells₂ n₃ a
ends_at S E cells n r j k cells₂ n₂ n₃ a e h = subst (λ x. Taken S E cells n r j k cells₂ x a) (sym e) h

-- what was counted before the step stays
pub stays : (cells cells₁ cells₂ : List Cell) (n n₁ n₂ : ℕ) → n ≤ n₁ → take n cells₁ ≡ take n cells → Grew cells₁ n₁ cells₂ n₂ → take n cells₂ ≡ take n cells
stays cells cells₁ cells₂ n n₁ n₂ up e g = sym (take-take n n₁ cells₂ up) ∙ ap (take n) g.front ∙ take-take n n₁ cells₁ up ∙ e
