-- Marks pass down from the root: those of the cells from k on have gone to their arguments.
use Rattle.std.proofs.Common.{◌≡◌, ℕ, ◌+◌, ◌-◌, ◌<◌, ◌≤◌, Bool, true, false, ◌⊎◌, List, length, get_or, set, sym, refl, ◌∙◌, subst, inl, inr, arith, get_or-set_other, get_or-set_same}
use mathlib.Core.Bool.{false≢true}
use native.Mathlib.Decide.{ℕ_discrete}
use Rattle.lists.specs.Members.{In}
use Rattle.terms.specs.Sig.{Sig}
use Rattle.bank.specs.declared.cell.Cell.{Cell}
use Rattle.bank.specs.declared.cell.Cell.TheVariants.{Var, App}
use Rattle.bank.specs.Rules.{Rules}
use Rattle.bank.proofs.Readings.{laws, means_within}
use Rattle.enter.specs.Grown.{Part}
use Rattle.reduction.specs.Reaches.{Reaches, root, argument}
use Rattle.reduction.proofs.Subterms.{reached_part, part_reached, argument_lower}
use Rattle.reach.specs.Marks.{arguments, Added, Marked}

pub record Passed (b : List Cell) (r : ℕ) (k : ℕ) (marks : List Bool) : Type 0 where
  pub sound : (j : ℕ) → get_or marks j false ≡ true → Reaches b r j
  pub rooted : get_or marks r false ≡ true
  pub closed : (S : Sig) → Rules S b → length b ≤ length marks → (i : ℕ) → k ≤ i → i < length b → get_or marks i false ≡ true → (j : ℕ) → In j (arguments (get_or b i (Var 0))) → get_or marks j false ≡ true

-- an argument has a lower number than its term
pub lower : (S : Sig) (b : List Cell) (i j : ℕ) (c : Cell) → Rules S b → i < length b → get_or b i (Var 0) ≡ c → In j (arguments c) → j < i
lower S b i j (Var x) rules l e h = absurd h
lower S b i j (App f a args) rules l e h = argument_lower S b i j f a args rules l e h

-- a reached cell's arguments are reached
pub next : (b : List Cell) (r i j : ℕ) (c : Cell) → Reaches b r i → get_or b i (Var 0) ≡ c → In j (arguments c) → Reaches b r j
next b r i j (Var x) h e m = absurd m
next b r i j (App f a args) h e m = argument h e m

module _ (b : List Cell) (r : ℕ) where
  pub begins : (marks : List Bool) → ((j : ℕ) → get_or marks j false ≡ false) → r < length marks → Passed b r (r + 1) (set marks r true)
  begins marks clear l = record {
    sound = λ j m. elim (ℕ_discrete j r) [
      | yes e ↦ subst (Reaches b r) (sym e) root
      | no n ↦ absurd (false≢true (sym (clear j) ∙ (sym (get_or-set_other marks r j true false n) ∙ m)))
    ];
    rooted = get_or-set_same marks r true false l;
    closed = λ S rules few i h k m j n. absurd (false≢true (sym (clear i) ∙ (sym (get_or-set_other marks r i true false (omega arith)) ∙ m)));
  }

  pub skips : (k : ℕ) (marks : List Bool) → Passed b r (k + 1) marks → get_or marks k false ≡ false → Passed b r k marks
  skips k marks h off = record {
    sound = h.sound;
    rooted = h.rooted;
    closed = λ S rules few i le l m j n. elim (ℕ_discrete i k) [
      | yes e ↦ absurd (false≢true (sym off ∙ subst (λ x. get_or marks x false ≡ true) e m))
      | no q ↦ h.closed S rules few i (omega (arith, le, q)) l m j n
    ];
  }

  pub passes : (k : ℕ) (marks marks' : List Bool) → k < length b → Passed b r (k + 1) marks → get_or marks k false ≡ true → length marks' ≡ length marks
      → Added marks (get_or b k (Var 0)) marks' → Passed b r k marks'
  passes k marks marks' within h on long added = record {
    sound = λ j m. elim (added.only j m) [ inl x ↦ h.sound j x | inr n ↦ next b r k j (get_or b k (Var 0)) (h.sound k on) refl n ];
    rooted = added.stay r h.rooted;
    closed = λ S rules few i le l m j n. elim (ℕ_discrete i k) [
      | yes e ↦ added.new j (subst (λ x. In j (arguments (get_or b x (Var 0)))) e n) (let low = lower S b i j (get_or b i (Var 0)) rules l refl n in omega (arith, low, long, l, few))
      | no q ↦ added.stay j (h.closed S rules (omega (arith, few, long)) i (omega (arith, le, q)) l (was S rules i (omega (arith, le, q)) m) j n)
    ];
  }
    where
      was : (S : Sig) → Rules S b → (i : ℕ) → k < i → get_or marks' i false ≡ true → get_or marks i false ≡ true
      was S rules i lt m = elim (added.only i m) [
        | inl x ↦ x
        | inr n ↦ absurd (let low = lower S b k i (get_or b k (Var 0)) rules within refl n in let z : ⊥ = omega (arith, low, lt) in z)
      ]

  pub at_bottom : (k : ℕ) (marks : List Bool) → k ≤ 0 → Passed b r k marks → Passed b r 0 marks
  at_bottom k marks e h = let z : k ≡ 0 = omega (arith, e) in subst (λ k. Passed b r k marks) z h

  pub one_less : (k : ℕ) (marks : List Bool) → 0 < k → Passed b r k marks → Passed b r ((k - 1) + 1) marks
  one_less k marks e h = let z : k ≡ (k - 1) + 1 = omega (arith, e) in subst (λ k. Passed b r k marks) z h

  module _ (marks : List Bool) (h : Passed b r 0 marks) where
    complete : (S : Sig) → Rules S b → length b ≤ length marks → r < length b → {j : ℕ} → Reaches b r j → (get_or marks j false ≡ true) × (j < length b)
    complete S rules few l root = (h.rooted, l)
    complete S rules few l (argument {i = i} {j = j} k e n) =
        let c = complete S rules few l k in
        let m = subst (λ c. In j (arguments c)) (sym e) n in
        (h.closed S rules few i (omega arith) c.1 c.0 j m, omega (arith, c.1, lower S b i j (get_or b i (Var 0)) rules c.1 refl m))

    pub ends : Marked b r marks
    ends = record {
      reaches = λ S rules few l j. (λ m. h.sound j m, λ k. (complete S rules few l k).0);
      subterms = λ S rules few j s t top low. (
        λ m. (let p = reached_part b r t top (h.sound j m) in subst (λ u. Part u t) ((laws S b rules).one j p.0 s p.1 low) p.2),
        λ q. (complete S rules few (means_within top) (part_reached S b rules s t r j q top low)).0,
      );
    }

-- a root that is no cell, or too high, has nothing to mark in a bank that keeps its limits
pub unasked : (b : List Cell) (r : ℕ) (marks : List Bool) → (length b ≤ r) ⊎ (length marks ≤ r) → Marked b r marks
unasked b r marks h = record {
  reaches = λ S rules few l j. absurd (out few l);
  subterms = λ S rules few j s t top low. absurd (out few (means_within top));
}
  where
    out : length b ≤ length marks → r < length b → ⊥
    out few l = elim h [ inl q ↦ omega (arith, q, l) | inr q ↦ omega (arith, q, l, few) ]
