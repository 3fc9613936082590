-- The cells below k have their forms: the loop's state.
use Rattle.std.proofs.Common.{◌≡◌, ℕ, suc, ◌<◌, Bool, List, [], ◌++◌, get_or, Some, None, sym, refl, ap, ◌∙◌, subst, inl, inr, append_assoc, append-nil, arith}
use native.Mathlib.Decide.{ℕ_discrete}
use Rattle.terms.specs.Term.{Term}
use Rattle.terms.specs.Sig.{Sig}
use Rattle.bank.specs.declared.cell.Cell.{Cell}
use Rattle.bank.specs.Rules.{Rules}
use Rattle.bank.specs.Means.{Means}
use Rattle.bank.proofs.Readings.{grown, means_one}
use Rattle.enter.specs.Enter.{enter}
use Rattle.enter.proofs.Machining.{none_some}
use Rattle.enter.proofs.Growing.{some_eq}
use Rattle.reduction.specs.Reaches.{Reaches, root}
use Rattle.reduction.specs.Replaced.{replace, Inside}
use Rattle.reduction.specs.Steps.{Turn, Rebuilt, Crowded}
use Rattle.reduction.proofs.Presence.{present}
use Rattle.reduction.proofs.Replacing.{part_cases, part_decided, inside_decided, replaced_itself, untouched}
use Rattle.rebuild.specs.Rebuilds.{Ready, Done}

module _ (S : Sig) (m : ℕ) (b b₀ : List Cell) (r j v : ℕ) (s s' : Term) (marks : List Bool) (ready : Ready S b b₀ r j v s s' marks) where
  pub record Forms (k : ℕ) (b₁ : List Cell) (forms : List ℕ) : Type 0 where
    pub more : List Cell
    pub grows : b₁ ≡ b₀ ++ more
    pub rules : Rules S b₁
    pub rebuilt : Rebuilt m b r s s' b₀ k b₁
    pub each : (i : ℕ) → i < k → Reaches b r i → (t : Term) → Means b i t → Means b₁ (get_or forms i 0) (replace s s' t)

  pub starts : (forms : List ℕ) → Forms 0 b₀ forms
  starts forms = record {
    more = [];
    grows = sym (append-nil b₀);
    rules = ready.rules₀;
    rebuilt = refl;
    each = λ i l. absurd (let z : ⊥ = omega (arith, l) in z);
  }

  module _ (k : ℕ) (b₁ : List Cell) (forms : List ℕ) (h : Forms k b₁ forms) where
    -- the old cells stand in the grown bank as they did
    pub still : {i : ℕ} {t : Term} → Means b i t → Means b₁ i t
    still {i = i} {t = t} n =
        subst (λ z. Means z i t) (sym h.grows) (grown b₀ h.more t (subst (λ z. Means z i t) (sym ready.grows) (grown b ready.more t n)))

    pub new_there : Means b₁ v s'
    new_there = subst (λ z. Means z v s') (sym h.grows) (grown b₀ h.more s' ready.instead)

    -- a term in which the old one does not stand is where it was
    unchanged : (t : Term) → Means b k t → (Inside s t → ⊥) → (i : ℕ) × (enter m [] (replace s s' t) b₁ ≡ Some (b₁, i))
    unchanged t n out = elim (part_decided s t) [
      | yes p ↦ elim (part_cases s t p) [
        | inl e ↦ (v, present S m b₁ h.rules (replace s s' t) (subst (Means b₁ v) (sym (replaced_itself s s') ∙ ap (replace s s') e) new_there))
        | inr q ↦ absurd (out q)
      ]
      | no p ↦ (k, present S m b₁ h.rules (replace s s' t) (subst (Means b₁ k) (sym (untouched s s' t p)) (still n)))
    ]

    pub taken : (t : Term) → Means b k t → Reaches b r k → (b₂ : List Cell) (i : ℕ) → enter m [] (replace s s' t) b₁ ≡ Some (b₂, i) → Turn m b r s s' k b₁ b₂
    taken t n reached b₂ i e = elim (inside_decided s t) [
      | yes q ↦ inr (t, i, record { reached = reached; means = n; inside = q }, e)
      | no q ↦
          let u = unchanged t n q in
          let w : ◌≡◌ {A = List Cell × ℕ} (b₂, i) (b₁, u.0) = some_eq (sym e ∙ u.1) in
          inl (λ t' c. q (subst (Inside s) (means_one b c.means n) c.inside), ap (λ (p : List Cell × ℕ). p.0) w)
    ]

    pub crowded : (t : Term) → Means b k t → Reaches b r k → enter m [] (replace s s' t) b₁ ≡ None → Crowded m b r s s' b₀
    crowded t n reached e = elim (inside_decided s t) [
      | yes q ↦ record { at = k; before = b₁; term = t; so_far = h.rebuilt; changes = record { reached = reached; means = n; inside = q }; full = e }
      | no q ↦ absurd (none_some (sym e ∙ (unchanged t n q).1))
    ]

    module _ (forms' : List ℕ) (i : ℕ) (others : (x : ℕ) → x < k → get_or forms' x 0 ≡ get_or forms x 0) (here : get_or forms' k 0 ≡ i) where
      -- a cell that is no subterm of the root's
      pub passes : (Reaches b r k → ⊥) → Forms (suc k) b₁ forms'
      passes out = record {
        more = h.more;
        grows = h.grows;
        rules = h.rules;
        rebuilt = (b₁, h.rebuilt, inl (λ t c. out c.reached, refl));
        each = λ x l q t n. elim (ℕ_discrete x k) [
          | yes e ↦ absurd (out (subst (Reaches b r) e q))
          | no d ↦ let low : x < k = omega (arith, l, d) in subst (λ y. Means b₁ y (replace s s' t)) (sym (others x low)) (h.each x low q t n)
        ];
      }

      -- a subterm's form is entered
      pub turns : (t : Term) → Means b k t → Reaches b r k → (b₂ more : List Cell) → b₂ ≡ b₁ ++ more → Rules S b₂ → enter m [] (replace s s' t) b₁ ≡ Some (b₂, i) → Means b₂ i (replace s s' t) → Forms (suc k) b₂ forms'
      turns t n reached b₂ more grows rules e means = record {
        more = h.more ++ more;
        grows = grows ∙ ap (λ z. z ++ more) h.grows ∙ append_assoc b₀ h.more more;
        rules = rules;
        rebuilt = (b₁, h.rebuilt, taken t n reached b₂ i e);
        each = λ x l q u o. elim (ℕ_discrete x k) [
          | yes d ↦
              let same-term : u ≡ t = means_one b (subst (λ y. Means b y u) d o) n in
              let cell : get_or forms' x 0 ≡ i = ap (λ y. get_or forms' y 0) d ∙ here in
              subst (λ y. Means b₂ y (replace s s' u)) (sym cell) (subst (λ w. Means b₂ i (replace s s' w)) (sym same-term) means)
          | no d ↦
              let low : x < k = omega (arith, l, d) in
              subst (λ y. Means b₂ y (replace s s' u)) (sym (others x low)) (subst (λ z. Means z (get_or forms x 0) (replace s s' u)) (sym grows) (grown b₁ more (replace s s' u) (h.each x low q u o)))
        ];
      }

      -- a form that stands in the bank already
      pub stands : (t : Term) → Means b k t → Reaches b r k → Means b₁ i (replace s s' t) → Forms (suc k) b₁ forms'
      stands t n reached means = turns t n reached b₁ [] (sym (append-nil b₁)) h.rules (present S m b₁ h.rules (replace s s' t) means) means

  pub ends : (k : ℕ) (b₁ : List Cell) (forms : List ℕ) → k ≡ suc r → Forms k b₁ forms → Done S m b b₀ r s s' b₁ (get_or forms r 0)
  ends k b₁ forms e h = record {
    rebuilt = subst (λ n. Rebuilt m b r s s' b₀ n b₁) e h.rebuilt;
    rules = h.rules;
    present = λ t n. h.each r (omega (arith, e)) root t n;
  }
