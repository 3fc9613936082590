-- When two terms are related by the Knuth-Bendix order: case by case, both ways.
use mathlib.Core.Path.{◌≡◌, refl, ap, subst}
use mathlib.Core.Logic.{◌⊎◌, inl, inr, ⊎_elim}
use native.Mathlib.Omega.{arith}
use Prim.Native.Nat.{ℕ, suc, ◌<◌, ◌≤◌}
use Rattle.terms.specs.Term.{Term, Terms, var, app, nil, ◌▹◌, width}
use Rattle.rewriting.specs.Count.{Covers, weigh}
use Rattle.rewriting.specs.Kbo.{Kbo, KboLex}

module _ (w : ℕ → ℕ) where
  lex_cases : {s t : Term} {ss ts : Terms} → KboLex w (s ▹ ss) (t ▹ ts) → (Kbo w s t × (width ss ≡ width ts)) ⊎ ((s ≡ t) × KboLex w ss ts)
  lex_cases (KboLex.lex_here h e) = inl (h, e)
  lex_cases (KboLex.lex_next l) = inr (refl, l)

  pub lex_width : {ss ts : Terms} → KboLex w ss ts → width ss ≡ width ts
  lex_width (KboLex.lex_here h e) = ap suc e
  lex_width (KboLex.lex_next l) = ap suc (lex_width l)

  pub lex_none : {ts : Terms} → ¬ (KboLex w nil ts)
  lex_none h = elim h [ ]

  head_cases : {f g : ℕ} {ss ts : Terms} → weigh w (app g ts) ≡ weigh w (app f ss) → Kbo w (app f ss) (app g ts) → (g < f) ⊎ ((f ≡ g) × KboLex w ss ts)
  head_cases e (Kbo.by_weight c l) = absurd (omega arith)
  head_cases e (Kbo.by_head c k l) = inl l
  head_cases e (Kbo.by_lex c k l) = inr (refl, l)

  mutual
    irreflexive : (s : Term) → ¬ (Kbo w s s)
    irreflexive (var x) h = var_low x h
      where
        var_low : (x : ℕ) → ¬ (Kbo w (var x) (var x))
        var_low x (Kbo.by_weight c l) = omega arith
    irreflexive (app f ss) h = ⊎_elim (λ l. omega arith) (λ l. lex_irreflexive ss l.1) (head_cases refl h)

    lex_irreflexive : (ss : Terms) → ¬ (KboLex w ss ss)
    lex_irreflexive nil h = lex_none h
    lex_irreflexive (s ▹ ss) h = ⊎_elim (λ l. irreflexive s l.0) (λ l. lex_irreflexive ss l.1) (lex_cases h)

  -- lists of arguments, their first ones named
  module _ (ss ts us vs : Terms) (u v : Term) (es : ss ≡ u ▹ us) (et : ts ≡ v ▹ vs) where
    opened : KboLex w ss ts → KboLex w (u ▹ us) (v ▹ vs)
    opened h = rw (← es, ← et) h

    closed : KboLex w (u ▹ us) (v ▹ vs) → KboLex w ss ts
    closed h = rw (es, et) h

    pub skip : u ≡ v → KboLex w ss ts → KboLex w us vs
    skip e h = ⊎_elim (λ l. absurd (irreflexive v (subst (λ z. Kbo w z v) e l.0))) (λ l. l.1) (lex_cases (opened h))

    pub unskip : u ≡ v → KboLex w us vs → KboLex w ss ts
    unskip e h = closed (subst (λ z. KboLex w (u ▹ us) (z ▹ vs)) e (KboLex.lex_next h))

    pub differ : ¬ (u ≡ v) → KboLex w ss ts → Kbo w u v
    differ n h = ⊎_elim (λ l. l.0) (λ l. absurd (n l.0)) (lex_cases (opened h))

    pub decided : width us ≡ width vs → Kbo w u v → KboLex w ss ts
    decided e h = closed (KboLex.lex_here h e)

  -- equal weights: what the heads say
  pub not_var : (x : ℕ) (t : Term) → weigh w t ≡ weigh w (var x) → ¬ (Kbo w (var x) t)
  not_var x t e (Kbo.by_weight c l) = omega arith

  pub not_to_var : (s : Term) (y : ℕ) → weigh w (var y) ≡ weigh w s → ¬ (Kbo w s (var y))
  not_to_var s y e (Kbo.by_weight c l) = omega arith

  pub not_heads : (f g : ℕ) (ss ts : Terms) → weigh w (app g ts) ≡ weigh w (app f ss) → f ≤ g → ((f ≡ g) × (width ss ≡ width ts) → ⊥) → ¬ (Kbo w (app f ss) (app g ts))
  not_heads f g ss ts e l n h = ⊎_elim (λ k. omega arith) (λ k. n (k.0, lex_width k.1)) (head_cases e h)

  pub arguments_down : (f g : ℕ) (ss ts : Terms) → f ≡ g → weigh w (app g ts) ≡ weigh w (app f ss) → Kbo w (app f ss) (app g ts) → KboLex w ss ts
  arguments_down f g ss ts k e h = ⊎_elim (λ l. absurd (omega arith)) (λ l. l.1) (head_cases e h)

  pub arguments_up : (f g : ℕ) (ss ts : Terms) → f ≡ g → Covers (app f ss) (app g ts) → weigh w (app g ts) ≡ weigh w (app f ss) → KboLex w ss ts → Kbo w (app f ss) (app g ts)
  arguments_up f g ss ts k c e l = subst (λ z. Kbo w (app f ss) (app z ts)) k (Kbo.by_lex c (omega (arith, ap w k)) l)
