-- Rewriting by rules from higher to lower ends.
use mathlib.Core.Path.{◌≡◌, refl, sym, ap, subst, ◌∙◌}
use mathlib.Core.Logic.{inl, inr}
use mathlib.Core.WellFounded.Subrelation
use mathlib.Core.WellFounded.{Acc}
use Prim.Native.Nat.{ℕ, suc}
use Rattle.terms.specs.Term.{Term, Terms, var, app, nil, ◌▹◌, width, sub, subs, Occ, Occs}
use Rattle.terms.specs.Sig.{Sig, Over, AllOver}
use Rattle.rewriting.specs.Replace.{Arg, first, later, Put, here, under}
use Rattle.rewriting.specs.Order.{Reduces}
use Rattle.rewriting.specs.Steps.{Rewrites}
use Rattle.rewriting.proofs.Over.{width_subs}

module _ (S : Sig) where
  mutual
    over_sub : (σ : ℕ → Term) (t : Term) → Over S t → ((x : ℕ) → Occ x t → Over S (σ x)) → Over S (sub σ t)
    over_sub σ (var x) h k = k x refl
    over_sub σ (app f ts) h k = (h.0, width_subs σ ts ∙ h.1, overs_subs σ ts h.2 k)

    overs_subs : (σ : ℕ → Term) (ts : Terms) → AllOver S ts → ((x : ℕ) → Occs x ts → Over S (σ x)) → AllOver S (subs σ ts)
    overs_subs σ nil h k = tt
    overs_subs σ (t ▹ ts) h k = (over_sub σ t h.0 (λ x o. k x (inl o)), overs_subs σ ts h.1 (λ x o. k x (inr o)))

  mutual
    over_inst : (σ : ℕ → Term) (t : Term) → Over S (sub σ t) → (x : ℕ) → Occ x t → Over S (σ x)
    over_inst σ (var y) h x o = subst (λ z. Over S (σ z)) (sym o) h
    over_inst σ (app f ts) h x o = overs_insts σ ts h.2 x o

    overs_insts : (σ : ℕ → Term) (ts : Terms) → AllOver S (subs σ ts) → (x : ℕ) → Occs x ts → Over S (σ x)
    overs_insts σ nil h x o = absurd o
    overs_insts σ (t ▹ ts) h x (inl o) = over_inst σ t h.0 x o
    overs_insts σ (t ▹ ts) h x (inr o) = overs_insts σ ts h.1 x o

  arg_over : {s t : Term} {ts us : Terms} → Arg s t ts us → AllOver S ts → Over S s
  arg_over first h = h.0
  arg_over (later a) h = arg_over a h.1

  args_over : {s t : Term} {ts us : Terms} → Arg s t ts us → AllOver S ts → Over S t → AllOver S us
  args_over first h k = (k, h.1)
  args_over (later a) h k = (h.0, args_over a h.1 k)

  arg_width : {s t : Term} {ts us : Terms} → Arg s t ts us → width us ≡ width ts
  arg_width first = refl
  arg_width (later a) = ap suc (arg_width a)

  place_over : {q r s t : Term} → Put q r s t → Over S s → Over S q
  place_over here h = h
  place_over (under f p a) h = place_over p (arg_over a h.2)

  put_over : {q r s t : Term} → Put q r s t → Over S s → Over S r → Over S t
  put_over here h k = k
  put_over (under f p a) h k = (h.0, arg_width a ∙ h.1, args_over a h.2 (put_over p (arg_over a h.2) k))

  module _ {above : Term → Term → Type 0} (A : Reduces S above) where
    put_above : {q r s t : Term} → Put q r s t → above q r → Over S s → above s t
    put_above here h k = h
    put_above (under {s = s} {t = t} f {ts = ts} {us = us} p a) h k =
        let d = put_above p h (arg_over a k.2) in
        A.inside f s t ts us k (put_over (under f here a) k (A.over s t d).1) a d

    pub rewrites_above : {s t : Term} → Rewrites S above s t → above s t
    rewrites_above w =
        let place = place_over w.put w.over in
        let low = over_sub w.inst w.right (A.over w.left w.right w.by).1 (λ x o. over_inst w.inst w.left place x (A.bound w.left w.right w.by x o)) in
        put_above w.put (A.stable w.inst w.left w.right place low w.by) w.over

    pub rewrites_end : (s : Term) → Acc (λ (u v : Term). Rewrites S above v u) s
    rewrites_end s = Subrelation.accessible (λ u v w. rewrites_above w) (A.ends s)

    descent_apart : {s : Term} → Acc (λ (u v : Term). above v u) s → (t : Term) → above s t → ¬ (above t s)
    descent_apart (Acc.intro s h) t k l = descent_apart (h t k) s l k

    pub asymmetric : (s t : Term) → above s t → ¬ (above t s)
    asymmetric s t h = descent_apart (A.ends s) t h
