-- Terms over a signature, and orders held to them.
use mathlib.Core.Path.{◌≡◌, refl, ap}
use mathlib.Core.WellFounded.Subrelation
use mathlib.Core.WellFounded.{Acc}
use Prim.Native.Nat.{ℕ, suc}
use Rattle.terms.specs.Term.{Term, Terms, app, nil, ◌▹◌, width, sub, subs, Occ}
use Rattle.terms.specs.Sig.{Sig}
use Rattle.rewriting.specs.Replace.{Arg}
use Rattle.rewriting.specs.Order.{Reduces, Within}

pub width_subs : (σ : ℕ → Term) (ts : Terms) → width (subs σ ts) ≡ width ts
width_subs σ nil = refl
width_subs σ (t ▹ ts) = ap suc (width_subs σ ts)

-- a relation on all terms that keeps the laws keeps them on the terms over a signature
pub record Lawful (above : Term → Term → Type 0) : Type 0 where
  pub stable : (σ : ℕ → Term) (s t : Term) → above s t → above (sub σ s) (sub σ t)
  pub inside : (f : ℕ) (s t : Term) (ts us : Terms) → Arg s t ts us → above s t → above (app f ts) (app f us)
  pub ends : (s : Term) → Acc (λ (u v : Term). above v u) s
  pub bound : (s t : Term) → above s t → (x : ℕ) → Occ x t → Occ x s

pub within : {above : Term → Term → Type 0} (S : Sig) → Lawful above → Reduces S (Within S above)
within S A = record {
  over = λ s t h. (h.0, h.1);
  stable = λ σ s t k k' h. (k, k', A.stable σ s t h.2);
  inside = λ f s t ts us k k' a h. (k, k', A.inside f s t ts us a h.2);
  ends = λ s. Subrelation.accessible (λ u v h. h.2) (A.ends s);
  bound = λ s t h x o. A.bound s t h.2 x o;
}
