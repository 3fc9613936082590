-- What makes a relation on the terms of a signature a reduction order.
use mathlib.Core.WellFounded.{Acc}
use Rattle.std.specs.Prelude.{ℕ}
use Rattle.terms.specs.Term.{Term, Terms, app, sub, Occ}
use Rattle.terms.specs.Sig.{Sig, Over}
use Rattle.rewriting.specs.Replace.{Arg}

pub record Reduces (S : Sig) (above : Term → Term → Type 0) : Type 0 where
  -- it relates terms over the signature only
  pub over : (s t : Term) → above s t → Over S s × Over S t
  -- instances keep it
  pub stable : (σ : ℕ → Term) (s t : Term) → Over S (sub σ s) → Over S (sub σ t) → above s t → above (sub σ s) (sub σ t)
  -- an argument place keeps it
  pub inside : (f : ℕ) (s t : Term) (ts us : Terms) → Over S (app f ts) → Over S (app f us) → Arg s t ts us → above s t → above (app f ts) (app f us)
  -- no endless descent starts at any term
  pub ends : (s : Term) → Acc (λ (u v : Term). above v u) s
  -- the lower side has no variable of its own
  pub bound : (s t : Term) → above s t → (x : ℕ) → Occ x t → Occ x s

-- a relation on all terms, held to those over the signature
abbrev pub Within : Sig → (Term → Term → Type 0) → Term → Term → Type 0
Within S above s t = Over S s × Over S t × above s t
