-- What the heads of two terms say.
use Rattle.std.proofs.Common.{◌≡◌, ℕ, ◌<◌, ◌≤◌, sym, ap, subst, ap₂, inl, inr, arith}
use Rattle.terms.specs.Term.{Term, Terms, var, app, width, var_inj, app_head, app_args, var≢app, app≢var}
use Rattle.rewriting.specs.Lpo.{HeadsAbove}
use Rattle.rewriting.proofs.LpoCases.{lex_width}
use Rattle.lpo.specs.Seen.{SaysHeads, SaysLex}
use Rattle.lpo.specs.declared.sides.Compared.{Compared}
use Rattle.lpo.specs.declared.sides.Compared.TheVariants.{Above, Equal, Neither}

lex_says : (r : Compared) (f g : ℕ) (ss ts : Terms) → f ≡ g → SaysLex r ss ts → SaysHeads r (app f ss) (app g ts)
lex_says Above f g ss ts e h = inr (e, h)
lex_says Equal f g ss ts e h = ap₂ app e h
lex_says Neither f g ss ts e h = (no_head, λ k. h.1 (app_args k))
  where
    no_head : HeadsAbove (app f ss) (app g ts) → ⊥
    no_head (inl l) = omega arith
    no_head (inr l) = h.0 l.1

apart : (f g : ℕ) (ss ts : Terms) → f ≤ g → ((f ≡ g) × (width ss ≡ width ts) → ⊥) → SaysHeads Neither (app f ss) (app g ts)
apart f g ss ts l n = (no_head, λ k. n (app_head k, ap width (app_args k)))
  where
    no_head : HeadsAbove (app f ss) (app g ts) → ⊥
    no_head (inl k) = omega arith
    no_head (inr k) = n (k.0, lex_width k.1)

module _ (s t : Term) where
  -- the terms, where their heads are known
  known : (r : Compared) (u v : Term) → s ≡ u → t ≡ v → SaysHeads r u v → SaysHeads r s t
  known r u v es et h = subst (λ z. SaysHeads r z t) (sym es) (subst (λ z. SaysHeads r u z) (sym et) h)

  pub vars_apart : (x y : ℕ) → s ≡ var x → t ≡ var y → (x ≡ y → ⊥) → SaysHeads Neither s t
  vars_apart x y es et n = known Neither (var x) (var y) es et (λ h. h, λ e. n (var_inj e))

  pub var_below : (x g : ℕ) (ts : Terms) → s ≡ var x → t ≡ app g ts → SaysHeads Neither s t
  var_below x g ts es et = known Neither (var x) (app g ts) es et (λ h. h, var≢app)

  pub var_above : (f y : ℕ) (ss : Terms) → s ≡ app f ss → t ≡ var y → SaysHeads Neither s t
  var_above f y ss es et = known Neither (app f ss) (var y) es et (λ h. h, app≢var)

  module _ (f g : ℕ) (ss ts : Terms) (es : s ≡ app f ss) (et : t ≡ app g ts) where
    pub higher : g < f → SaysHeads Above s t
    higher l = known Above (app f ss) (app g ts) es et (inl l)

    pub same_heads : (r : Compared) → f ≡ g → SaysLex r ss ts → SaysHeads r s t
    same_heads r e h = known r (app f ss) (app g ts) es et (lex_says r f g ss ts e h)

    pub heads_differ : f ≤ g → ((f ≡ g) × (width ss ≡ width ts) → ⊥) → SaysHeads Neither s t
    heads_differ l n = known Neither (app f ss) (app g ts) es et (apart f g ss ts l n)
