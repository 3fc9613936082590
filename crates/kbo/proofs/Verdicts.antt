-- The heads of two terms of equal weights, read off their rows.
use Rattle.std.proofs.Common.{◌≡◌, ℕ, ◌&&◌, eqb, ltb, get_or}
use Rattle.std.proofs.lemmas.Bool.{ltb-true, ltb-false, eqb-true, eq-eqb, and_parts, and_from, both_ways, cond_both}
use Rattle.terms.specs.Term.{Term, var, app, width}
use Rattle.terms.specs.Preorder.{preorder}
use Rattle.terms.specs.declared.pattern.Node.TheVariants.{Var}
use Rattle.rewriting.specs.Count.{Covers, weigh}
use Rattle.rewriting.specs.Kbo.{Kbo, KboLex}
use Rattle.rewriting.proofs.KboCases.{not_var, not_to_var, not_heads, arguments_down, arguments_up}
use Rattle.rewriting.specs.Replace.{args}
use Rattle.kbo.specs.Verdicts.{Says, SameHead, by_heads}
use Rattle.kbo.specs.declared.heads.Verdict.TheVariants.{Above, NotAbove, ByArguments}

module _ (w : ℕ → ℕ) where
  pub heads_say : (s t : Term) → Covers s t → weigh w t ≡ weigh w s → Says w (by_heads (get_or (preorder s) 0 (Var 0)) (get_or (preorder t) 0 (Var 0))) s t
  heads_say (var x) t c e = not_var w x t e
  heads_say (app f ss) (var y) c e = not_to_var w (app f ss) y e
  heads_say (app f ss) (app g ts) c e =
      cond_both (ltb g f) Above _ (λ v. Says w v (app f ss) (app g ts))
      (λ h. Kbo.by_head c e (ltb-true g f h))
      (λ h. cond_both (eqb f g && eqb (width ss) (width ts)) ByArguments NotAbove (λ v. Says w v (app f ss) (app g ts))
      (λ k. let p = and_parts _ _ k in (c, e, (eqb-true f g p.0, eqb-true _ _ p.1)))
      (λ k. not_heads w f g ss ts e (ltb-false g f h) (λ p. both_ways _ k (and_from _ _ (eq-eqb f g p.0) (eq-eqb _ _ p.1)))))

  pub same_widths : (s t : Term) → SameHead s t → width (args s) ≡ width (args t)
  same_widths (var x) t h = absurd h
  same_widths (app f ss) (var y) h = absurd h
  same_widths (app f ss) (app g ts) h = h.1

  pub args_down : (s t : Term) → Says w ByArguments s t → Kbo w s t → KboLex w (args s) (args t)
  args_down (var x) t h k = absurd h.2
  args_down (app f ss) (var y) h k = absurd h.2
  args_down (app f ss) (app g ts) h k = arguments_down w f g ss ts h.2.0 h.1 k

  pub args_up : (s t : Term) → Says w ByArguments s t → KboLex w (args s) (args t) → Kbo w s t
  args_up (var x) t h k = absurd h.2
  args_up (app f ss) (var y) h k = absurd h.2
  args_up (app f ss) (app g ts) h k = arguments_up w f g ss ts h.2.0 h.0 h.1 k
