-- The Knuth-Bendix order is a reduction order.
use mathlib.Core.Path.{◌≡◌, refl, sym, ◌∙◌}
use mathlib.Core.WellFounded.{Acc}
use native.Mathlib.Omega.{arith}
use native.Mathlib.Decide.{dec_lt}
use Prim.Native.Nat.{ℕ, ◌+◌, ◌<◌, ◌≤◌}
use Rattle.terms.specs.Term.{Term, Terms, var, app, nil, ◌▹◌, sub, subs}
use Rattle.rewriting.specs.Replace.{Arg, first, later}
use Rattle.rewriting.specs.Count.{Covers, weigh, weighs}
use Rattle.rewriting.specs.Kbo.{Kbo, KboLex}
use Rattle.rewriting.proofs.Over.{width_subs, Lawful}
use Rattle.rewriting.proofs.Count.{covers_stable, arg_counts, arg_weighs, covers_occ, heavier}
use Rattle.rewriting.proofs.LexAcc.{nat_acc, Lex, Ends, AllEnd, Down, lex_acc}

module _ (w : ℕ → ℕ) (pos : (f : ℕ) → 1 ≤ w f) where
  to_lex : {ss ts : Terms} → KboLex w ss ts → Lex (Kbo w) ss ts
  to_lex (KboLex.lex_here a e) = Lex.here a e
  to_lex (KboLex.lex_next l) = Lex.next (to_lex l)

  -- no endless descent, at the weight n
  module _ (n : ℕ) (smaller : (u : Term) → weigh w u < n → Ends (Kbo w) u) where
    args_ok : (ts : Terms) → weighs w ts < n → AllEnd (Kbo w) ts
    args_ok nil h = AllEnd.none
    args_ok (t ▹ ts) h = AllEnd.and (smaller t (omega arith)) (args_ok ts (omega arith))

    app_below : (f : ℕ) (ts : Terms) → weigh w (app f ts) ≡ n →
        ((g : ℕ) → g < f → (us : Terms) → weigh w (app g us) ≡ n → Ends (Kbo w) (app g us)) →
        ((us : Terms) → Down (Kbo w) us ts → weigh w (app f us) ≡ n → Ends (Kbo w) (app f us)) →
        {u : Term} → Kbo w (app f ts) u → Ends (Kbo w) u
    app_below f ts e ihf ihs (Kbo.by_weight {t = u} c l) = smaller u (omega arith)
    app_below f ts e ihf ihs (Kbo.by_head {g = g} {ts = us} c k l) = ihf g l us (k ∙ e)
    app_below f ts e ihf ihs (Kbo.by_lex {ts = us} c k l) = ihs us (to_lex l, args_ok us (omega (arith, pos f))) (omega arith)

    lexs : (f : ℕ) → ((g : ℕ) → g < f → (us : Terms) → weigh w (app g us) ≡ n → Ends (Kbo w) (app g us)) →
        {ts : Terms} → Acc (Down (Kbo w)) ts → weigh w (app f ts) ≡ n → Ends (Kbo w) (app f ts)
    lexs f ihf (Acc.intro ts h) e = Acc.intro (app f ts) (λ u k. app_below f ts e ihf (λ us d e'. lexs f ihf (h us d) e') k)

    heads : {f : ℕ} → Acc ◌<◌ f → (ts : Terms) → weigh w (app f ts) ≡ n → Ends (Kbo w) (app f ts)
    heads (Acc.intro f h) ts e = lexs f (λ g l us e'. heads (h g l) us e') (lex_acc (Kbo w) ts (args_ok ts (omega (arith, pos f)))) e

    var_below : (x : ℕ) → 1 ≡ n → {u : Term} → Kbo w (var x) u → Ends (Kbo w) u
    var_below x e (Kbo.by_weight {t = u} c l) = smaller u (omega arith)

    at_weight : (s : Term) → weigh w s ≡ n → Ends (Kbo w) s
    at_weight (var x) e = Acc.intro (var x) (λ u k. var_below x e k)
    at_weight (app f ts) e = heads (nat_acc f) ts e

  by_weight : {n : ℕ} → Acc ◌<◌ n → (s : Term) → weigh w s ≡ n → Ends (Kbo w) s
  by_weight (Acc.intro n h) s e = at_weight n (λ u l. by_weight (h (weigh w u) l) u refl) s e

  pub kbo_ok : (s : Term) → Ends (Kbo w) s
  kbo_ok s = by_weight (nat_acc (weigh w s)) s refl

arg_lex : (w : ℕ → ℕ) {s t : Term} {ts us : Terms} → Kbo w s t → Arg s t ts us → KboLex w ts us
arg_lex w h first = KboLex.lex_here h refl
arg_lex w h (later a) = KboLex.lex_next (arg_lex w h a)

module _ (w : ℕ → ℕ) (pos : (f : ℕ) → 1 ≤ w f) where
  pub kbo_covers : {s t : Term} → Kbo w s t → Covers s t
  kbo_covers (Kbo.by_weight c l) = c
  kbo_covers (Kbo.by_head c e l) = c
  kbo_covers (Kbo.by_lex c e l) = c

  pub kbo_weigh : {s t : Term} → Kbo w s t → weigh w t ≤ weigh w s
  kbo_weigh (Kbo.by_weight c l) = omega arith
  kbo_weigh (Kbo.by_head c e l) = omega arith
  kbo_weigh (Kbo.by_lex c e l) = omega arith

  inside : (f : ℕ) (s t : Term) (ts us : Terms) → Arg s t ts us → Kbo w s t → Kbo w (app f ts) (app f us)
  inside f s t ts us a h = by (dec_lt (weigh w t) (weigh w s))
    where
      c : Covers (app f ts) (app f us)
      c x = omega (arith, arg_counts x a, kbo_covers h x)

      e : weighs w us + weigh w s ≡ weighs w ts + weigh w t
      e = arg_weighs w a

      by : Dec (weigh w t < weigh w s) → Kbo w (app f ts) (app f us)
      by (yes l) = Kbo.by_weight c (omega (arith, e))
      by (no l) = Kbo.by_lex c (omega (arith, e, kbo_weigh h)) (arg_lex w h a)

  mutual
    stable : (σ : ℕ → Term) {s t : Term} → Kbo w s t → Kbo w (sub σ s) (sub σ t)
    stable σ (Kbo.by_weight {s = s} {t = t} c l) = Kbo.by_weight (covers_stable σ s t c) (omega (arith, heavier w pos σ s t c))
    stable σ (Kbo.by_head {f = f} {g = g} {ss = ss} {ts = ts} c e l) = by (dec_lt (weigh w (sub σ (app g ts))) (weigh w (sub σ (app f ss))))
      where
        by : Dec (weigh w (sub σ (app g ts)) < weigh w (sub σ (app f ss))) → Kbo w (sub σ (app f ss)) (sub σ (app g ts))
        by (yes k) = Kbo.by_weight (covers_stable σ (app f ss) (app g ts) c) k
        by (no k) = Kbo.by_head (covers_stable σ (app f ss) (app g ts) c) (omega (arith, heavier w pos σ (app f ss) (app g ts) c)) l
    stable σ (Kbo.by_lex {f = f} {ss = ss} {ts = ts} c e l) = by (lexes σ l) (dec_lt (weighs w (subs σ ts)) (weighs w (subs σ ss)))
      where
        by : KboLex w (subs σ ss) (subs σ ts) → Dec (weighs w (subs σ ts) < weighs w (subs σ ss)) → Kbo w (sub σ (app f ss)) (sub σ (app f ts))
        by q (yes k) = Kbo.by_weight (covers_stable σ (app f ss) (app f ts) c) (omega arith)
        by q (no k) = Kbo.by_lex (covers_stable σ (app f ss) (app f ts) c) (omega (arith, heavier w pos σ (app f ss) (app f ts) c)) q

    lexes : (σ : ℕ → Term) {ss ts : Terms} → KboLex w ss ts → KboLex w (subs σ ss) (subs σ ts)
    lexes σ (KboLex.lex_here {ss = ss} {ts = ts} h e) = KboLex.lex_here (stable σ h) (width_subs σ ss ∙ (e ∙ sym (width_subs σ ts)))
    lexes σ (KboLex.lex_next h) = KboLex.lex_next (lexes σ h)

  pub kbo_lawful : Lawful (Kbo w)
  kbo_lawful = record {
    stable = λ σ s t h. stable σ h;
    inside = inside;
    ends = kbo_ok w pos;
    bound = λ s t h x o. covers_occ s t (kbo_covers h) x o;
  }
