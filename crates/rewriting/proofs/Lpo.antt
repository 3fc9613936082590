-- The lexicographic path order is a reduction order.
use mathlib.Core.Path.{refl, sym, ◌∙◌}
use mathlib.Core.Logic.{inl, inr}
use mathlib.Core.WellFounded.Acc
use mathlib.Core.WellFounded.{Acc}
use Prim.Native.Nat.{ℕ, ◌<◌}
use Rattle.terms.specs.Term.{Term, Terms, var, app, nil, ◌▹◌, sub, subs, Occ, Occs}
use Rattle.rewriting.specs.Replace.{Arg, first, later}
use Rattle.rewriting.specs.Lpo.{Lpo, LpoSome, LpoAll, LpoLex}
use Rattle.rewriting.proofs.Over.{width_subs, Lawful}
use Rattle.rewriting.proofs.LexAcc.{nat_acc, Lex, Ends, AllEnd, Down, lex_acc}

-- no endless descent
to_lex : {ss ts : Terms} → LpoLex ss ts → Lex Lpo ss ts
to_lex (LpoLex.lex_here a e) = Lex.here a e
to_lex (LpoLex.lex_next l) = Lex.next (to_lex l)

var_low : (x : ℕ) {u : Term} → ¬ (Lpo (var x) u)
var_low x h = elim h [ ]

some_ok : {ts : Terms} {u : Term} → AllEnd Lpo ts → LpoSome ts u → Ends Lpo u
some_ok AllEnd.none h = elim h [ ]
some_ok (AllEnd.and a o) LpoSome.equal = a
some_ok (AllEnd.and a o) (LpoSome.above h) = Acc.inv a h
some_ok (AllEnd.and a o) (LpoSome.next h) = some_ok o h

module _ (f : ℕ) (ts : Terms) (ok : AllEnd Lpo ts) (ihf : (g : ℕ) → g < f → (us : Terms) → AllEnd Lpo us → Ends Lpo (app g us)) (ihs : (us : Terms) → Down Lpo us ts → Ends Lpo (app f us)) where
  down_app : {g : ℕ} {us : Terms} → (LpoAll (app f ts) us → AllEnd Lpo us) → Lpo (app f ts) (app g us) → Ends Lpo (app g us)
  down_app k (Lpo.by_arg h) = some_ok ok h
  down_app {us = us} k (Lpo.by_head {g = g} l all) = ihf g l us (k all)
  down_app {us = us} k (Lpo.by_lex all lex) = ihs us (to_lex lex, k all)

  mutual
    down : (u : Term) → Lpo (app f ts) u → Ends Lpo u
    down (var x) h = Acc.intro (var x) (λ u k. absurd (var_low x k))
    down (app g us) h = down_app (downs us) h

    downs : (us : Terms) → LpoAll (app f ts) us → AllEnd Lpo us
    downs nil h = AllEnd.none
    downs (u ▹ us) (LpoAll.and h hs) = AllEnd.and (down u h) (downs us hs)

app_inner : (f : ℕ) → ((g : ℕ) → g < f → (us : Terms) → AllEnd Lpo us → Ends Lpo (app g us)) → {ts : Terms} → Acc (Down Lpo) ts → AllEnd Lpo ts → Ends Lpo (app f ts)
app_inner f ihf (Acc.intro ts h) ok = Acc.intro (app f ts) (λ u k. down f ts ok ihf (λ us d. app_inner f ihf (h us d) d.1) u k)

app_ok : {f : ℕ} → Acc ◌<◌ f → (ts : Terms) → AllEnd Lpo ts → Ends Lpo (app f ts)
app_ok (Acc.intro f h) ts ok = app_inner f (λ g l us o. app_ok (h g l) us o) (lex_acc Lpo ts ok) ok

mutual
  pub lpo_ok : (t : Term) → Ends Lpo t
  lpo_ok (var x) = Acc.intro (var x) (λ u k. absurd (var_low x k))
  lpo_ok (app f ts) = app_ok (nat_acc f) ts (lpo_oks ts)

  pub lpo_oks : (ts : Terms) → AllEnd Lpo ts
  lpo_oks nil = AllEnd.none
  lpo_oks (t ▹ ts) = AllEnd.and (lpo_ok t) (lpo_oks ts)

-- instances
mutual
  pub lpo_sub : (σ : ℕ → Term) {s t : Term} → Lpo s t → Lpo (sub σ s) (sub σ t)
  lpo_sub σ (Lpo.by_arg h) = Lpo.by_arg (some_sub σ h)
  lpo_sub σ (Lpo.by_head l h) = Lpo.by_head l (all_sub σ h)
  lpo_sub σ (Lpo.by_lex h k) = Lpo.by_lex (all_sub σ h) (lex_sub σ k)

  some_sub : (σ : ℕ → Term) {ss : Terms} {t : Term} → LpoSome ss t → LpoSome (subs σ ss) (sub σ t)
  some_sub σ LpoSome.equal = LpoSome.equal
  some_sub σ (LpoSome.above h) = LpoSome.above (lpo_sub σ h)
  some_sub σ (LpoSome.next h) = LpoSome.next (some_sub σ h)

  all_sub : (σ : ℕ → Term) {s : Term} {ts : Terms} → LpoAll s ts → LpoAll (sub σ s) (subs σ ts)
  all_sub σ LpoAll.none = LpoAll.none
  all_sub σ (LpoAll.and h hs) = LpoAll.and (lpo_sub σ h) (all_sub σ hs)

  lex_sub : (σ : ℕ → Term) {ss ts : Terms} → LpoLex ss ts → LpoLex (subs σ ss) (subs σ ts)
  lex_sub σ (LpoLex.lex_here {ss = ss} {ts = ts} h e) = LpoLex.lex_here (lpo_sub σ h) (width_subs σ ss ∙ (e ∙ sym (width_subs σ ts)))
  lex_sub σ (LpoLex.lex_next h) = LpoLex.lex_next (lex_sub σ h)

-- variables
mutual
  pub lpo_occ : (x : ℕ) {s t : Term} → Lpo s t → Occ x t → Occ x s
  lpo_occ x (Lpo.by_arg h) o = some_occ x h o
  lpo_occ x (Lpo.by_head l h) o = all_occ x h o
  lpo_occ x (Lpo.by_lex h k) o = all_occ x h o

  some_occ : (x : ℕ) {ss : Terms} {t : Term} → LpoSome ss t → Occ x t → Occs x ss
  some_occ x LpoSome.equal o = inl o
  some_occ x (LpoSome.above h) o = inl (lpo_occ x h o)
  some_occ x (LpoSome.next h) o = inr (some_occ x h o)

  all_occ : (x : ℕ) {s : Term} {ts : Terms} → LpoAll s ts → Occs x ts → Occ x s
  all_occ x LpoAll.none o = absurd o
  all_occ x (LpoAll.and h hs) (inl o) = lpo_occ x h o
  all_occ x (LpoAll.and h hs) (inr o) = all_occ x hs o

-- one place
arg_lex : {s t : Term} {ts us : Terms} → Lpo s t → Arg s t ts us → LpoLex ts us
arg_lex h first = LpoLex.lex_here h refl
arg_lex h (later a) = LpoLex.lex_next (arg_lex h a)

own_args : (s : Term) (us : Terms) → ((u : Term) → LpoSome us u → Lpo s u) → LpoAll s us
own_args s nil k = LpoAll.none
own_args s (u ▹ us) k = LpoAll.and (k u LpoSome.equal) (own_args s us (λ v h. k v (LpoSome.next h)))

arg_all : (s' : Term) {s t : Term} {ts us : Terms} → Lpo s t → Arg s t ts us → ((u : Term) → LpoSome ts u → Lpo s' u) → LpoAll s' us
arg_all s' h (first {t = t} {ts = ts}) k = LpoAll.and (k t (LpoSome.above h)) (own_args s' ts (λ v i. k v (LpoSome.next i)))
arg_all s' h (later {u = u} a) k = LpoAll.and (k u LpoSome.equal) (arg_all s' h a (λ v i. k v (LpoSome.next i)))

pub lpo_lawful : Lawful Lpo
lpo_lawful = record {
  stable = λ σ s t h. lpo_sub σ h;
  inside = λ f s t ts us a h. Lpo.by_lex (arg_all (app f ts) h a (λ u i. Lpo.by_arg i)) (arg_lex h a);
  ends = lpo_ok;
  bound = λ s t h x o. lpo_occ x h o;
}
