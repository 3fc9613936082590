-- When two terms are related by the lexicographic path order: case by case, both ways.
use mathlib.Core.Path.{◌≡◌, refl, ap, subst}
use mathlib.Core.Logic.{◌⊎◌, inl, inr, ⊎_elim}
use mathlib.Core.WellFounded.Acc
use native.Mathlib.Omega.{arith}
use Prim.Native.Nat.{suc}
use Rattle.terms.specs.Term.{Term, Terms, var, app, nil, ◌▹◌, width}
use Rattle.rewriting.specs.Replace.{args}
use Rattle.rewriting.specs.Lpo.{Lpo, LpoSome, LpoAll, LpoLex, HeadsAbove}
use Rattle.rewriting.proofs.LexAcc.{Ends}
use Rattle.rewriting.proofs.Lpo.{lpo_ok}

ends_irreflexive : {s : Term} → Ends Lpo s → ¬ (Lpo s s)
ends_irreflexive (Acc.intro s h) l = ends_irreflexive (h s l) l

pub irreflexive : (s : Term) → ¬ (Lpo s s)
irreflexive s = ends_irreflexive (lpo_ok s)

some_cases : {s t : Term} {ss : Terms} → LpoSome (s ▹ ss) t → ((s ≡ t) ⊎ Lpo s t) ⊎ LpoSome ss t
some_cases LpoSome.equal = inl (inl refl)
some_cases (LpoSome.above h) = inl (inr h)
some_cases (LpoSome.next h) = inr h

all_first : {s t : Term} {ts : Terms} → LpoAll s (t ▹ ts) → Lpo s t
all_first (LpoAll.and h hs) = h

all_later : {s t : Term} {ts : Terms} → LpoAll s (t ▹ ts) → LpoAll s ts
all_later (LpoAll.and h hs) = hs

lex_cases : {s t : Term} {ss ts : Terms} → LpoLex (s ▹ ss) (t ▹ ts) → (Lpo s t × (width ss ≡ width ts)) ⊎ ((s ≡ t) × LpoLex ss ts)
lex_cases (LpoLex.lex_here h e) = inl (h, e)
lex_cases (LpoLex.lex_next l) = inr (refl, l)

pub some_none : (t : Term) → ¬ (LpoSome nil t)
some_none t h = elim h [ ]

pub lex_none : {ts : Terms} → ¬ (LpoLex nil ts)
lex_none h = elim h [ ]

pub lex_width : {ss ts : Terms} → LpoLex ss ts → width ss ≡ width ts
lex_width (LpoLex.lex_here h e) = ap suc e
lex_width (LpoLex.lex_next l) = ap suc (lex_width l)

-- a list of arguments, the first one named
module _ (t : Term) (ss us : Terms) (u : Term) (es : ss ≡ u ▹ us) where
  pub some_equal : u ≡ t → LpoSome ss t
  some_equal e = rw es (subst (λ z. LpoSome (u ▹ us) z) e LpoSome.equal)

  pub some_above : Lpo u t → LpoSome ss t
  some_above h = rw es (LpoSome.above h)

  pub some_later : LpoSome us t → LpoSome ss t
  some_later h = rw es (LpoSome.next h)

  pub some_skip : ¬ (Lpo u t) → ¬ (u ≡ t) → LpoSome ss t → LpoSome us t
  some_skip a e h = ⊎_elim (λ k. absurd (⊎_elim e a k)) (λ k. k) (some_cases (rw es at h))

module _ (s : Term) (ts vs : Terms) (v : Term) (et : ts ≡ v ▹ vs) where
  pub all_more : Lpo s v → LpoAll s vs → LpoAll s ts
  all_more h hs = rw et (LpoAll.and h hs)

  pub all_has : LpoAll s ts → Lpo s v
  all_has h = all_first (rw et at h)

  pub all_rest : LpoAll s ts → LpoAll s vs
  all_rest h = all_later (rw et at h)

module _ (ss ts us vs : Terms) (u v : Term) (es : ss ≡ u ▹ us) (et : ts ≡ v ▹ vs) where
  pub skip : u ≡ v → LpoLex ss ts → LpoLex us vs
  skip e h = ⊎_elim (λ l. absurd (irreflexive v (subst (λ z. Lpo z v) e l.0))) (λ l. l.1) (lex_cases (rw (es, et) at h))

  pub unskip : u ≡ v → LpoLex us vs → LpoLex ss ts
  unskip e h = rw (es, et) (subst (λ z. LpoLex (u ▹ us) (z ▹ vs)) e (LpoLex.lex_next h))

  pub differ : ¬ (u ≡ v) → LpoLex ss ts → Lpo u v
  differ n h = ⊎_elim (λ l. l.0) (λ l. absurd (n l.0)) (lex_cases (rw (es, et) at h))

  pub decided : width us ≡ width vs → Lpo u v → LpoLex ss ts
  decided e h = rw (es, et) (LpoLex.lex_here h e)

pub by_some : (s t : Term) → LpoSome (args s) t → Lpo s t
by_some (var x) t h = absurd (some_none t h)
by_some (app f ss) t h = Lpo.by_arg h

pub by_heads : (s t : Term) → HeadsAbove s t → LpoAll s (args t) → Lpo s t
by_heads (var x) t h hs = absurd h
by_heads (app f ss) (var y) h hs = absurd h
by_heads (app f ss) (app g ts) (inl l) hs = Lpo.by_head l hs
by_heads (app f ss) (app g ts) (inr l) hs = subst (λ z. Lpo (app f ss) (app z ts)) l.0 (Lpo.by_lex hs l.1)

pub lpo_cases : {s t : Term} → Lpo s t → LpoSome (args s) t ⊎ (HeadsAbove s t × LpoAll s (args t))
lpo_cases (Lpo.by_arg h) = inl h
lpo_cases (Lpo.by_head l h) = inr (inl l, h)
lpo_cases (Lpo.by_lex h l) = inr (inr (refl, l), h)

pub not_lpo : (s t : Term) → ¬ (LpoSome (args s) t) → ¬ (HeadsAbove s t × LpoAll s (args t)) → ¬ (Lpo s t)
not_lpo s t a b h = ⊎_elim a b (lpo_cases h)

lex_irreflexive : (ss : Terms) → ¬ (LpoLex ss ss)
lex_irreflexive nil h = lex_none h
lex_irreflexive (s ▹ ss) h = ⊎_elim (λ l. irreflexive s l.0) (λ l. lex_irreflexive ss l.1) (lex_cases h)

pub heads_apart : (s t : Term) → HeadsAbove s t → ¬ (s ≡ t)
heads_apart s t h e = by t (subst (λ z. HeadsAbove z t) e h)
  where
    by : (t : Term) → ¬ (HeadsAbove t t)
    by (var x) h = h
    by (app f ts) (inl l) = omega arith
    by (app f ts) (inr l) = lex_irreflexive ts l.1
