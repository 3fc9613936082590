-- Terms fit a row exactly if they fit the terms that it is the preorder of.
use Rattle.std.proofs.Common.{◌≡◌, ℕ, zero, suc, List, [], ◌∷◌, Some, None, Option, sym, refl, ap, ◌∙◌, subst, arith}
use Rattle.terms.specs.Term.{Term, Terms, var, app, nil, ◌▹◌, width}
use Rattle.terms.specs.Preorder.{row, split, headed, in_front, alone, decode}
use Rattle.terms.specs.declared.pattern.Node.{Node}
use Rattle.terms.specs.declared.pattern.Node.TheVariants.{Var, App}
use Rattle.linear.specs.Loose.{Loosely, LooselyAll, joined, FitsRow}

none_some : {X : Type 0} {x : X} → None ≡ Some x → ⊥
none_some e = let z : ◌≡◌ {A = ℕ} 0 1 = cc in omega arith

abbrev Iff : Type 0 → Type 0 → Type 0
Iff P Q = (P → Q) × (Q → P)

-- the first k of the terms ts, and the rest
pub record Cut (k : ℕ) (ts : Terms) (p : Terms × Terms) : Type 0 where
  pub wide : width p.0 ≡ k
  pub joins : ts ≡ joined p.0 p.1

cut_more : (k : ℕ) (t : Term) (ts : Terms) (p : Terms × Terms) (o : Option (Terms × Terms)) → ((q : Terms × Terms) → o ≡ Some q → Cut k ts q)
    → ◌≡◌ {A = Option (Terms × Terms)} (elim o [ None ↦ None | Some q ↦ Some (t ▹ q.0, q.1) ]) (Some p) → Cut (suc k) (t ▹ ts) p
cut_more k t ts p None h e = absurd (none_some e)
cut_more k t ts p (Some q) h e =
    let c = h q refl in
    let z : (t ▹ q.0, q.1) ≡ p = cc in
    subst (Cut (suc k) (t ▹ ts)) z (record { wide = ap suc c.wide; joins = ap (λ us. t ▹ us) c.joins })

pub cut : (k : ℕ) (ts : Terms) (p : Terms × Terms) → split k ts ≡ Some p → Cut k ts p
cut zero ts p e = let q : (nil, ts) ≡ p = cc in subst (Cut zero ts) q (record { wide = refl; joins = refl })
cut (suc k) nil p e = absurd (none_some e)
cut (suc k) (t ▹ ts) p e = cut_more k t ts p (split k ts) (λ q h. cut k ts q h) e

-- what stands behind a symbol: its arguments, and the rest
pub record Behind (f a : ℕ) (o : Option Terms) (ps : Terms) : Type 0 where
  pub parts : Terms × Terms
  pub all : Terms
  pub is : o ≡ Some all
  pub cuts : Cut a all parts
  pub heads : ps ≡ app f parts.0 ▹ parts.1

pub behind_var : (x : ℕ) (o : Option Terms) (ps : Terms) → in_front (Var x) o ≡ Some ps → (qs : Terms) × (o ≡ Some qs) × (ps ≡ var x ▹ qs)
behind_var x None ps e = absurd (none_some e)
behind_var x (Some qs) ps e = (qs, refl, cc)

headed_parts : (f a : ℕ) (all ps : Terms) (o : Option (Terms × Terms)) → split a all ≡ o → headed f o ≡ Some ps → Behind f a (Some all) ps
headed_parts f a all ps None q e = absurd (none_some e)
headed_parts f a all ps (Some p) q e = record { parts = p; all = all; is = refl; cuts = cut a all p q; heads = cc }

pub behind_app : (f a : ℕ) (o : Option Terms) (ps : Terms) → in_front (App f a) o ≡ Some ps → Behind f a o ps
behind_app f a None ps e = absurd (none_some e)
behind_app f a (Some all) ps e = headed_parts f a all ps (split a all) refl e

loosely_width : (ps ts : Terms) → LooselyAll ps ts → width ps ≡ width ts
loosely_width nil nil h = refl
loosely_width nil (t ▹ ts) h = absurd h
loosely_width (p ▹ ps) nil h = absurd h
loosely_width (p ▹ ps) (t ▹ ts) h = ap suc (loosely_width ps ts h.1)

join_parts : (ps qs ts us : Terms) → width ps ≡ width ts → LooselyAll (joined ps qs) (joined ts us) → LooselyAll ps ts × LooselyAll qs us
join_parts nil qs nil us w h = (tt, h)
join_parts nil qs (t ▹ ts) us w h = absurd (let z : ⊥ = omega arith in z)
join_parts (p ▹ ps) qs nil us w h = absurd (let z : ⊥ = omega arith in z)
join_parts (p ▹ ps) qs (t ▹ ts) us w h = let r = join_parts ps qs ts us (omega arith) h.1 in ((h.0, r.0), r.1)

join_fits : (ps qs ts us : Terms) → LooselyAll ps ts → LooselyAll qs us → LooselyAll (joined ps qs) (joined ts us)
join_fits nil qs nil us h k = k
join_fits nil qs (t ▹ ts) us h k = absurd h
join_fits (p ▹ ps) qs nil us h k = absurd h
join_fits (p ▹ ps) qs (t ▹ ts) us h k = (h.0, join_fits ps qs ts us h.1 k)

no_terms : (n : Node) (o : Option Terms) (ps : Terms) → in_front n o ≡ Some ps → LooselyAll ps nil → ⊥
no_terms (Var x) o ps e h = subst (λ qs. LooselyAll qs nil) (behind_var x o ps e).2 h
no_terms (App f a) o ps e h = subst (λ qs. LooselyAll qs nil) (behind_app f a o ps e).heads h

pub row_fits : (ns : List Node) (ps ts : Terms) → row ns ≡ Some ps → Iff (FitsRow ns ts) (LooselyAll ps ts)
row_fits [] ps nil e = let z : nil ≡ ps = cc in subst (λ qs. Iff (Unit {0}) (LooselyAll qs nil)) z (λ h. tt, λ h. tt)
row_fits [] ps (t ▹ ts) e = let z : nil ≡ ps = cc in subst (λ qs. Iff ⊥ (LooselyAll qs (t ▹ ts))) z (λ h. h, λ h. h)
row_fits (n ∷ ns) ps nil e = (λ h. absurd h, λ h. no_terms n (row ns) ps e h)
row_fits (Var x ∷ ns) ps (t ▹ ts) e =
    let b = behind_var x (row ns) ps e in
    let r = row_fits ns b.0 ts b.1 in
    subst (λ qs. Iff (FitsRow ns ts) (LooselyAll qs (t ▹ ts))) (sym b.2) (λ h. (tt, r.0 h), λ h. r.1 h.1)
row_fits (App f a ∷ ns) ps (var y ▹ ts) e =
    let b = behind_app f a (row ns) ps e in
    subst (λ qs. Iff ⊥ (LooselyAll qs (var y ▹ ts))) (sym b.heads) (λ h. absurd h, λ h. h.0)
row_fits (App f a ∷ ns) ps (app g us ▹ ts) e =
    let b = behind_app f a (row ns) ps e in
    let front = b.parts.0 in
    let rest = b.parts.1 in
    let r = row_fits ns (joined front rest) (joined us ts) (b.is ∙ ap Some b.cuts.joins) in
    subst (λ qs. Iff (FitsRow (App f a ∷ ns) (app g us ▹ ts)) (LooselyAll qs (app g us ▹ ts))) (sym b.heads) (
      λ h. let k = join_parts front rest us ts (b.cuts.wide ∙ h.1) (r.0 h.2) in ((h.0, k.0), k.1),
      λ h. (h.0.0, sym b.cuts.wide ∙ loosely_width front us h.0.1, r.1 (join_fits front rest us ts h.0.1 h.1)),
    )

decode_row : (o : Option Terms) (p : Term) → alone o ≡ Some p → o ≡ Some (p ▹ nil)
decode_row None p e = absurd (none_some e)
decode_row (Some nil) p e = absurd (none_some e)
decode_row (Some (t ▹ nil)) p e = let z : t ≡ p = cc in ap (λ u. Some (u ▹ nil)) z
decode_row (Some (t ▹ (u ▹ us))) p e = absurd (none_some e)

-- the row of a term: one term fits it exactly if it fits the term loosely
pub fits_loosely : (ns : List Node) (p t : Term) → decode ns ≡ Some p → Iff (FitsRow ns (t ▹ nil)) (Loosely p t)
fits_loosely ns p t e =
    let r = row_fits ns (p ▹ nil) (t ▹ nil) (decode_row (row ns) p e) in
    (λ h. (r.0 h).0, λ h. r.1 (h, tt))
