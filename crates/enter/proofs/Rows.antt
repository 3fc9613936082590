-- What the nodes of a row say of its terms.
use Rattle.std.proofs.Common.{◌≡◌, ℕ, true, ◌&&◌, ltb, List, [], ◌∷◌, is_some, Some, None, Option, unwrap_or, sym, refl, ap, subst, ap₂, arith}
use Rattle.std.proofs.lemmas.Bool.{and_parts, ltb-true, false≢true}
use Rattle.terms.specs.Term.{Term, Terms, var, app, nil, ◌▹◌, sub, subs}
use Rattle.terms.specs.Preorder.{row, alone, all_small}
use Rattle.terms.specs.Patterns.{nodes_of, term_of}
use Rattle.terms.specs.declared.pattern.Pattern.{Pattern}
use Rattle.terms.specs.declared.pattern.Node.{Node}
use Rattle.terms.specs.declared.pattern.Node.TheVariants.{Var, App}
use Rattle.bank.specs.declared.cell.Cell as cells
use Rattle.enter.specs.Enter.{enter}
use Rattle.enter.specs.Machine.{whole, forest}
use Rattle.enter.proofs.Machining.{var_after, app_after, join, forest_is}
use Rattle.enter.proofs.Growing.{Modest, AllModest}

some_eq : {X : Type 0} {x y : X} → Some x ≡ Some y → x ≡ y
some_eq e = cc

modest_split : (us ws : Terms) → AllModest (join us ws) → AllModest us × AllModest ws
modest_split nil ws h = (tt, h)
modest_split (u ▹ us) ws h = let r = modest_split us ws h.1 in ((h.0, r.0), r.1)

-- small nodes make modest terms
row_modest : (ns : List Node) (ts : Terms) → row ns ≡ Some ts → all_small ns ≡ true → AllModest ts
row_modest [] ts e h = subst AllModest (some_eq e) tt
row_modest (Var x ∷ ns) ts e h =
    let v = var_after x (row ns) ts e in
    let s = and_parts (ltb x 16) (all_small ns) h in
    let l = ltb-true x 16 s.0 in
    let m : AllModest (var x ▹ v.0) = (omega arith, row_modest ns v.0 v.1 s.1) in
    subst AllModest (sym v.2) m
row_modest (App f a ∷ ns) ts e h =
    let v = app_after f a (row ns) ts e in
    let s = and_parts (ltb f 64 && ltb a 5) (all_small ns) h in
    let l = ltb-true a 5 (and_parts (ltb f 64) (ltb a 5) s.0).1 in
    let m = modest_split v.front v.rest (subst AllModest (sym v.joins) (row_modest ns v.all v.is s.1)) in
    let r : AllModest (app f v.front ▹ v.rest) = ((omega (arith, v.wide), m.0), m.1) in
    subst AllModest (sym v.heads) r

one_term : (o : Option Terms) → is_some (alone o) ≡ true → o ≡ Some (unwrap_or (alone o) (var 0) ▹ nil)
one_term None h = absurd (false≢true h)
one_term (Some nil) h = absurd (false≢true h)
one_term (Some (t ▹ nil)) h = refl
one_term (Some (t ▹ (u ▹ us))) h = absurd (false≢true h)

-- a pattern's nodes are those of its one term
pub single : (p : Pattern) → row (nodes_of p) ≡ Some (term_of p ▹ nil)
single p = one_term (row (nodes_of p)) p.whole

pub modest : (p : Pattern) → Modest (term_of p)
modest p = (row_modest (nodes_of p) (term_of p ▹ nil) (single p) p.within).0

pub whole_enters : (p : Pattern) (m : ℕ) (bindings : List (Option ℕ)) (b : List cells.Cell) → whole m bindings (forest (nodes_of p) 0) b ≡ enter m bindings (term_of p) b
whole_enters p m bindings b = ap (λ ts. whole m bindings ts b) (forest_is (nodes_of p) 0 (term_of p ▹ nil) (single p))

-- no variable is replaced by another term
mutual
  pub sub_var : (t : Term) → sub var t ≡ t
  sub_var (var x) = refl
  sub_var (app f ts) = ap (app f) (subs_var ts)

  subs_var : (ts : Terms) → subs var ts ≡ ts
  subs_var nil = refl
  subs_var (t ▹ ts) = ap₂ ◌▹◌ (sub_var t) (subs_var ts)
