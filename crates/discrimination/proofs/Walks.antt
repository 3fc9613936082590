-- The walk over cells is the walk over their terms.
use Rattle.std.proofs.Common.{◌≡◌, ℕ, Bool, true, false, cond, ◌&&◌, eqb, List, [], ◌∷◌, ◌++◌, take, Some, None, Option, sym, refl, ◌∙◌, subst, ap₂, arith}
use Rattle.std.proofs.lemmas.List.{length-take-le}
use Rattle.terms.specs.Term.{Term, Terms, var, app, ◌▹◌, width}
use Rattle.terms.specs.Sig.{Sig}
use Rattle.linear.specs.Loose.{joined}
use Rattle.bank.specs.declared.cell.Cell.{Cell}
use Rattle.bank.specs.declared.cell.Cell.TheVariants.{App}
use Rattle.bank.specs.Rules.{Rules}
use Rattle.bank.specs.Means.{Means, MeansAll, is_var, is_app, none, and}
use Rattle.bank.proofs.Readings as readings
use Rattle.trie.specs.declared.branch.Label.{Label}
use Rattle.trie.specs.declared.branch.Label.TheVariants.{Star, Symbol, Number}
use Rattle.trie.specs.Trees.{Tree, nil as leaf, node}
use Rattle.discrimination.specs.Retrieval.{after, ended, walked}
use Rattle.discrimination.specs.Cells.{args_of, opening, after_cells, ended_cells, scanned}

-- the cells stand for the terms, where there are any
abbrev Stand : List Cell → Option (List ℕ) → Option Terms → Type 0
Stand b None None = Unit {0}
Stand b None (Some ts) = ⊥
Stand b (Some is) None = ⊥
Stand b (Some is) (Some ts) = MeansAll b is ts

joined_means : {b : List Cell} {is js : List ℕ} {ts us : Terms} → MeansAll b is ts → MeansAll b js us → MeansAll b (is ++ js) (joined ts us)
joined_means none k = k
joined_means (and h hs) k = and h (joined_means hs k)

stand_if : (b : List Cell) (c : Bool) (js is : List ℕ) (us : Terms) → MeansAll b (js ++ is) us → Stand b (opening (cond c (Some js) None) is) (cond c (Some us) None)
stand_if b true js is us h = h
stand_if b false js is us h = tt

module _ (S : Sig) (b : List Cell) (rules : Rules S b) where
  symbol_stands : (f a i : ℕ) (is : List ℕ) (t : Term) (ts : Terms) → Means b i t → MeansAll b is ts
      → Stand b (after_cells b (Symbol f a) (i ∷ is)) (after (Symbol f a) (t ▹ ts))
  symbol_stands f a i is (var x) ts (is_var l e) hs = subst (λ c. Stand b (opening (args_of c f a) is) None) (sym e) tt
  symbol_stands f a i is (app g us) ts (is_app {a = m} {args = args} l e h) hs =
      let rule = readings.node S b rules l e in
      let wide : width us ≡ m = readings.tall b us h ∙ length-take-le m args (omega (arith, rule.few, rule.slots.four)) in
      subst (λ c. Stand b (opening (args_of c f a) is) (after (Symbol f a) (app g us ▹ ts))) (sym e)
      (subst (λ k. Stand b (opening (args_of (App g m args) f a) is) (cond (eqb f g && eqb a k) (Some (joined us ts)) None)) (sym wide)
      (stand_if b (eqb f g && eqb a m) (take m args) is (joined us ts) (joined_means h hs)))

  after_stands : (l : Label) (is : List ℕ) (ts : Terms) → MeansAll b is ts → Stand b (after_cells b l is) (after l ts)
  after_stands (Number n) is ts h = tt
  after_stands Star is ts none = tt
  after_stands Star is ts (and h hs) = hs
  after_stands (Symbol f a) is ts none = tt
  after_stands (Symbol f a) is ts (and {i = i} {is = js} {t = t} {ts = us} h hs) = symbol_stands f a i js t us h hs

  ended_same : (l : Label) (is : List ℕ) (ts : Terms) → MeansAll b is ts → ended_cells l is ≡ ended l ts
  ended_same Star is ts h = refl
  ended_same (Symbol f a) is ts h = refl
  ended_same (Number n) is ts none = refl
  ended_same (Number n) is ts (and h hs) = refl

  -- what is below the node, if the label fits
  abbrev Below : Option (List ℕ) → Option Terms → Tree → Type 0
  Below o p d = ◌≡◌ {A = List ℕ} (elim o [ None ↦ [] | Some js ↦ scanned b d js ]) (elim p [ None ↦ [] | Some us ↦ walked d us ])

  below_same : (o : Option (List ℕ)) (p : Option Terms) (d : Tree) → Stand b o p → ((js : List ℕ) (us : Terms) → MeansAll b js us → scanned b d js ≡ walked d us) → Below o p d
  below_same None None d h same = refl
  below_same None (Some us) d h same = absurd h
  below_same (Some js) None d h same = absurd h
  below_same (Some js) (Some us) d h same = same js us h

  pub scanned_walked : (T : Tree) (is : List ℕ) (ts : Terms) → MeansAll b is ts → scanned b T is ≡ walked T ts
  scanned_walked leaf is ts h = refl
  scanned_walked (node v l d r) is ts h =
      ap₂ ◌++◌
      (ap₂ ◌++◌ (ended_same l is ts h) (below_same (after_cells b l is) (after l ts) d (after_stands l is ts h) (scanned_walked d)))
      (scanned_walked r is ts h)
