-- Walking a row of nodes from its end: how many terms it is the preorder of.
use Rattle.std.proofs.Common.{◌≡◌, ℕ, zero, suc, ◌+◌, ◌-◌, ◌<◌, ◌≤◌, Bool, true, false, ◌&&◌, List, [], ◌∷◌, ◌++◌, reverse, length, get_or, drop, is_some, Some, None, Option, sym, refl, ap, ◌∙◌, subst, inl, inr, append_assoc, append-nil, arith}
use Rattle.std.proofs.lemmas.List.{length-reverse, get_or-reverse, drop_more}
use mathlib.Core.Bool.{false≢true}
use Rattle.std.proofs.lemmas.Bool.{and_parts}
use Rattle.terms.specs.Term.{Term, Terms, var, app, nil, ◌▹◌, width}
use Rattle.terms.specs.Preorder.{split, in_front, row, alone, decode, arguments, small, all_small, Whole, Fits, Reads, Walked, preorder, preorders}
use Rattle.terms.specs.declared.pattern.Node.{Node}
use Rattle.terms.specs.declared.pattern.Node.TheVariants.{Var, App}

pub reads_none : Reads (row []) 0
reads_none = record { terms = nil; is = refl; tall = refl }

split_short : (k : ℕ) (ts : Terms) → width ts < k → split k ts ≡ None
split_short zero ts h = absurd (omega arith)
split_short (suc k) nil h = refl
split_short (suc k) (t ▹ ts) h = rw (split_short k ts (omega arith))

pub record Split (k : ℕ) (ts : Terms) : Type 0 where
  pub parts : Terms × Terms
  pub is : split k ts ≡ Some parts
  pub left : width parts.1 + k ≡ width ts

split_long : (k : ℕ) (ts : Terms) → k ≤ width ts → Split k ts
split_long zero ts h = record { parts = (nil, ts); is = refl; left = omega arith }
split_long (suc k) nil h = absurd (omega arith)
split_long (suc k) (t ▹ ts) h =
    let s = split_long k ts (omega arith) in
    record { parts = (t ▹ s.parts.0, s.parts.1); is = rw s.is; left = omega (arith, s.left) }

pub reads_var : (x : ℕ) (ns : List Node) (d : ℕ) → Reads (row ns) d → Reads (row (Var x ∷ ns)) (d + 1)
reads_var x ns d r = record { terms = var x ▹ r.terms; is = rw r.is; tall = omega (arith, r.tall) }

pub reads_app : (f a : ℕ) (ns : List Node) (d : ℕ) → Reads (row ns) d → a ≤ d → Reads (row (App f a ∷ ns)) (d - a + 1)
reads_app f a ns d r h =
    let s = split_long a r.terms (omega (arith, r.tall)) in
    record { terms = app f s.parts.0 ▹ s.parts.1; is = rw (r.is, s.is); tall = omega (arith, s.left, r.tall) }

pub app_none : (f a : ℕ) (ns : List Node) (d : ℕ) → Reads (row ns) d → d < a → row (App f a ∷ ns) ≡ None
app_none f a ns d r h = rw (r.is, split_short a r.terms (omega (arith, r.tall)))

none_none : (n : Node) (o : Option Terms) → o ≡ None → in_front n o ≡ None
none_none n o e = rw e

-- what fails further on fails as a whole
pub row_none : (ns : List Node) (i : ℕ) → row (drop i ns) ≡ None → row ns ≡ None
row_none ns zero e = e
row_none [] (suc i) e = e
row_none (n ∷ ns) (suc i) e = none_none n (row ns) (row_none ns i e)

and_false : (b c : Bool) → c ≡ false → (b && c) ≡ false
and_false true c e = e
and_false false c e = refl

pub large_later : (ns : List Node) (i : ℕ) → all_small (drop i ns) ≡ false → all_small ns ≡ false
large_later ns zero e = e
large_later [] (suc i) e = e
large_later (n ∷ ns) (suc i) e = and_false (small n) (all_small ns) (large_later ns i e)

pub small_at : (ns : List Node) (i : ℕ) → all_small ns ≡ true → i < length ns → small (get_or ns i (Var 0)) ≡ true
small_at [] i h l = absurd (omega arith)
small_at (n ∷ ns) zero h l = (and_parts (small n) (all_small ns) h).0
small_at (n ∷ ns) (suc i) h l = small_at ns i (and_parts (small n) (all_small ns) h).1 (omega arith)

one_alone : (ts : Terms) → width ts ≡ 1 → is_some (alone (Some ts)) ≡ true
one_alone nil h = absurd (omega arith)
one_alone (t ▹ nil) h = refl
one_alone (t ▹ (u ▹ us)) h = absurd (omega arith)

alone_one : (ts : Terms) → is_some (alone (Some ts)) ≡ true → width ts ≡ 1
alone_one nil w = absurd (false≢true w)
alone_one (t ▹ nil) w = refl
alone_one (t ▹ (u ▹ us)) w = absurd (false≢true w)

pub whole_from_one : (ns : List Node) → Reads (row ns) 1 → Whole ns
whole_from_one ns r = rw r.is (one_alone r.terms r.tall)

pub whole_is_one : (ns : List Node) (d : ℕ) → Reads (row ns) d → Whole ns → d ≡ 1
whole_is_one ns d r w = sym r.tall ∙ alone_one r.terms (rw r.is at w)

pub none_not_whole : (ns : List Node) → row ns ≡ None → Whole ns → ⊥
none_not_whole ns e w = false≢true (rw e at w)

pub some_inj : {m n : ℕ} → Some m ≡ Some n → m ≡ n
some_inj e = cc

-- a walk that did not find exactly one term leaves a row that no pattern holds
pub not_fits : (ns : List Node) (o : Option ℕ) → Walked ns o → (o ≡ Some 1 → ⊥) → Fits ns → ⊥
not_fits ns None (inl e) h f = none_not_whole ns e f.whole
not_fits ns None (inr e) h f = false≢true (sym e ∙ f.within)
not_fits ns (Some d) w h f = h (ap Some (whole_is_one ns d w.1 f.whole))

-- the preorder of a term decodes to it
append : Terms → Terms → Terms
append nil us = us
append (t ▹ ts) us = t ▹ append ts us

split_append : (ts us : Terms) → split (width ts) (append ts us) ≡ Some (ts, us)
unfolding append
split_append nil us = refl
split_append (t ▹ ts) us = rw (split_append ts us)

mutual
  unfolding append

  row_preorder : (t : Term) (ns : List Node) (us : Terms) → row ns ≡ Some us → row (preorder t ++ ns) ≡ Some (t ▹ us)
  row_preorder (var x) ns us e = rw e
  row_preorder (app f ts) ns us e = rw (row_preorders ts ns us e, split_append ts us)

  row_preorders : (ts : Terms) (ns : List Node) (us : Terms) → row ns ≡ Some us → row (preorders ts ++ ns) ≡ Some (append ts us)
  row_preorders nil ns us e = e
  row_preorders (t ▹ ts) ns us e = rw (append_assoc (preorder t) (preorders ts) ns) (row_preorder t (preorders ts ++ ns) (append ts us) (row_preorders ts ns us e))

pub decode_preorder : (t : Term) → decode (preorder t) ≡ Some t
decode_preorder t = rw (← append-nil (preorder t), row_preorder t [] nil refl)

-- the node at place k from the end stands in front of those behind it
pub in_front_of : (ns : List Node) (k : ℕ) (n : Node) → (k < length (reverse ns)) × (n ≡ get_or (reverse ns) k n) → drop (length ns - (k + 1)) ns ≡ n ∷ drop (length ns - k) ns
in_front_of ns k n t =
    let lt : k < length ns = omega (arith, length-reverse ns, t.0) in
    let i : length ns - 1 - k ≡ length ns - (k + 1) = omega arith in
    let up : length ns - (k + 1) + 1 ≡ length ns - k = omega arith in
    let is : n ≡ get_or ns (length ns - (k + 1)) n = t.1 ∙ get_or-reverse ns k n lt ∙ ap (λ j. get_or ns j n) i in
    drop_more ns (length ns - (k + 1)) n (omega arith) ∙ ap (λ j. get_or ns (length ns - (k + 1)) n ∷ drop j ns) up ∙ ap (λ m. m ∷ drop (length ns - k) ns) (sym is)

pub reads_node : (n : Node) (ns : List Node) (d : ℕ) → Reads (row ns) d → arguments n ≤ d → Reads (row (n ∷ ns)) (d - arguments n + 1)
reads_node (Var x) ns d r le = subst (Reads (row (Var x ∷ ns))) (omega arith) (reads_var x ns d r)
reads_node (App f a) ns d r le = reads_app f a ns d r le

pub too_few : (n : Node) (ns : List Node) (d : ℕ) → Reads (row ns) d → (arguments n ≤ d → ⊥) → row (n ∷ ns) ≡ None
too_few (Var x) ns d r h = absurd (h (omega arith))
too_few (App f a) ns d r h = app_none f a ns d r (omega (arith, h))
