-- What one turn of the machine comes to.
use Rattle.std.proofs.Common.{◌≡◌, ℕ, zero, suc, ◌+◌, ◌-◌, ◌<◌, ◌≤◌, true, ltb, List, [], ◌∷◌, ◌++◌, length, get_or, reverse, drop, set, is_some, Some, None, Option, Ok, Err, Result, MatchResult, sym, refl, ap, ◌∙◌, subst, inl, inr, arith}
use Rattle.std.proofs.lemmas.List.{drop_all, drop_more, reverse-append}
use Rattle.std.specs.Result.{result_ok}
use Rattle.std.proofs.lemmas.Bool.{cases_lt, and_parts, ltb-true, false≢true}
use Rattle.terms.specs.Term.{Term, Terms, var, app, nil, ◌▹◌, width}
use Rattle.terms.specs.Preorder.{row, split, headed, in_front, Reads, small, alone, Whole}
use Rattle.terms.specs.declared.pattern.Node.{Node}
use Rattle.terms.specs.declared.pattern.Node.TheVariants.{Var, App}
use Rattle.bank.specs.declared.cell.Cell as cells
use Rattle.bank.specs.declared.cell.Cell.TheVariants as cell
use Rattle.enter.specs.Enter.{Entry, note, chain, fill, blank, bound, enter, enters}
use Rattle.row.specs.Items.{items}
use Rattle.row.specs.declared.Row.{Row}
use Rattle.enter.specs.Machine.{fresh, given, entered, after, onward, forest, opens, later, wanted, Waiting}
use Rattle.enter.specs.declared.machine.Open.{Open}

abbrev pub both : List cells.Cell → List ℕ → List cells.Cell × List ℕ
both b is = (b, is)

pub chain_none : {A B : Type 0} (o : Option A) (k : A → Option B) → o ≡ None → chain o k ≡ None
chain_none o k e = rw e

pub chain_some : {A B : Type 0} (o : Option A) (k : A → Option B) (a : A) → o ≡ Some a → chain o k ≡ k a
chain_some o k a e = rw e

abbrev pub join : Terms → Terms → Terms
join nil us = us
join (t ▹ ts) us = t ▹ join ts us

-- the front of a split, and what is left
record Cut (k : ℕ) (ts : Terms) : Type 0 where
  front : Terms
  rest : Terms
  is : split k ts ≡ Some (front, rest)
  wide : width front ≡ k
  left : k + width rest ≡ width ts
  joins : join front rest ≡ ts

cut : (k : ℕ) (ts : Terms) → k ≤ width ts → Cut k ts
cut zero ts h = record { front = nil; rest = ts; is = refl; wide = refl; left = omega arith; joins = refl }
cut (suc k) nil h = absurd (let z : ⊥ = omega arith in z)
cut (suc k) (t ▹ ts) h =
    let s = cut k ts (omega arith) in
    record { front = t ▹ s.front; rest = s.rest; is = rw s.is; wide = ap suc s.wide; left = omega (arith, s.left); joins = ap (λ us. t ▹ us) s.joins }

short : (k : ℕ) (ts : Terms) → width ts < k → split k ts ≡ None
short zero ts h = absurd (let z : ⊥ = omega arith in z)
short (suc k) nil h = refl
short (suc k) (t ▹ ts) h = rw (short k ts (omega arith))

-- nothing is left of a row that has ended
in_row : (ns : List Node) (i d : ℕ) → Reads (row (drop i ns)) (suc d) → i < length ns
in_row ns i d r = elim (cases_lt i (length ns)) [
  | inl l ↦ l
  | inr g ↦
      let e : Some nil ≡ Some r.terms = sym (ap row (drop_all i ns g)) ∙ r.is in
      let q : nil ≡ r.terms = cc in
      absurd (let z : ⊥ = omega (arith, r.tall, ap width q) in z)
]

-- the node at place i, and the row after it
at_node : (ns : List Node) (i : ℕ) (n : Node) → i < length ns → get_or ns i (Var 0) ≡ n → row (drop i ns) ≡ in_front n (row (drop (i + 1) ns))
at_node ns i n l e = ap row (drop_more ns i (Var 0) l) ∙ ap (λ m. in_front m (row (drop (i + 1) ns))) e

pub record After (f a : ℕ) (o : Option Terms) (ts : Terms) : Type 0 where
  pub all : Terms
  pub front : Terms
  pub rest : Terms
  pub is : o ≡ Some all
  pub cuts : split a all ≡ Some (front, rest)
  pub wide : width front ≡ a
  pub tall : a + width rest ≡ width all
  pub joins : join front rest ≡ all
  pub heads : ts ≡ app f front ▹ rest

pub none_some : {X : Type 0} {x : X} → None ≡ Some x → ⊥
none_some e = let z : ◌≡◌ {A = ℕ} 0 1 = cc in omega arith

pub var_after : (x : ℕ) (o : Option Terms) (ts : Terms) → in_front (Var x) o ≡ Some ts → (all : Terms) × (o ≡ Some all) × (ts ≡ var x ▹ all)
var_after x None ts e = absurd (none_some e)
var_after x (Some all) ts e = (all, refl, cc)

pub app_after : (f a : ℕ) (o : Option Terms) (ts : Terms) → in_front (App f a) o ≡ Some ts → After f a o ts
app_after f a None ts e = absurd (none_some e)
app_after f a (Some all) ts e = elim (cases_lt (width all) a) [
  | inl l ↦ absurd (none_some (sym (ap (headed f) (short a all l)) ∙ e))
  | inr g ↦
      let s = cut a all g in
      let h : Some (app f s.front ▹ s.rest) ≡ Some ts = sym (ap (headed f) s.is) ∙ e in
      record { all = all; front = s.front; rest = s.rest; is = refl; cuts = s.is; wide = s.wide; tall = s.left; joins = s.joins; heads = cc }
]

pub small_arity : (n : Node) (f a : ℕ) → n ≡ App f a → small n ≡ true → a ≤ 4
small_arity n f a e h = omega (arith, ltb-true a 5 (and_parts (ltb f 64) (ltb a 5) (sym (ap small e) ∙ h)).1)

module _ (m : ℕ) (bindings : List (Option ℕ)) where
  abbrev Next : Type 0
  Next = ℕ → Terms → List cells.Cell → Entry

  -- a symbol with all its arguments is entered
  pub closes : (o : Open) (ts : Terms) (b : List cells.Cell) (next : Next) → o.have ≡ o.arity
      → entered m bindings (o.arity - o.have) o ts b next ≡ chain (note m (cell.App o.symbol o.arity o.args) b) (λ q. next q.1 ts q.0)
  closes o ts b next e =
      let z : o.arity - o.have ≡ 0 = omega arith in
      ap (λ k. entered m bindings k o ts b next) z

  -- the next term is entered, and its cell is the next argument
  takes : (j : ℕ) (o : Open) (t : Term) (ts : Terms) (b : List cells.Cell) (next : Next) → j ≤ width ts
      → entered m bindings (suc j) o (t ▹ ts) b next ≡ chain (enter m bindings t b) (λ r. entered m bindings j (given o r.1) ts r.0 next)
  takes j o t ts b next h =
      let s = cut j ts h in
      rw s.is (elim (enter m bindings t b) as (λ z.
      chain (chain z (λ r. chain (enters m bindings s.front r.0) (λ u. Some (both u.0 (r.1 ∷ u.1)))))
      (λ r. chain (note m (cell.App o.symbol o.arity (fill o.args o.have r.1)) r.0) (λ q. next q.1 s.rest q.0))
      ≡ chain z (λ r. chain (enters m bindings s.front r.0) (λ u. chain (note m (cell.App o.symbol o.arity (fill (set o.args o.have r.1) (o.have + 1) u.1)) u.0) (λ q. next q.1 s.rest q.0)))) [
        | None ↦ refl
        | Some r ↦ elim (enters m bindings s.front r.0) as (λ z.
            chain (chain z (λ u. Some (both u.0 (r.1 ∷ u.1))))
            (λ r. chain (note m (cell.App o.symbol o.arity (fill o.args o.have r.1)) r.0) (λ q. next q.1 s.rest q.0))
            ≡ chain z (λ u. chain (note m (cell.App o.symbol o.arity (fill (set o.args o.have r.1) (o.have + 1) u.1)) u.0) (λ q. next q.1 s.rest q.0))) [ None ↦ refl | Some u ↦ refl ]
      ])

  pub delivers : (os : List Open) (t : Term) (ts : Terms) (b : List cells.Cell) → Waiting os → width ts ≡ later os
      → onward m bindings os (t ▹ ts) b ≡ chain (enter m bindings t b) (λ q. after m bindings os q.1 ts q.0)
  delivers [] t ts b w h = elim (enter m bindings t b) as (λ z. z ≡ chain z (λ q. Some (q.0, q.1))) [ None ↦ refl | Some q ↦ refl ]
  delivers (o ∷ os) t ts b w h =
      let j = o.arity - (o.have + 1) in
      let e : o.arity - o.have ≡ suc j = omega (arith, w.0) in
      ap (λ k. entered m bindings k o (t ▹ ts) b (after m bindings os)) e ∙ takes j o t ts b (after m bindings os) (omega arith)

  -- a symbol that has no argument yet
  pub starts : (f a : ℕ) (front rest all : Terms) (b : List cells.Cell) (next : Next) → split a all ≡ Some (front, rest) → width front ≡ a
      → entered m bindings (a - 0) (fresh f a) all b next ≡ chain (enter m bindings (app f front) b) (λ q. next q.1 rest q.0)
  starts f a front rest all b next e w =
      let z : a - 0 ≡ a = omega arith in
      rw (z, e, w) (elim (enters m bindings front b) as (λ z.
      chain z (λ r. chain (note m (cell.App f a (fill blank 0 r.1)) r.0) (λ q. next q.1 rest q.0))
      ≡ chain (chain z (λ r. note m (cell.App f a (fill blank 0 r.1)) r.0)) (λ q. next q.1 rest q.0)) [ None ↦ refl | Some r ↦ refl ])

pub forest_is : (nodes : List Node) (i : ℕ) (ts : Terms) → row (drop i nodes) ≡ Some ts → forest nodes i ≡ ts
forest_is nodes i ts e = rw e

-- what `ok` and `?` say of a push
pub was_err : {E : Type 0} (P Q : Type 0) (r : Result (Unit {0}) E) (o : Option (Unit {0})) → o ≡ result_ok r → o ≡ None → MatchResult r (λ _. P) (λ _. Q) → Q
was_err P Q (Ok u) o e n h = absurd (none_some (sym n ∙ e))
was_err P Q (Err x) o e n h = h

pub was_ok : {E : Type 0} (P Q : Type 0) (r : Result (Unit {0}) E) (o : Option (Unit {0})) (u : Unit {0}) → o ≡ result_ok r → o ≡ Some u → MatchResult r (λ _. P) (λ _. Q) → P
was_ok P Q (Ok v) o u e s h = h
was_ok P Q (Err x) o u e s h = absurd (none_some (sym e ∙ s))

pub waiting_wants : (os : List Open) → Waiting os → wanted os ≡ suc (later os)
waiting_wants [] w = refl
waiting_wants (o ∷ os) w = omega (arith, w.0)

-- a symbol is taken off the row, or put on it
pub taken : (old new : Row Open 32) (o : Open) → items old ≡ items new ++ o ∷ [] → opens old ≡ o ∷ opens new
taken old new o e = ap reverse e ∙ reverse-append (items new) (o ∷ [])

pub put_on : (old new : Row Open 32) (o : Open) → items new ≡ items old ++ o ∷ [] → opens new ≡ o ∷ opens old
put_on old new o e = ap reverse e ∙ reverse-append (items old) (o ∷ [])

pub none_waits : (r : Row Open 32) → items r ≡ [] → opens r ≡ []
none_waits r e = ap reverse e

-- a node in front of the terms us, where the waiting symbols os want the terms ts
module _ (m : ℕ) (bindings : List (Option ℕ)) (os : List Open) (waits : Waiting os) (ts us : Terms) (wide : width ts ≡ wanted os) (b : List cells.Cell) where
  module _ (x : ℕ) (e : in_front (Var x) (Some us) ≡ Some ts) where
    var_ts : ts ≡ var x ▹ us
    var_ts =
        let a = var_after x (Some us) ts e in
        let q : us ≡ a.0 = cc in
        a.2 ∙ ap (λ vs. var x ▹ vs) (sym q)

    pub var_wide : width us ≡ later os
    var_wide = omega (arith, ap width var_ts, wide, waiting_wants os waits)

    pub var_left : onward m bindings os ts b ≡ chain (bound m x b (get_or bindings x None)) (λ q. after m bindings os q.1 us q.0)
    var_left = ap (λ vs. onward m bindings os vs b) var_ts ∙ delivers m bindings os (var x) us b waits var_wide

    -- its cell goes to the symbol that waits
    pub var_next : (m' : ℕ) (o : Open) (os' : List Open) (b' : List cells.Cell) (v : ℕ) → os ≡ o ∷ os' → m' ≡ m → bound m x b (get_or bindings x None) ≡ Some (b', v) → onward m bindings os ts b ≡ onward m' bindings (given o v ∷ os') us b'
    var_next m' o os' b' v is size q =
        var_left ∙ chain_some _ _ (b', v) q ∙ ap (λ fs. after m bindings fs v us b') is ∙ ap (λ k. onward k bindings (given o v ∷ os') us b') (sym size)

  module _ (f a : ℕ) (e : in_front (App f a) (Some us) ≡ Some ts) where
    app_row : After f a (Some us) ts
    app_row = app_after f a (Some us) ts e

    app_all : app_row.all ≡ us
    app_all = let q = app_row.is in cc

    app_rest : width app_row.rest ≡ later os
    app_rest = omega (arith, ap width app_row.heads, wide, waiting_wants os waits)

    pub app_wide : width us ≡ wanted (fresh f a ∷ os)
    app_wide = omega (arith, app_row.tall, ap width app_all, app_rest)

    pub app_left : onward m bindings os ts b ≡ onward m bindings (fresh f a ∷ os) us b
    app_left =
        ap (λ vs. onward m bindings os vs b) app_row.heads
        ∙ delivers m bindings os (app f app_row.front) app_row.rest b waits app_rest
        ∙ sym (starts m bindings f a app_row.front app_row.rest app_row.all b (after m bindings os) app_row.cuts app_row.wide)
        ∙ ap (λ vs. onward m bindings (fresh f a ∷ os) vs b) app_all

-- the node at place i of a row, and the terms behind it
pub record Front (nodes : List Node) (i : ℕ) (ts : Terms) : Type 0 where
  pub behind : Terms
  pub is : row (drop (i + 1) nodes) ≡ Some behind
  pub front : in_front (get_or nodes i (Var 0)) (Some behind) ≡ Some ts

front_by : (nodes : List Node) (i : ℕ) (ts : Terms) (n : Node) → get_or nodes i (Var 0) ≡ n → in_front n (row (drop (i + 1) nodes)) ≡ Some ts → Front nodes i ts
front_by nodes i ts (Var x) is e =
    let a = var_after x (row (drop (i + 1) nodes)) ts e in
    record { behind = a.0; is = a.1; front = rw is (rw a.1 at e) }
front_by nodes i ts (App f a) is e =
    let r = app_after f a (row (drop (i + 1) nodes)) ts e in
    record { behind = r.all; is = r.is; front = rw is (rw r.is at e) }

pub front_of : (nodes : List Node) (i : ℕ) (ts : Terms) → i < length nodes → row (drop i nodes) ≡ Some ts → Front nodes i ts
front_of nodes i ts l e = front_by nodes i ts (get_or nodes i (Var 0)) refl (sym (at_node nodes i (get_or nodes i (Var 0)) l refl) ∙ e)

-- a node is left as long as a symbol wants one
pub node_left : (nodes : List Node) (i : ℕ) (os : List Open) → Waiting os → Reads (row (drop i nodes)) (wanted os) → i < length nodes
node_left nodes i os waits r = in_row nodes i (later os) (subst (Reads (row (drop i nodes))) (waiting_wants os waits) r)

-- a symbol with all its arguments comes to what its cell comes to
module _ (m : ℕ) (bindings : List (Option ℕ)) (o : Open) (os : List Open) (ts : Terms) (b : List cells.Cell) (full : o.have ≡ o.arity) where
  pub settled : (b' : List cells.Cell) (v : ℕ) → note m (cell.App o.symbol o.arity o.args) b ≡ Some (b', v) → onward m bindings (o ∷ os) ts b ≡ after m bindings os v ts b'
  settled b' v e = closes m bindings o ts b (after m bindings os) full ∙ chain_some _ _ (b', v) e

  pub unsettled : note m (cell.App o.symbol o.arity o.args) b ≡ None → onward m bindings (o ∷ os) ts b ≡ None
  unsettled e = closes m bindings o ts b (after m bindings os) full ∙ chain_none _ _ e

-- its cell goes to the next symbol that waits, or is the whole term's
pub next_settled : (m m' : ℕ) (bindings : List (Option ℕ)) (o next : Open) (os os' : List Open) (ts : Terms) (b b' : List cells.Cell) (v : ℕ) → o.have ≡ o.arity → os ≡ next ∷ os' → m' ≡ m → note m (cell.App o.symbol o.arity o.args) b ≡ Some (b', v)
    → onward m bindings (o ∷ os) ts b ≡ onward m' bindings (given next v ∷ os') ts b'
next_settled m m' bindings o next os os' ts b b' v full is size e =
    settled m bindings o os ts b full b' v e ∙ ap (λ us. after m bindings us v ts b') is ∙ ap (λ k. onward k bindings (given next v ∷ os') ts b') (sym size)

pub last_settled : (m : ℕ) (bindings : List (Option ℕ)) (o : Open) (os : List Open) (ts : Terms) (b b' : List cells.Cell) (v : ℕ) → o.have ≡ o.arity → os ≡ [] → note m (cell.App o.symbol o.arity o.args) b ≡ Some (b', v)
    → onward m bindings (o ∷ os) ts b ≡ Some (b', v)
last_settled m bindings o os ts b b' v full is e = settled m bindings o os ts b full b' v e ∙ ap (λ us. after m bindings us v ts b') is

one_reads : (o : Option Terms) → is_some (alone o) ≡ true → Reads o 1
one_reads None h = absurd (false≢true h)
one_reads (Some nil) h = absurd (false≢true h)
one_reads (Some (t ▹ nil)) h = record { terms = t ▹ nil; is = refl; tall = refl }
one_reads (Some (t ▹ (u ▹ us))) h = absurd (false≢true h)

pub whole_reads : (nodes : List Node) → Whole nodes → Reads (row nodes) 1
whole_reads nodes one = one_reads (row nodes) one
