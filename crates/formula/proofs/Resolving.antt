-- The nodes of a side are the preorder of the term that is written there.
use Rattle.std.proofs.Common.{◌≡◌, ℕ, suc, ◌+◌, ◌<◌, ◌≤◌, Bool, true, false, cond, ltb, ◌⊎◌, List, [], ◌∷◌, ◌++◌, length, Some, None, Ok, Err, Option, Result, sym, refl, ap, ◌∙◌, subst, inl, inr, append_assoc, append-nil, arith, length-append}
use mathlib.Core.Bool.{false≢true}
use Rattle.std.proofs.lemmas.Bool.{cases_Bool, cases_lt, cond-true, cond-false, lt-ltb, le-ltb, ltb-true, eqb-true, not-false, and_from, and_parts}
use Rattle.terms.specs.Term as terms
use Rattle.terms.specs.Sig.{Over, AllOver}
use Rattle.terms.specs.Preorder.{preorder, preorders, small, all_small}
use Rattle.terms.specs.declared.pattern.Node.{Node}
use Rattle.terms.specs.declared.pattern.Node.TheVariants.{Var, App}
use Rattle.signature.specs.Signatures.{sig_of}
use Rattle.signature.specs.declared.signature.Signature.{Signature}
use Rattle.signature.proofs.Symbols.{arity_within, symbols_few}
use Rattle.lexer.specs.Tokens.{Lexeme}
use Rattle.lexer.specs.declared.token.Kind.TheVariants.{Word, Variable}
use Rattle.grammar.specs.Kinds.{same_bytes, same_kind}
use Rattle.grammar.specs.Syntax.{Tree, Trees, leaf, node, nil, ◌▹◌, Term, Args, variable, constant, applied, last, more, Is}
use Rattle.std.proofs.lemmas.Slice.Eq.{bytes_eq-Decides}
use Rattle.grammar.proofs.Steps.{none_some, some_same}
use Rattle.formula.specs.Symbols.{index_of, number_in, symbol_of}
use Rattle.formula.specs.Uses.{Use, uses, usess, count, misused, Listed, here, later, NoneMisused}
use Rattle.formula.specs.Numbering.{cells, cellss, laid, with_name, resolved, resolveds}
use Rattle.formula.proofs.Laying.{Pair, on, laid_append}

-- numbers stay as more names are met
index_stays : (v : List ℕ) (vs ws : List (List ℕ)) → index_of v vs < length vs → index_of v (vs ++ ws) ≡ index_of v vs
index_stays v [] ws h = absurd (omega arith)
index_stays v (n ∷ vs) ws h = by (cases_Bool (same_bytes n v)) (λ k. index_stays v vs ws k)
  where
    by : (same_bytes n v ≡ true) ⊎ (same_bytes n v ≡ false) → (index_of v vs < length vs → index_of v (vs ++ ws) ≡ index_of v vs) → index_of v (n ∷ (vs ++ ws)) ≡ index_of v (n ∷ vs)
    by (inl e) ih = cond-true _ _ _ e ∙ sym (cond-true _ _ _ e)
    by (inr e) ih =
        let one : index_of v (n ∷ vs) ≡ 1 + index_of v vs = cond-false _ _ _ e in
        cond-false _ _ _ e ∙ ap (λ k. 1 + k) (ih (omega (arith, one))) ∙ sym one

index_new : (v : List ℕ) (vs ws : List (List ℕ)) → length vs ≤ index_of v vs → index_of v (vs ++ v ∷ ws) ≡ index_of v vs
index_new v [] ws h = cond-true _ _ _ ((bytes_eq-Decides v v).1 refl)
index_new v (n ∷ vs) ws h = by (cases_Bool (same_bytes n v)) (λ k. index_new v vs ws k)
  where
    by : (same_bytes n v ≡ true) ⊎ (same_bytes n v ≡ false) → (length vs ≤ index_of v vs → index_of v (vs ++ v ∷ ws) ≡ index_of v vs) → index_of v (n ∷ (vs ++ v ∷ ws)) ≡ index_of v (n ∷ vs)
    by (inl e) ih = let none : index_of v (n ∷ vs) ≡ 0 = cond-true _ _ _ e in absurd (omega (arith, none))
    by (inr e) ih =
        let one : index_of v (n ∷ vs) ≡ 1 + index_of v vs = cond-false _ _ _ e in
        cond-false _ _ _ e ∙ ap (λ k. 1 + k) (ih (omega (arith, one))) ∙ sym one

-- more names behind the first
abbrev pub Extends : List (List ℕ) → List (List ℕ) → Type 0
Extends vs ws = (us : List (List ℕ)) × (ws ≡ vs ++ us)

pub extends_same : (vs : List (List ℕ)) → Extends vs vs
extends_same vs = ([], sym (append-nil vs))

pub extends_both : (us vs ws : List (List ℕ)) → Extends us vs → Extends vs ws → Extends us ws
extends_both us vs ws (a, e) (b, f) = (a ++ b, f ∙ ap (λ xs. xs ++ b) e ∙ append_assoc us a b)

named_extends : (vs : List (List ℕ)) (v : List ℕ) → Extends vs (with_name vs v)
named_extends vs v = by (cases_lt (index_of v vs) (length vs))
  where
    by : (index_of v vs < length vs) ⊎ (length vs ≤ index_of v vs) → Extends vs (with_name vs v)
    by (inl h) = ([], cond-true _ _ _ (lt-ltb (index_of v vs) (length vs) h) ∙ sym (append-nil vs))
    by (inr h) = (v ∷ [], cond-false _ _ _ (le-ltb (index_of v vs) (length vs) h))

-- the number that a variable got is its number for good
named_index : (vs ws : List (List ℕ)) (v : List ℕ) → Extends (with_name vs v) ws → index_of v ws ≡ index_of v vs
named_index vs ws v (us, e) = by (cases_lt (index_of v vs) (length vs))
  where
    by : (index_of v vs < length vs) ⊎ (length vs ≤ index_of v vs) → index_of v ws ≡ index_of v vs
    by (inl h) = ap (index_of v) (e ∙ ap (λ xs. xs ++ us) (cond-true _ _ _ (lt-ltb (index_of v vs) (length vs) h))) ∙ index_stays v vs us h
    by (inr h) = ap (index_of v) (e ∙ ap (λ xs. xs ++ us) (cond-false _ _ _ (le-ltb (index_of v vs) (length vs) h)) ∙ append_assoc vs (v ∷ []) us) ∙ index_new v vs us h

pub ok_same : {A : Type 0} {x y : A} → ◌≡◌ {A = Result A ℕ} (Ok x) (Ok y) → x ≡ y
ok_same e = cc

pub err_ok : {A B : Type 0} {x : A} {p : ℕ} → ◌≡◌ {A = Result A ℕ} (Err p) (Ok x) → B
err_ok e = let z : ◌≡◌ {A = ℕ} 0 1 = cc in absurd (omega arith)

-- what a test let through
tested : {A : Type 0} (a : Bool) (x : Result A ℕ) (q : ℕ) (y : A) → cond a x (Err q) ≡ Ok y → (a ≡ true) × (x ≡ Ok y)
tested true x q y e = (refl, e)
tested false x q y e = err_ok e

module _ (s : Signature) where
  -- a symbol that is used as its line has it
  record Known (w : List ℕ) (n : ℕ) : Type 0 where
    line : number_in s w < (sig_of s).symbols
    arity : (sig_of s).arity (number_in s w) ≡ n
    is : symbol_of s w ≡ Some (App (number_in s w) n)

  known : (w : Lexeme) (n : ℕ) → misused s (record { word = w; args = n }) ≡ false → Known w.bytes n
  known w n h = by (cases_Bool (ltb (number_in s w.bytes) (sig_of s).symbols))
    where
      found : ltb (number_in s w.bytes) (sig_of s).symbols ≡ true → symbol_of s w.bytes ≡ Some (App (number_in s w.bytes) ((sig_of s).arity (number_in s w.bytes)))
      found e = cond-true _ _ _ e

      by : (ltb (number_in s w.bytes) (sig_of s).symbols ≡ true) ⊎ (ltb (number_in s w.bytes) (sig_of s).symbols ≡ false) → Known w.bytes n
      by (inl e) =
          let a : (sig_of s).arity (number_in s w.bytes) ≡ n = eqb-true _ _ (not-false _ (rw (found e, misused) at h)) in
          record { line = ltb-true _ _ e; arity = a; is = found e ∙ ap (λ k. Some (App (number_in s w.bytes) k)) a }
      by (inr e) = absurd (false≢true (sym (rw (cond-false _ (Some (App (number_in s w.bytes) ((sig_of s).arity (number_in s w.bytes)))) None e, misused) at h)))

  listed_left : {u : Use} {us : List Use} (vs : List Use) → Listed u us → Listed u (us ++ vs)
  listed_left vs here = here
  listed_left vs (later l) = later (listed_left vs l)

  listed_right : {u : Use} (us : List Use) {vs : List Use} → Listed u vs → Listed u (us ++ vs)
  listed_right [] l = l
  listed_right (v ∷ us) l = later (listed_right us l)

  pub none_left : (us vs : List Use) → NoneMisused s (us ++ vs) → NoneMisused s us
  none_left us vs h u l = h u (listed_left vs l)

  pub none_right : (us vs : List Use) → NoneMisused s (us ++ vs) → NoneMisused s vs
  none_right us vs h u l = h u (listed_right us l)

  resolved_width : (vs : List (List ℕ)) (ts : Trees) → terms.width (resolveds s vs ts) ≡ count ts
  resolved_width vs nil = refl
  resolved_width vs (t ▹ ts) = ap suc (resolved_width vs ts) ∙ omega arith

  mutual
    pub over : (vs : List (List ℕ)) (t : Tree) → NoneMisused s (uses t) → Over (sig_of s) (resolved s vs t)
    over vs (leaf v) h = tt
    over vs (node w ts) h =
        let k = known w (count ts) (h (record { word = w; args = count ts }) here) in
        (k.line, resolved_width vs ts ∙ sym k.arity, all_over vs ts (λ u l. h u (later l)))

    all_over : (vs : List (List ℕ)) (ts : Trees) → NoneMisused s (usess ts) → AllOver (sig_of s) (resolveds s vs ts)
    all_over vs nil h = tt
    all_over vs (t ▹ ts) h = (over vs t (none_left (uses t) (usess ts) h), all_over vs ts (none_right (uses t) (usess ts) h))

  -- the cells were laid out as the term's preorder, whatever names come later
  pub record LaidAs (vs : List (List ℕ)) (ns : List Node) (p : Pair) (nodes : List (List ℕ) → List Node) : Type 0 where
    pub extends : Extends vs p.0
    pub are : (ws : List (List ℕ)) → Extends p.0 ws → p.1 ≡ ns ++ nodes ws

  then_on : (r : Result Pair ℕ) (ts : List Lexeme) (p : Pair) → on s r ts ≡ Ok p → (q : Pair) × (r ≡ Ok q) × (laid s q.0 q.1 ts ≡ Ok p)
  then_on (Ok q) ts p e = (q, refl, e)
  then_on (Err m) ts p e = err_ok e

  cell_name : (vs : List (List ℕ)) (ns : List Node) (w : Lexeme) (n : ℕ) (ts : List Lexeme) (p : Pair) → Is Word w → Known w.bytes n → laid s vs ns (w ∷ ts) ≡ Ok p → laid s vs (ns ++ App (number_in s w.bytes) n ∷ []) ts ≡ Ok p
  cell_name vs ns w n ts p k known-w e = (tested (ltb (length ns) 32) _ w.place p (rw (k, known-w.is) at e)).1

  mutual
    pub term_laid : {ts us : List Lexeme} {x : Tree} → Term ts x us → NoneMisused s (uses x) → (vs : List (List ℕ)) (ns : List Node) (p : Pair) → laid s vs ns (cells x) ≡ Ok p → LaidAs vs ns p (λ ws. preorder (resolved s ws x))
    term_laid (variable {v = v} k) h vs ns p e =
        let inner = tested (ltb (length ns) 32) _ v.place p (rw k at e) in
        let last-test = tested (ltb (index_of v.bytes vs) 16) _ v.place p inner.1 in
        let is : (with_name vs v.bytes, ns ++ Var (index_of v.bytes vs) ∷ []) ≡ p = ok_same last-test.1 in
        let P : Pair → Type 0 = λ q. LaidAs vs ns q (λ ws. Var (index_of v.bytes ws) ∷ []) in
        subst P is (record { extends = named_extends vs v.bytes; are = λ ws x. ap (λ i. ns ++ Var i ∷ []) (sym (named_index vs ws v.bytes x)) })
    term_laid (constant {w = w} k) h vs ns p e =
        let kn = known w 0 (h (record { word = w; args = 0 }) here) in
        let is : (vs, ns ++ App (number_in s w.bytes) 0 ∷ []) ≡ p = ok_same (cell_name vs ns w 0 [] p k kn e) in
        let P : Pair → Type 0 = λ q. LaidAs vs ns q (λ ws. App (number_in s w.bytes) 0 ∷ []) in
        subst P is (record { extends = extends_same vs; are = λ ws x. refl })
    term_laid (applied {w = w} {us = xs} kw ko args) h vs ns p e =
        let n = App (number_in s w.bytes) (count xs) in
        let kn = known w (count xs) (h (record { word = w; args = count xs }) here) in
        let rest = args_laid args (λ u l. h u (later l)) vs (ns ++ n ∷ []) p (cell_name vs ns w (count xs) (cellss xs) p kw kn e) in
        record {
          extends = rest.extends;
          are = λ ws x. rest.are ws x ∙ append_assoc ns (n ∷ []) (preorders (resolveds s ws xs)) ∙ ap (λ k. ns ++ App (number_in s w.bytes) k ∷ preorders (resolveds s ws xs)) (sym (resolved_width ws xs));
        }

    pub args_laid : {ts us : List Lexeme} {xs : Trees} → Args ts xs us → NoneMisused s (usess xs) → (vs : List (List ℕ)) (ns : List Node) (p : Pair) → laid s vs ns (cellss xs) ≡ Ok p → LaidAs vs ns p (λ ws. preorders (resolveds s ws xs))
    args_laid (last {t = t} term k) h vs ns p e =
        let r = term_laid term (none_left (uses t) [] h) vs ns p (ap (laid s vs ns) (sym (append-nil (cells t))) ∙ e) in
        record { extends = r.extends; are = λ ws x. r.are ws x ∙ ap (λ ms. ns ++ ms) (sym (append-nil (preorder (resolved s ws t)))) }
    args_laid (more {t = t} {more_trees = xs} term k args) h vs ns p e =
        let q = then_on (laid s vs ns (cells t)) (cellss xs) p (sym (laid_append s vs ns (cells t) (cellss xs)) ∙ e) in
        let r = term_laid term (none_left (uses t) (usess xs) h) vs ns q.0 q.1 in
        let a = args_laid args (none_right (uses t) (usess xs) h) q.0.0 q.0.1 p q.2 in
        record {
          extends = extends_both vs q.0.0 p.0 r.extends a.extends;
          are = λ ws x. a.are ws x ∙ ap (λ ms. ms ++ preorders (resolveds s ws xs)) (r.are ws (extends_both q.0.0 p.0 ws a.extends x)) ∙ append_assoc ns (preorder (resolved s ws t)) (preorders (resolveds s ws xs));
        }

  -- all nodes keep a pattern's limits
  named_small : (w : List ℕ) (n : Node) → symbol_of s w ≡ Some n → small n ≡ true
  named_small w n e = by (cases_Bool (ltb (number_in s w) (sig_of s).symbols))
    where
      by : (ltb (number_in s w) (sig_of s).symbols ≡ true) ⊎ (ltb (number_in s w) (sig_of s).symbols ≡ false) → small n ≡ true
      by (inl t) =
          let is : App (number_in s w) ((sig_of s).arity (number_in s w)) ≡ n = some_same (sym (cond-true _ _ _ t) ∙ e) in
          ap small (sym is) ∙ and_from _ _ (lt-ltb (number_in s w) 64 (omega (arith, ltb-true (number_in s w) (sig_of s).symbols t, symbols_few s))) (lt-ltb ((sig_of s).arity (number_in s w)) 5 (omega (arith, arity_within s (number_in s w))))
      by (inr t) = none_some (sym (cond-false _ (Some (App (number_in s w) ((sig_of s).arity (number_in s w)))) None t) ∙ e)

  small_more : (ns : List Node) (n : Node) → all_small ns ≡ true → small n ≡ true → all_small (ns ++ n ∷ []) ≡ true
  small_more [] n h k = and_from (small n) true k refl
  small_more (m ∷ ns) n h k = let both = and_parts (small m) (all_small ns) h in and_from (small m) (all_small (ns ++ n ∷ [])) both.0 (small_more ns n both.1 k)

  pub record Within (ns : List Node) : Type 0 where
    pub few : length ns ≤ 32
    pub tidy : all_small ns ≡ true

  within_more : (ns : List Node) (n : Node) → ltb (length ns) 32 ≡ true → Within ns → small n ≡ true → Within (ns ++ n ∷ [])
  within_more ns n t w k = record { few = omega (arith, length-append ns (n ∷ []), ltb-true (length ns) 32 t); tidy = small_more ns n w.tidy k }

  pub laid_within : (ts : List Lexeme) (vs : List (List ℕ)) (ns : List Node) (p : Pair) → Within ns → laid s vs ns ts ≡ Ok p → Within p.1
  laid_within [] vs ns p w e = let P : Pair → Type 0 = λ q. Within q.1 in subst P (ok_same e) w
  laid_within (t ∷ ts) vs ns p w e =
      let outer = tested (ltb (length ns) 32) _ t.place p e in
      by outer (cases_Bool (same_kind t.kind Variable)) (λ ws ms. laid_within ts ws ms p)
    where
      named : (ltb (length ns) 32 ≡ true) → (o : Option Node) → symbol_of s t.bytes ≡ o → ((ws : List (List ℕ)) (ms : List Node) → Within ms → laid s ws ms ts ≡ Ok p → Within p.1) → ◌≡◌ {A = Result Pair ℕ} (elim o [ None ↦ Err t.place | Some n ↦ laid s vs (ns ++ n ∷ []) ts ]) (Ok p) → Within p.1
      named room None is ih h = err_ok h
      named room (Some n) is ih h = ih vs (ns ++ n ∷ []) (within_more ns n room w (named_small t.bytes n is)) h

      by : (ltb (length ns) 32 ≡ true) × (◌≡◌ {A = Result Pair ℕ} (cond (same_kind t.kind Variable) (cond (ltb (index_of t.bytes vs) 16) (laid s (with_name vs t.bytes) (ns ++ Var (index_of t.bytes vs) ∷ []) ts) (Err t.place)) (elim (symbol_of s t.bytes) [ None ↦ Err t.place | Some n ↦ laid s vs (ns ++ n ∷ []) ts ])) (Ok p)) → (same_kind t.kind Variable ≡ true) ⊎ (same_kind t.kind Variable ≡ false) → ((ws : List (List ℕ)) (ms : List Node) → Within ms → laid s ws ms ts ≡ Ok p → Within p.1) → Within p.1
      by (room, inner) (inl k) ih =
          let m = tested (ltb (index_of t.bytes vs) 16) _ t.place p (sym (cond-true _ _ _ k) ∙ inner) in
          ih (with_name vs t.bytes) (ns ++ Var (index_of t.bytes vs) ∷ []) (within_more ns (Var (index_of t.bytes vs)) room w m.0) m.1
      by (room, inner) (inr k) ih = named room (symbol_of s t.bytes) refl ih (sym (cond-false _ _ _ k) ∙ inner)
