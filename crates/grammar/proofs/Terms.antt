-- The machine reads a term exactly where the grammar has one.
use Rattle.std.proofs.Common.{◌≡◌, ℕ, zero, suc, ◌+◌, ◌-◌, ◌*◌, ◌<◌, ◌≤◌, true, false, ltb, ◌⊎◌, List, [], ◌∷◌, length, Some, None, sym, refl, ap, ◌∙◌, subst, inl, inr, arith}
use Rattle.std.proofs.lemmas.Bool.{lt-ltb, cases_Bool, cond-true, cond-false, cond_both}
use Rattle.lexer.specs.Tokens.{Lexeme}
use Rattle.lexer.specs.declared.token.Kind.{Kind}
use Rattle.lexer.specs.declared.token.Kind.TheVariants.{Word, Variable, Open, Close, Comma}
use Rattle.grammar.specs.Kinds.{same_kind}
use Rattle.grammar.specs.Machine.{is_right, spot, inside, behind}
use Rattle.grammar.specs.Syntax.{Tree, Trees, leaf, node, nil, ◌▹◌, Term, Args, variable, constant, applied, last, more}
use Rattle.grammar.specs.declared.machine.Spot.{Spot}
use Rattle.grammar.specs.declared.machine.State.TheVariants as state
use Rattle.grammar.proofs.Same.{same_kind_true}
use Rattle.grammar.proofs.Steps.{none_some, bind, goes, kind_met}

abbrev pub deeper : Spot → Spot
deeper s = spot (s.depth + 1) s.side s.wrapped

back_up : (s : Spot) → spot (s.depth + 1 - 1) s.side s.wrapped ≡ s
back_up s = let e : s.depth + 1 - 1 ≡ s.depth = omega arith in ap (λ d. spot d s.side s.wrapped) e

-- nothing opens behind a whole term
pub behind_open : (s : Spot) → behind s Open ≡ None
behind_open s = cond_both (ltb 0 s.depth) _ _ (λ o. o ≡ None) (λ _. refl) (λ _. cond_both (is_right s.side) _ _ (λ o. o ≡ None) (λ _. refl) (λ _. refl))

pub behind_deeper : (s : Spot) (k : Kind) → behind (deeper s) k ≡ inside (deeper s) k
behind_deeper s k = cond-true _ _ _ (lt-ltb 0 (s.depth + 1) (omega arith))

-- a word that nothing opens behind is a whole term
pub named : (s : Spot) (us rest : List Lexeme) → goes (state.Closed s) us ≡ Some rest → goes (state.Named s) us ≡ Some rest
named s [] rest e = none_some e
named s (t ∷ us) rest e = by (cases_Bool (same_kind t.kind Open))
  where
    by : (same_kind t.kind Open ≡ true) ⊎ (same_kind t.kind Open ≡ false) → goes (state.Named s) (t ∷ us) ≡ Some rest
    by (inl yes-open) =
        let stuck : behind s t.kind ≡ None = ap (behind s) (same_kind_true t.kind Open yes-open) ∙ behind_open s in
        none_some (sym (ap (λ o. bind o (λ p. goes p us)) stuck) ∙ e)
    by (inr not-open) = ap (λ o. bind o (λ p. goes p us)) (cond-false _ _ _ not-open) ∙ e

closes : (s : Spot) (c : Lexeme) (us rest : List Lexeme) → c.kind ≡ Close → goes (state.Closed s) us ≡ Some rest → goes (state.Closed (deeper s)) (c ∷ us) ≡ Some rest
closes s c us rest k e = ap (λ o. bind o (λ p. goes p us)) (behind_deeper s c.kind ∙ ap (inside (deeper s)) k) ∙ ap (λ q. goes (state.Closed q) us) (back_up s) ∙ e

parts : (s : Spot) (m : Lexeme) (us rest : List Lexeme) → m.kind ≡ Comma → goes (state.Term (deeper s)) us ≡ Some rest → goes (state.Closed (deeper s)) (m ∷ us) ≡ Some rest
parts s m us rest k e = ap (λ o. bind o (λ p. goes p us)) (behind_deeper s m.kind ∙ ap (inside (deeper s)) k) ∙ e

mutual
  pub term_fore : {ts us : List Lexeme} {x : Tree} → Term ts x us → (s : Spot) (rest : List Lexeme) → goes (state.Closed s) us ≡ Some rest → goes (state.Term s) ts ≡ Some rest
  term_fore (variable k) s rest e = rw k e
  term_fore (constant {rest = us} k) s rest e = rw k (named s us rest e)
  term_fore (applied kw ko args) s rest e = rw (kw, ko) (args_fore args s rest e)

  pub args_fore : {ts us : List Lexeme} {xs : Trees} → Args ts xs us → (s : Spot) (rest : List Lexeme) → goes (state.Closed s) us ≡ Some rest → goes (state.Term (deeper s)) ts ≡ Some rest
  args_fore (last {c = c} {rest = us} term k) s rest e = term_fore term (deeper s) rest (closes s c us rest k e)
  args_fore (more {m = m} {us = us} term k args) s rest e = term_fore term (deeper s) rest (parts s m us rest k (args_fore args s rest e))

pub record TermBack (s : Spot) (ts rest : List Lexeme) : Type 0 where
  pub tree : Tree
  pub left : List Lexeme
  pub term : Term ts tree left
  pub on : goes (state.Closed s) left ≡ Some rest
  pub less : length left < length ts

pub record ArgsBack (s : Spot) (ts rest : List Lexeme) : Type 0 where
  pub trees : Trees
  pub left : List Lexeme
  pub args : Args ts trees left
  pub on : goes (state.Closed s) left ≡ Some rest
  pub less : length left < length ts

-- what the first token of a term says
data Start (s : Spot) (t : Lexeme) (ts rest : List Lexeme) : Type 0 where
  at_variable : t.kind ≡ Variable → goes (state.Closed s) ts ≡ Some rest → Start s t ts rest
  at_word : t.kind ≡ Word → goes (state.Named s) ts ≡ Some rest → Start s t ts rest

start_back : (s : Spot) (t : Lexeme) (ts rest : List Lexeme) → goes (state.Term s) (t ∷ ts) ≡ Some rest → Start s t ts rest
start_back s t ts rest e = by (cases_Bool (same_kind t.kind Variable))
  where
    by : (same_kind t.kind Variable ≡ true) ⊎ (same_kind t.kind Variable ≡ false) → Start s t ts rest
    by (inl is) = at_variable (same_kind_true t.kind Variable is) (sym (ap (λ o. bind o (λ p. goes p ts)) (cond-true _ _ _ is)) ∙ e)
    by (inr other) =
        let m = kind_met t Word (state.Named s) (λ p. goes p ts) rest (sym (ap (λ o. bind o (λ p. goes p ts)) (cond-false _ _ _ other)) ∙ e) in
        at_word m.0 m.1

-- behind a word its arguments open, or it is whole
data Opens (s : Spot) (ts rest : List Lexeme) : Type 0 where
  opens : (o : Lexeme) (us : List Lexeme) → ts ≡ o ∷ us → o.kind ≡ Open → goes (state.Term (deeper s)) us ≡ Some rest → Opens s ts rest
  whole : goes (state.Closed s) ts ≡ Some rest → Opens s ts rest

named_back : (s : Spot) (ts rest : List Lexeme) → goes (state.Named s) ts ≡ Some rest → Opens s ts rest
named_back s [] rest e = none_some e
named_back s (t ∷ ts) rest e = by (cases_Bool (same_kind t.kind Open))
  where
    by : (same_kind t.kind Open ≡ true) ⊎ (same_kind t.kind Open ≡ false) → Opens s (t ∷ ts) rest
    by (inl is) = opens t ts refl (same_kind_true t.kind Open is) (sym (ap (λ o. bind o (λ p. goes p ts)) (cond-true _ _ _ is)) ∙ e)
    by (inr other) = whole (sym (ap (λ o. bind o (λ p. goes p ts)) (cond-false _ _ _ other)) ∙ e)

-- behind an argument comes the next, or the parenthesis closes
data Goes_on (s : Spot) (ts rest : List Lexeme) : Type 0 where
  comma : (m : Lexeme) (us : List Lexeme) → ts ≡ m ∷ us → m.kind ≡ Comma → goes (state.Term (deeper s)) us ≡ Some rest → Goes_on s ts rest
  close : (c : Lexeme) (us : List Lexeme) → ts ≡ c ∷ us → c.kind ≡ Close → goes (state.Closed s) us ≡ Some rest → Goes_on s ts rest

closed_back : (s : Spot) (ts rest : List Lexeme) → goes (state.Closed (deeper s)) ts ≡ Some rest → Goes_on s ts rest
closed_back s [] rest e = none_some e
closed_back s (t ∷ ts) rest e = by (cases_Bool (same_kind t.kind Comma))
  where
    within : bind (inside (deeper s) t.kind) (λ p. goes p ts) ≡ Some rest
    within = sym (ap (λ o. bind o (λ p. goes p ts)) (behind_deeper s t.kind)) ∙ e

    by : (same_kind t.kind Comma ≡ true) ⊎ (same_kind t.kind Comma ≡ false) → Goes_on s (t ∷ ts) rest
    by (inl is) = comma t ts refl (same_kind_true t.kind Comma is) (sym (ap (λ o. bind o (λ p. goes p ts)) (cond-true _ _ _ is)) ∙ within)
    by (inr other) =
        let m = kind_met t Close (state.Closed (spot (s.depth + 1 - 1) s.side s.wrapped)) (λ p. goes p ts) rest (sym (ap (λ o. bind o (λ p. goes p ts)) (cond-false _ _ _ other)) ∙ within) in
        close t ts refl m.0 (sym (ap (λ q. goes (state.Closed q) ts) (back_up s)) ∙ m.1)

retail : {t o : Lexeme} {ts us left : List Lexeme} {x : Tree} → ts ≡ o ∷ us → Term (t ∷ (o ∷ us)) x left → Term (t ∷ ts) x left
retail {t} {left = left} {x = x} is term = subst (λ (ys : List Lexeme). Term (t ∷ ys) x left) (sym is) term

-- for at most n tokens, counted twice so that arguments may count one more
abbrev TermAt : ℕ → Type 0
TermAt n = (s : Spot) (ts rest : List Lexeme) → 2 * length ts ≤ n → goes (state.Term s) ts ≡ Some rest → TermBack s ts rest

abbrev ArgsAt : ℕ → Type 0
ArgsAt n = (s : Spot) (ts rest : List Lexeme) → 2 * length ts + 1 ≤ n → goes (state.Term (deeper s)) ts ≡ Some rest → ArgsBack s ts rest

module _ (n : ℕ) (args_at : ArgsAt n) (s : Spot) (t : Lexeme) (ts rest : List Lexeme) (h : 2 * length (t ∷ ts) ≤ suc n) where
  word : t.kind ≡ Word → Opens s ts rest → TermBack s (t ∷ ts) rest
  word k (whole e) = record { tree = node t nil; left = ts; term = constant k; on = e; less = omega arith }
  word k (opens o us is ko e) =
      let size : length ts ≡ suc (length us) = ap length is in
      let b = args_at s us rest (omega arith) e in
      record { tree = node t b.trees; left = b.left; term = retail is (applied k ko b.args); on = b.on; less = omega (arith, b.less) }

  first_token : Start s t ts rest → TermBack s (t ∷ ts) rest
  first_token (at_variable k e) = record { tree = leaf t; left = ts; term = variable k; on = e; less = omega arith }
  first_token (at_word k e) = word k (named_back s ts rest e)

term_step : (n : ℕ) → ArgsAt n → TermAt (suc n)
term_step n args_at s [] rest h e = none_some e
term_step n args_at s (t ∷ ts) rest h e = first_token n args_at s t ts rest h (start_back s t ts rest e)

module _ (n : ℕ) (args_at : ArgsAt n) (s : Spot) (ts rest : List Lexeme) (h : 2 * length ts + 1 ≤ suc n) (b : TermBack (deeper s) ts rest) where
  later_args : Goes_on s b.left rest → ArgsBack s ts rest
  later_args (close c us is k e) =
      let size : length b.left ≡ suc (length us) = ap length is in
      record { trees = b.tree ▹ nil; left = us; args = last (rw is at b.term) k; on = e; less = omega (arith, b.less) }
  later_args (comma m us is k e) =
      let size : length b.left ≡ suc (length us) = ap length is in
      let a = args_at s us rest (omega (arith, b.less)) e in
      record { trees = b.tree ▹ a.trees; left = a.left; args = more (rw is at b.term) k a.args; on = a.on; less = omega (arith, b.less, a.less) }

args_step : (n : ℕ) → TermAt n → ArgsAt n → ArgsAt (suc n)
args_step n term-at args_at s ts rest h e =
    let b = term-at (deeper s) ts rest (omega arith) e in
    later_args n args_at s ts rest h b (closed_back s b.left rest b.on)

none_at : TermAt 0
none_at s [] rest h e = none_some e
none_at s (t ∷ ts) rest h e = absurd (omega arith)

both_at : (n : ℕ) → TermAt n × ArgsAt n
both_at zero = (none_at, λ s ts rest h e. absurd (omega arith))
both_at (suc n) = let ih = both_at n in (term_step n ih.1, args_step n ih.0 ih.1)

pub term_back : (s : Spot) (ts rest : List Lexeme) → goes (state.Term s) ts ≡ Some rest → TermBack s ts rest
term_back s ts rest e = (both_at (2 * length ts)).0 s ts rest (omega arith) e
