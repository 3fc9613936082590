-- Laying out a side over tokens lays out the cells of its tree.
use Rattle.std.proofs.Common.{◌≡◌, ℕ, Bool, true, false, cond, ltb, ◌⊎◌, List, [], ◌∷◌, ◌++◌, length, Some, None, Ok, Err, Option, Result, sym, refl, ap, ◌∙◌, inl, inr, append-nil}
use Rattle.terms.specs.declared.pattern.Node.{Node}
use Rattle.terms.specs.declared.pattern.Node.TheVariants.{Var}
use Rattle.signature.specs.declared.signature.Signature.{Signature}
use Rattle.lexer.specs.Tokens.{Lexeme}
use Rattle.lexer.specs.declared.token.Kind.TheVariants.{Variable, Open, Close, Comma, Dot, Equal, Unequal}
use Rattle.grammar.specs.Kinds.{same_kind}
use Rattle.grammar.specs.Syntax.{Tree, Trees, Term, Args, variable, constant, applied, last, more, Literal, Sides, sides, Body, bare, wrapped, Is}
use Rattle.formula.specs.Symbols.{index_of, symbol_of}
use Rattle.formula.specs.Numbering.{cells, cellss, laid, with_name}
use Rattle.formula.specs.Rows.{Row, row_of}

abbrev pub Pair : Type 0
Pair = List (List ℕ) × List Node

-- going on with more tokens, or with more cells
abbrev pub after : Signature → Result Pair ℕ → List Lexeme → Result Row ℕ
after s (Ok p) us = row_of s p.0 p.1 us
after s (Err p) us = Err p

abbrev pub on : Signature → Result Pair ℕ → List Lexeme → Result Pair ℕ
on s (Ok p) ts = laid s p.0 p.1 ts
on s (Err p) ts = Err p

module _ (s : Signature) where
  two_tests : (a b : Bool) (p : Pair) (q : ℕ) (us : List Lexeme) → cond a (cond b (after s (Ok p) us) (Err q)) (Err q) ≡ after s (cond a (cond b (Ok p) (Err q)) (Err q)) us
  two_tests true true p q us = refl
  two_tests true false p q us = refl
  two_tests false b p q us = refl

  named_test : (a : Bool) (o : Option Node) (f : Node → Result Row ℕ) (g : Node → Result Pair ℕ) (q : ℕ) (us : List Lexeme) → ((n : Node) → f n ≡ after s (g n) us) → ◌≡◌ {A = Result Row ℕ} (cond a (elim o [ None ↦ Err q | Some n ↦ f n ]) (Err q)) (after s (cond a (elim o [ None ↦ Err q | Some n ↦ g n ]) (Err q)) us)
  named_test true None f g q us h = refl
  named_test true (Some n) f g q us h = h n
  named_test false o f g q us h = refl

  cond_on : (a : Bool) (x y : Result Pair ℕ) (ts : List Lexeme) → on s (cond a x y) ts ≡ cond a (on s x ts) (on s y ts)
  cond_on true x y ts = refl
  cond_on false x y ts = refl

  named_on : (o : Option Node) (f : Node → Result Pair ℕ) (g : Node → Result Pair ℕ) (q : ℕ) (ts : List Lexeme) → ((n : Node) → f n ≡ on s (g n) ts) → ◌≡◌ {A = Result Pair ℕ} (elim o [ None ↦ Err q | Some n ↦ f n ]) (on s (elim o [ None ↦ Err q | Some n ↦ g n ]) ts)
  named_on None f g q ts h = refl
  named_on (Some n) f g q ts h = h n

  pub laid_append : (vs : List (List ℕ)) (ns : List Node) (ts us : List Lexeme) → laid s vs ns (ts ++ us) ≡ on s (laid s vs ns ts) us
  laid_append vs ns [] us = refl
  laid_append vs ns (t ∷ ts) us =
      let w = t.bytes in
      let k = index_of w vs in
      let name = named_on (symbol_of s w) (λ n. laid s vs (ns ++ n ∷ []) (ts ++ us)) (λ n. laid s vs (ns ++ n ∷ []) ts) t.place us (λ n. laid_append vs (ns ++ n ∷ []) ts us) in
      let var-case = ap (λ x. cond (ltb k 16) x (Err t.place)) (laid_append (with_name vs w) (ns ++ Var k ∷ []) ts us) ∙ sym (cond_on (ltb k 16) (laid s (with_name vs w) (ns ++ Var k ∷ []) ts) (Err t.place) us) in
      ap (λ x. cond (ltb (length ns) 32) (cond (same_kind t.kind Variable) x (elim (symbol_of s w) [ None ↦ Err t.place | Some n ↦ laid s vs (ns ++ n ∷ []) (ts ++ us) ])) (Err t.place)) var-case
      ∙ ap (λ y. cond (ltb (length ns) 32) (cond (same_kind t.kind Variable) (on s (cond (ltb k 16) (laid s (with_name vs w) (ns ++ Var k ∷ []) ts) (Err t.place)) us) y) (Err t.place)) name
      ∙ sym (cond_on (ltb (length ns) 32) _ (Err t.place) us ∙ ap (λ x. cond (ltb (length ns) 32) x (Err t.place)) (cond_on (same_kind t.kind Variable) _ _ us))

  -- a token that is no cell and no sign
  data Passed (t : Lexeme) : Type 0 where
    opening : Is Open t → Passed t
    closing : Is Close t → Passed t
    comma : Is Comma t → Passed t
    dot : Is Dot t → Passed t

  passes : (t : Lexeme) → Passed t → (r : Result Pair ℕ) (ts : List Lexeme) → after s r (t ∷ ts) ≡ after s r ts
  passes t (opening k) (Ok p) ts = rw k refl
  passes t (closing k) (Ok p) ts = rw k refl
  passes t (comma k) (Ok p) ts = rw k refl
  passes t (dot k) (Ok p) ts = rw k refl
  passes t h (Err p) ts = refl

  chain : (r : Result Pair ℕ) (ts us cs : List Lexeme) → ((vs : List (List ℕ)) (ns : List Node) → row_of s vs ns ts ≡ after s (laid s vs ns cs) us) → after s r ts ≡ after s (on s r cs) us
  chain (Ok p) ts us cs h = h p.0 p.1
  chain (Err p) ts us cs h = refl

  mutual
    pub term_row : {ts us : List Lexeme} {x : Tree} → Term ts x us → (vs : List (List ℕ)) (ns : List Node) → row_of s vs ns ts ≡ after s (laid s vs ns (cells x)) us
    term_row (variable {v = v} {rest = us} k) vs ns = rw k (two_tests (ltb (length ns) 32) (ltb (index_of v.bytes vs) 16) (with_name vs v.bytes, ns ++ Var (index_of v.bytes vs) ∷ []) v.place us)
    term_row (constant {w = w} {rest = us} k) vs ns = rw k (named_test (ltb (length ns) 32) (symbol_of s w.bytes) (λ n. row_of s vs (ns ++ n ∷ []) us) (λ n. Ok (vs, ns ++ n ∷ [])) w.place us (λ n. refl))
    term_row (applied {w = w} {o = o} {ts = ts} {rest = us} {us = xs} kw ko args) vs ns =
        rw kw (named_test (ltb (length ns) 32) (symbol_of s w.bytes) (λ n. row_of s vs (ns ++ n ∷ []) (o ∷ ts)) (λ n. laid s vs (ns ++ n ∷ []) (cellss xs)) w.place us (λ n. passes o (opening ko) (Ok (vs, ns ++ n ∷ [])) ts ∙ args_row args vs (ns ++ n ∷ [])))

    pub args_row : {ts us : List Lexeme} {xs : Trees} → Args ts xs us → (vs : List (List ℕ)) (ns : List Node) → row_of s vs ns ts ≡ after s (laid s vs ns (cellss xs)) us
    args_row (last {c = c} {rest = us} {t = t} term k) vs ns =
        term_row term vs ns ∙ passes c (closing k) (laid s vs ns (cells t)) us ∙ ap (λ cs. after s (laid s vs ns cs) us) (sym (append-nil (cells t)))
    args_row (more {m = m} {us = ts} {rest = us} {t = t} {more_trees = xs} term k args) vs ns =
        term_row term vs ns ∙ passes m (comma k) (laid s vs ns (cells t)) ts ∙ chain (laid s vs ns (cells t)) ts us (cellss xs) (λ ws ms. args_row args ws ms) ∙ ap (λ r. after s r us) (sym (laid_append vs ns (cells t) (cellss xs)))

  -- a side with the tokens that are left behind it
  abbrev pub ended : Result Pair ℕ → List Lexeme → Result Row ℕ
  ended (Ok p) rest = Ok (record { variables = p.0; nodes = p.1; rest = rest })
  ended (Err p) rest = Err p

  pub record Halves (ts : List Lexeme) (x : Literal) : Type 0 where
    pub rest : List Lexeme
    pub left : (vs : List (List ℕ)) (ns : List Node) → row_of s vs ns ts ≡ ended (laid s vs ns (cells x.left)) (x.sign ∷ rest)
    pub right : (vs : List (List ℕ)) (ns : List Node) → row_of s vs ns rest ≡ ended (laid s vs ns (cells x.right)) []

  at_sign : (t : Lexeme) → Is Equal t ⊎ Is Unequal t → (r : Result Pair ℕ) (ts : List Lexeme) → after s r (t ∷ ts) ≡ ended r (t ∷ ts)
  at_sign t k (Ok p) ts = stops (t ∷ ts) k refl
    where
      stops : (us : List Lexeme) → Is Equal t ⊎ Is Unequal t → t ∷ ts ≡ us → row_of s p.0 p.1 (t ∷ ts) ≡ Ok (record { variables = p.0; nodes = p.1; rest = us })
      stops us (inl h) e = rw h (ap (λ r. Ok (record { variables = p.0; nodes = p.1; rest = r })) e)
      stops us (inr h) e = rw h (ap (λ r. Ok (record { variables = p.0; nodes = p.1; rest = r })) e)
  at_sign t k (Err p) ts = refl

  at_end : (r : Result Pair ℕ) → after s r [] ≡ ended r []
  at_end (Ok p) = refl
  at_end (Err p) = refl

  sides_halves : {ts us : List Lexeme} {x : Literal} → Sides ts x us → ((r : Result Pair ℕ) → after s r us ≡ ended r []) → Halves ts x
  sides_halves (sides {us = ms} {l = l} {r = r} {s = t} left k right) end = record {
    rest = ms;
    left = λ vs ns. term_row left vs ns ∙ at_sign t k (laid s vs ns (cells l)) ms;
    right = λ vs ns. term_row right vs ns ∙ end (laid s vs ns (cells r));
  }

  pub body_halves : {ts : List Lexeme} {x : Literal} {c d : Lexeme} → Body ts x (c ∷ (d ∷ [])) → Is Close c → Is Dot d → Halves ts x
  body_halves {c = c} {d = d} (bare body) kc kd = sides_halves body (λ r. passes c (closing kc) r (d ∷ []) ∙ passes d (dot kd) r [] ∙ at_end r)
  body_halves {c = c} {d = d} (wrapped {o = o} {c = i} {ts = ts} ko body ki) kc kd =
      let h = sides_halves body (λ r. passes i (closing ki) r (c ∷ (d ∷ [])) ∙ passes c (closing kc) r (d ∷ []) ∙ passes d (dot kd) r [] ∙ at_end r) in
      record { rest = h.rest; left = λ vs ns. passes o (opening ko) (Ok (vs, ns)) ts ∙ h.left vs ns; right = h.right }
