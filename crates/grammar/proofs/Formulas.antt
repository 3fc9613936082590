-- The machine goes from its start to the end of a formula exactly where the grammar has one.
use Rattle.std.proofs.Common.{◌≡◌, Bool, true, false, ◌&&◌, ◌||◌, ◌⊎◌, List, [], ◌∷◌, Some, codes, sym, refl, ap, ◌∙◌, subst, inl, inr}
use Rattle.std.proofs.lemmas.Bool.{cases_Bool, cond-true, cond-false, or_cases, and_parts}
use Rattle.lexer.specs.Tokens.{Lexeme}
use Rattle.lexer.specs.declared.token.Kind.{Kind}
use Rattle.lexer.specs.declared.token.Kind.TheVariants.{Word, Open, Close, Comma, Dot, Equal, Unequal}
use Rattle.grammar.specs.Kinds.{same_kind, same_bytes}
use Rattle.grammar.specs.Machine.{expect, spot, next, term_start, is_done}
use Rattle.grammar.specs.Syntax.{Literal, Sides, sides, Body, bare, wrapped, Parsed, Formula, formula, Is}
use Rattle.terms.specs.declared.side.Side.TheVariants.{Left, Right}
use Rattle.grammar.specs.declared.machine.State.{State}
use Rattle.grammar.specs.declared.machine.State.TheVariants as state
use Rattle.std.proofs.lemmas.Slice.Eq.{bytes_eq-Decides}
use Rattle.grammar.proofs.Same.{same_kind_true}
use Rattle.grammar.proofs.Steps.{none_some, some_same, bind, goes, expected, kind_met}
use Rattle.grammar.proofs.Terms.{term_fore, term_back}

sign_step : (w : Bool) (s : Lexeme) (us rest : List Lexeme) → Is Equal s ⊎ Is Unequal s → goes (state.Term (spot 0 Right w)) us ≡ Some rest → goes (state.Closed (spot 0 Left w)) (s ∷ us) ≡ Some rest
sign_step w s us rest (inl k) e = rw k e
sign_step w s us rest (inr k) e = rw k e

sides_fore : {ts us : List Lexeme} {x : Literal} → Sides ts x us → (w : Bool) (rest : List Lexeme) → goes (state.Closed (spot 0 Right w)) us ≡ Some rest → goes (state.Term (spot 0 Left w)) ts ≡ Some rest
sides_fore (sides {us = us} {s = s} l k r) w rest e = term_fore l (spot 0 Left w) rest (sign_step w s us rest k (term_fore r (spot 0 Right w) rest e))

-- no term begins with a parenthesis
bare_start : (ts rest : List Lexeme) → goes (state.Term (spot 0 Left false)) ts ≡ Some rest → goes state.Body ts ≡ Some rest
bare_start [] rest e = none_some e
bare_start (t ∷ ts) rest e = by (cases_Bool (same_kind t.kind Open))
  where
    by : (same_kind t.kind Open ≡ true) ⊎ (same_kind t.kind Open ≡ false) → goes state.Body (t ∷ ts) ≡ Some rest
    by (inl is) = none_some (sym (ap (λ k. bind (term_start (spot 0 Left false) k) (λ p. goes p ts)) (same_kind_true t.kind Open is)) ∙ e)
    by (inr other) = ap (λ o. bind o (λ p. goes p ts)) (cond-false _ _ _ other) ∙ e

body_fore : {ts : List Lexeme} {c : Lexeme} {us : List Lexeme} {x : Literal} → Body ts x (c ∷ us) → (rest : List Lexeme) → Is Close c → goes state.Ended us ≡ Some rest → goes state.Body ts ≡ Some rest
body_fore {ts} {c} {us} (bare b) rest k e = bare_start ts rest (sides_fore b false rest (rw k e))
body_fore (wrapped ko b kc) rest k e = rw ko (sides_fore b true rest (rw (kc, k) e))

goes_done : (ts : List Lexeme) → goes state.Done ts ≡ Some ts
goes_done [] = refl
goes_done (t ∷ ts) = refl

pub formula_fore : {ts rest : List Lexeme} {p : Parsed} → Formula ts p rest → goes state.Start ts ≡ Some rest
formula_fore {rest = rest} (formula {w = w} {d = d} kw cnf ko kn km kr kk b kc kd) =
    rw (kw, (bytes_eq-Decides w.bytes (codes "cnf")).1 cnf, ko, kn, km, kr, kk) (body_fore b rest kc (rw kd (goes_done rest)))

record SidesBack (w : Bool) (ts rest : List Lexeme) : Type 0 where
  body : Literal
  left : List Lexeme
  is : Sides ts body left
  on : goes (state.Closed (spot 0 Right w)) left ≡ Some rest

record SignBack (w : Bool) (ts rest : List Lexeme) : Type 0 where
  sign : Lexeme
  left : List Lexeme
  is : ts ≡ sign ∷ left
  kind : Is Equal sign ⊎ Is Unequal sign
  on : goes (state.Term (spot 0 Right w)) left ≡ Some rest

sign_back : (w : Bool) (ts rest : List Lexeme) → goes (state.Closed (spot 0 Left w)) ts ≡ Some rest → SignBack w ts rest
sign_back w [] rest e = none_some e
sign_back w (t ∷ ts) rest e =
    let m = expected (same_kind t.kind Equal || same_kind t.kind Unequal) (state.Term (spot 0 Right w)) (λ p. goes p ts) rest e in
    record { sign = t; left = ts; is = refl; kind = which (or_cases _ _ m.0); on = m.1 }
  where
    which : (same_kind t.kind Equal ≡ true) ⊎ (same_kind t.kind Unequal ≡ true) → Is Equal t ⊎ Is Unequal t
    which (inl h) = inl (same_kind_true t.kind Equal h)
    which (inr h) = inr (same_kind_true t.kind Unequal h)

sides_back : (w : Bool) (ts rest : List Lexeme) → goes (state.Term (spot 0 Left w)) ts ≡ Some rest → SidesBack w ts rest
sides_back w ts rest e =
    let l = term_back (spot 0 Left w) ts rest e in
    let s = sign_back w l.left rest l.on in
    let r = term_back (spot 0 Right w) s.left rest s.on in
    record { body = record { left = l.tree; sign = s.sign; right = r.tree }; left = r.left; is = sides (rw s.is at l.term) s.kind r.term; on = r.on }

-- one token of a kind, and what goes on behind it
data Head (k : Kind) (q : State) : List Lexeme → List Lexeme → Type 0 where
  head : {t : Lexeme} {ts rest : List Lexeme} → Is k t → goes q ts ≡ Some rest → Head k q (t ∷ ts) rest

met : (q p : State) (k : Kind) → is_done q ≡ false → ((t : Lexeme) → next q t ≡ expect (same_kind t.kind k) p) → (ts rest : List Lexeme) → goes q ts ≡ Some rest → Head k p ts rest
met q p k going step [] rest e = none_some (sym (cond-false _ _ _ going) ∙ e)
met q p k going step (t ∷ ts) rest e =
    let m = kind_met t k p (λ r. goes r ts) rest (sym (cond-false _ _ _ going ∙ ap (λ o. bind o (λ r. goes r ts)) (step t)) ∙ e) in
    head m.0 m.1

-- the body, the closing parenthesis and the dot
data Ending : List Lexeme → List Lexeme → Type 0 where
  ending : {ts rest : List Lexeme} {c d : Lexeme} (x : Literal) → Body ts x (c ∷ (d ∷ rest)) → Is Close c → Is Dot d → Ending ts rest

dot_back : {ts us rest : List Lexeme} {c : Lexeme} {x : Literal} → Body ts x (c ∷ us) → Is Close c → Head Dot state.Done us rest → Ending ts rest
dot_back {ts} {c = c} {x = x} b kc (head {t = t} {ts = left} kd e) = ending x (subst (λ (vs : List Lexeme). Body ts x (c ∷ (t ∷ vs))) (some_same (sym (goes_done left) ∙ e)) b) kc kd

close_back : {ts us rest : List Lexeme} {x : Literal} → Body ts x us → Head Close state.Ended us rest → Ending ts rest
close_back b (head {ts = left} kc e) = dot_back b kc (met state.Ended state.Done Dot refl (λ t. refl) left _ e)

bare_back : {ts rest : List Lexeme} → SidesBack false ts rest → Ending ts rest
bare_back {rest = rest} b = close_back (bare b.is) (met (state.Closed (spot 0 Right false)) state.Ended Close refl (λ t. refl) b.left rest b.on)

unwrap_back : {o : Lexeme} {ts us rest : List Lexeme} {x : Literal} → Is Open o → Sides ts x us → Head Close state.Unwrapped us rest → Ending (o ∷ ts) rest
unwrap_back k b (head {ts = left} kc e) = close_back (wrapped k b kc) (met state.Unwrapped state.Ended Close refl (λ t. refl) left _ e)

wrapped_back : {o : Lexeme} {ts rest : List Lexeme} → Is Open o → SidesBack true ts rest → Ending (o ∷ ts) rest
wrapped_back {rest = rest} k b = unwrap_back k b.is (met (state.Closed (spot 0 Right true)) state.Unwrapped Close refl (λ t. refl) b.left rest b.on)

body_back : (ts rest : List Lexeme) → goes state.Body ts ≡ Some rest → Ending ts rest
body_back [] rest e = none_some e
body_back (t ∷ ts) rest e = by (cases_Bool (same_kind t.kind Open))
  where
    by : (same_kind t.kind Open ≡ true) ⊎ (same_kind t.kind Open ≡ false) → Ending (t ∷ ts) rest
    by (inl is) = wrapped_back (same_kind_true t.kind Open is) (sides_back true ts rest (sym (ap (λ o. bind o (λ p. goes p ts)) (cond-true _ _ _ is)) ∙ e))
    by (inr other) = bare_back (sides_back false (t ∷ ts) rest (sym (ap (λ o. bind o (λ p. goes p ts)) (cond-false _ _ _ other)) ∙ e))

pub record FormulaBack (ts rest : List Lexeme) : Type 0 where
  pub parsed : Parsed
  pub is : Formula ts parsed rest

module _ {w : Lexeme} (kw : Is Word w) (cnf : w.bytes ≡ codes "cnf") where
  with_ending : {o n m r k : Lexeme} {ts rest : List Lexeme} → Is Open o → Is Word n → Is Comma m → Is Word r → Is Comma k → Ending ts rest → FormulaBack (w ∷ (o ∷ (n ∷ (m ∷ (r ∷ (k ∷ ts)))))) rest
  with_ending {n = n} {r = r} ko kn km kr kk (ending x b kc kd) = record { parsed = record { name = n; role = r; body = x }; is = formula kw cnf ko kn km kr kk b kc kd }

  with_comma : {o n m r : Lexeme} {ts rest : List Lexeme} → Is Open o → Is Word n → Is Comma m → Is Word r → Head Comma state.Body ts rest → FormulaBack (w ∷ (o ∷ (n ∷ (m ∷ (r ∷ ts))))) rest
  with_comma ko kn km kr (head {ts = left} kk e) = with_ending ko kn km kr kk (body_back left _ e)

  with_role : {o n m : Lexeme} {ts rest : List Lexeme} → Is Open o → Is Word n → Is Comma m → Head Word state.RoleComma ts rest → FormulaBack (w ∷ (o ∷ (n ∷ (m ∷ ts)))) rest
  with_role ko kn km (head {ts = left} kr e) = with_comma ko kn km kr (met state.RoleComma state.Body Comma refl (λ t. refl) left _ e)

  with_name_comma : {o n : Lexeme} {ts rest : List Lexeme} → Is Open o → Is Word n → Head Comma state.Role ts rest → FormulaBack (w ∷ (o ∷ (n ∷ ts))) rest
  with_name_comma ko kn (head {ts = left} km e) = with_role ko kn km (met state.Role state.RoleComma Word refl (λ t. refl) left _ e)

  with_name : {o : Lexeme} {ts rest : List Lexeme} → Is Open o → Head Word state.NameComma ts rest → FormulaBack (w ∷ (o ∷ ts)) rest
  with_name ko (head {ts = left} kn e) = with_name_comma ko kn (met state.NameComma state.Role Comma refl (λ t. refl) left _ e)

  with_opening : {ts rest : List Lexeme} → Head Open state.Name ts rest → FormulaBack (w ∷ ts) rest
  with_opening (head {ts = left} ko e) = with_name ko (met state.Name state.NameComma Word refl (λ t. refl) left _ e)

pub formula_back : (ts rest : List Lexeme) → goes state.Start ts ≡ Some rest → FormulaBack ts rest
formula_back [] rest e = none_some e
formula_back (w ∷ ts) rest e =
    let c = expected (same_kind w.kind Word && same_bytes w.bytes (codes "cnf")) state.Opening (λ p. goes p ts) rest e in
    let both = and_parts (same_kind w.kind Word) (same_bytes w.bytes (codes "cnf")) c.0 in
    with_opening (same_kind_true w.kind Word both.0) ((bytes_eq-Decides w.bytes (codes "cnf")).0 both.1) (met state.Opening state.Name Open refl (λ t. refl) ts rest c.1)
