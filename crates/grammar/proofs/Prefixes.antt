-- Every state has tokens that finish a formula, so tokens begin a formula exactly where the machine is not stuck.
use Rattle.std.proofs.Common.{◌≡◌, ℕ, zero, suc, ◌-◌, Bool, true, false, cond, ◌⊎◌, List, [], ◌∷◌, ◌++◌, Some, None, codes, Option, sym, refl, ap, ◌∙◌, inl, inr, arith}
use Rattle.std.proofs.lemmas.Bool.{cases_Bool, cond-true, cond-false, lt-ltb}
use Rattle.lexer.specs.Tokens.{Lexeme}
use Rattle.lexer.specs.declared.token.Kind.{Kind}
use Rattle.lexer.specs.declared.token.Kind.TheVariants.{Word, Variable, Open, Close, Comma, Dot, Equal}
use Rattle.grammar.specs.Machine.{is_right, next, is_done, spot, behind}
use Rattle.grammar.specs.Fits.{Complete, Begins}
use Rattle.terms.specs.declared.side.Side.TheVariants.{Left, Right}
use Rattle.terms.specs.declared.side.Side.{Side}
use Rattle.grammar.specs.declared.machine.State.{State}
use Rattle.grammar.specs.declared.machine.State.TheVariants as state
use Rattle.grammar.proofs.Steps.{none_some, some_same, bind, goes, run, run_append, done_only}
use Rattle.grammar.proofs.Formulas.{formula_fore, formula_back}

some_nil : {A : Type 0} {t : Lexeme} {ts : List Lexeme} → Some (t ∷ ts) ≡ Some [] → A
some_nil e = let z : ◌≡◌ {A = ℕ} 0 1 = cc in absurd (omega arith)

bind_run : (ts : List Lexeme) (o : Option State) → ((p : State) → goes p ts ≡ Some [] → run p ts ≡ Some state.Done) → bind o (λ p. goes p ts) ≡ Some [] → bind o (λ p. run p ts) ≡ Some state.Done
bind_run ts None same e = none_some e
bind_run ts (Some p) same e = same p e

bind_goes : (ts : List Lexeme) (o : Option State) → ((p : State) → run p ts ≡ Some state.Done → goes p ts ≡ Some []) → bind o (λ p. run p ts) ≡ Some state.Done → bind o (λ p. goes p ts) ≡ Some []
bind_goes ts None back e = none_some e
bind_goes ts (Some p) back e = back p e

nil_run : (q : State) → (is_done q ≡ true) ⊎ (is_done q ≡ false) → goes q [] ≡ Some [] → Some q ≡ Some state.Done
nil_run q (inl d) e = ap Some (done_only q d)
nil_run q (inr d) e = none_some (sym (cond-false _ _ _ d) ∙ e)

more_run : (q : State) (t : Lexeme) (ts : List Lexeme) → ((p : State) → goes p ts ≡ Some [] → run p ts ≡ Some state.Done) → (is_done q ≡ true) ⊎ (is_done q ≡ false) → goes q (t ∷ ts) ≡ Some [] → run q (t ∷ ts) ≡ Some state.Done
more_run q t ts same (inl d) e = some_nil (sym (cond-true _ _ _ d) ∙ e)
more_run q t ts same (inr d) e = bind_run ts (next q t) same (sym (cond-false _ _ _ d) ∙ e)

pub goes_run : (q : State) (ts : List Lexeme) → goes q ts ≡ Some [] → run q ts ≡ Some state.Done
goes_run q [] e = nil_run q (cases_Bool (is_done q)) e
goes_run q (t ∷ ts) e = more_run q t ts (λ p. goes_run p ts) (cases_Bool (is_done q)) e

more_goes : (q : State) (t : Lexeme) (ts : List Lexeme) → ((p : State) → run p ts ≡ Some state.Done → goes p ts ≡ Some []) → (is_done q ≡ true) ⊎ (is_done q ≡ false) → run q (t ∷ ts) ≡ Some state.Done → goes q (t ∷ ts) ≡ Some []
more_goes q t ts back (inl d) e = none_some (sym (ap (λ p. run p (t ∷ ts)) (done_only q d)) ∙ e)
more_goes q t ts back (inr d) e = cond-false _ _ _ d ∙ bind_goes ts (next q t) back e

pub run_goes : (q : State) (ts : List Lexeme) → run q ts ≡ Some state.Done → goes q ts ≡ Some []
run_goes q [] e = ap (λ p. goes p []) (some_same e)
run_goes q (t ∷ ts) e = more_goes q t ts (λ p. run_goes p ts) (cases_Bool (is_done q)) e

-- tokens that finish a formula
abbrev ends : List Lexeme
ends = record { kind = Dot; bytes = codes "cnf"; place = 0 } ∷ []

abbrev tok : Kind → Lexeme
tok k = record { kind = k; bytes = codes "cnf"; place = 0 }

-- behind the right side
abbrev after_right : Bool → List Lexeme
after_right w = cond w (tok Close ∷ (tok Close ∷ ends)) (tok Close ∷ ends)

-- behind a whole side
abbrev after_side : Side → Bool → List Lexeme
after_side r w = cond (is_right r) (after_right w) (tok Equal ∷ (tok Variable ∷ after_right w))

abbrev closing : ℕ → Side → Bool → List Lexeme
closing zero r w = after_side r w
closing (suc d) r w = tok Close ∷ closing d r w

abbrev of_body : List Lexeme
of_body = tok Variable ∷ after_side Left false

abbrev of_role_comma : List Lexeme
of_role_comma = tok Comma ∷ of_body

abbrev of_name : List Lexeme
of_name = tok Word ∷ (tok Comma ∷ (tok Word ∷ of_role_comma))

abbrev finish : State → List Lexeme
finish state.Start = tok Word ∷ (tok Open ∷ of_name)
finish state.Opening = tok Open ∷ of_name
finish state.Name = of_name
finish state.NameComma = tok Comma ∷ (tok Word ∷ of_role_comma)
finish state.Role = tok Word ∷ of_role_comma
finish state.RoleComma = of_role_comma
finish state.Body = of_body
finish (state.Term s) = tok Variable ∷ closing s.depth s.side s.wrapped
finish (state.Named s) = closing s.depth s.side s.wrapped
finish (state.Closed s) = closing s.depth s.side s.wrapped
finish state.Unwrapped = tok Close ∷ ends
finish state.Ended = ends
finish state.Done = []

side_finishes : (r : Side) (w : Bool) → run (state.Closed (spot 0 r w)) (after_side r w) ≡ Some state.Done
side_finishes Right true = refl
side_finishes Right false = refl
side_finishes Left true = refl
side_finishes Left false = refl

closed_step : (d : ℕ) (r : Side) (w : Bool) → bind (behind (spot (suc d) r w) Close) (λ p. run p (closing d r w)) ≡ run (state.Closed (spot d r w)) (closing d r w)
closed_step d r w =
    let up : suc d - 1 ≡ d = omega arith in
    ap (λ o. bind o (λ p. run p (closing d r w))) (cond-true _ _ _ (lt-ltb 0 (suc d) (omega arith))) ∙ ap (λ k. run (state.Closed (spot k r w)) (closing d r w)) up

closing_finishes : (d : ℕ) (r : Side) (w : Bool) → run (state.Closed (spot d r w)) (closing d r w) ≡ Some state.Done
closing_finishes zero r w = side_finishes r w
closing_finishes (suc d) r w =
    closed_step d r w ∙ closing_finishes d r w

named_side : (r : Side) (w : Bool) → run (state.Named (spot 0 r w)) (after_side r w) ≡ Some state.Done
named_side Right true = refl
named_side Right false = refl
named_side Left true = refl
named_side Left false = refl

named_finishes : (d : ℕ) (r : Side) (w : Bool) → run (state.Named (spot d r w)) (closing d r w) ≡ Some state.Done
named_finishes zero r w = named_side r w
named_finishes (suc d) r w =
    closed_step d r w ∙ closing_finishes d r w

finishes : (q : State) → run q (finish q) ≡ Some state.Done
finishes state.Start = refl
finishes state.Opening = refl
finishes state.Name = refl
finishes state.NameComma = refl
finishes state.Role = refl
finishes state.RoleComma = refl
finishes state.Body = refl
finishes (state.Term s) = closing_finishes s.depth s.side s.wrapped
finishes (state.Named s) = named_finishes s.depth s.side s.wrapped
finishes (state.Closed s) = closing_finishes s.depth s.side s.wrapped
finishes state.Unwrapped = refl
finishes state.Ended = refl
finishes state.Done = refl

pub complete_run : (ts : List Lexeme) → Complete ts → run state.Start ts ≡ Some state.Done
complete_run ts c = goes_run state.Start ts (formula_fore c.1)

pub run_complete : (ts : List Lexeme) → run state.Start ts ≡ Some state.Done → Complete ts
run_complete ts e = let b = formula_back ts [] (run_goes state.Start ts e) in (b.parsed, b.is)

pub run_begins : (ts : List Lexeme) (q : State) → run state.Start ts ≡ Some q → Begins ts
run_begins ts q e = (finish q, run_complete (ts ++ finish q) (run_append state.Start ts (finish q) ∙ ap (λ o. bind o (λ p. run p (finish q))) e ∙ finishes q))

pub begins_run : (ts : List Lexeme) → Begins ts → run state.Start ts ≡ None → ⊥
begins_run ts b e = none_some (sym (run_append state.Start ts b.0 ∙ ap (λ o. bind o (λ p. run p b.0)) e) ∙ complete_run (ts ++ b.0) b.1)
