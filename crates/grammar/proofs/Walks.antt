-- What the machine's walk says of the grammar.
use Rattle.std.proofs.Common.{◌≡◌, ℕ, ◌+◌, ◌-◌, ◌≤◌, Bool, true, false, cond, ltb, ◌⊎◌, List, [], ◌∷◌, ◌++◌, IfSome, Some, None, Ok, Err, Option, Result, sym, refl, ap, ◌∙◌, subst, inl, inr, append_assoc, append-nil, arith}
use mathlib.Core.Bool.{false≢true}
use Rattle.std.proofs.lemmas.Bool.{cases_Bool, cond-true, cond-false, cond_both}
use Rattle.lexer.specs.Tokens.{Lexeme}
use Rattle.lexer.specs.Next.{end_of}
use Rattle.lexer.specs.declared.token.Kind.{Kind}
use Rattle.lexer.specs.declared.token.Kind.TheVariants.{Word, Variable, Open, Close, Comma}
use Rattle.grammar.specs.Kinds.{same_kind}
use Rattle.grammar.specs.Machine.{is_right, next, is_done, depth_of, walk, expect, term_start, inside, outside, behind, spot}
use Rattle.grammar.specs.Fits.{Complete, Begins, Misfit, at_token, at_end}
use Rattle.grammar.specs.Outcomes.{end_behind, NoFormula}
use Rattle.terms.specs.declared.side.Side.TheVariants.{Left, Right}
use Rattle.grammar.specs.declared.machine.Spot.{Spot}
use Rattle.grammar.specs.declared.machine.State.{State}
use Rattle.grammar.specs.declared.machine.State.TheVariants as state
use Rattle.grammar.proofs.Steps.{none_some, some_same, bind, run, run_append, done_only}
use Rattle.grammar.proofs.Prefixes.{complete_run, run_complete, run_begins, begins_run}

-- a token opens at most one parenthesis
abbrev AtMost : ℕ → Option State → Type 0
AtMost m o = IfSome o (λ p. depth_of p ≤ m)

expect_most : (m : ℕ) (b : Bool) (p : State) → depth_of p ≤ m → AtMost m (expect b p)
expect_most m b p h = cond_both b _ _ (AtMost m) (λ _. h) (λ _. tt)

some_most : (m : ℕ) (b : Bool) (p : State) (o : Option State) → depth_of p ≤ m → AtMost m o → AtMost m (cond b (Some p) o)
some_most m b p o h g = cond_both b (Some p) o (AtMost m) (λ _. h) (λ _. g)

start_most : (s : Spot) (k : Kind) → AtMost (s.depth + 1) (term_start s k)
start_most s k =
    let h : s.depth ≤ s.depth + 1 = omega arith in
    some_most (s.depth + 1) (same_kind k Variable) (state.Closed s) _ h (expect_most (s.depth + 1) (same_kind k Word) (state.Named s) h)

behind_most : (s : Spot) (k : Kind) → AtMost (s.depth + 1) (behind s k)
behind_most s k =
    let m = s.depth + 1 in
    let same : s.depth ≤ m = omega arith in
    let less : s.depth - 1 ≤ m = omega arith in
    let none : 0 ≤ m = omega arith in
    cond_both (ltb 0 s.depth) (inside s k) (outside s k) (AtMost m)
    (λ _. some_most m (same_kind k Comma) (state.Term s) _ same (expect_most m (same_kind k Close) (state.Closed (spot (s.depth - 1) s.side s.wrapped)) less))
    (λ _. cond_both (is_right s.side) _ _ (AtMost m) (λ _. expect_most m (same_kind k Close) _ (cond_both s.wrapped state.Unwrapped state.Ended (λ p. depth_of p ≤ m) (λ _. none) (λ _. none))) (λ _. expect_most m _ (state.Term (spot 0 Right s.wrapped)) none))

next_most : (q : State) (t : Lexeme) → AtMost (depth_of q + 1) (next q t)
next_most state.Start t = expect_most 1 _ state.Opening (omega arith)
next_most state.Opening t = expect_most 1 _ state.Name (omega arith)
next_most state.Name t = expect_most 1 _ state.NameComma (omega arith)
next_most state.NameComma t = expect_most 1 _ state.Role (omega arith)
next_most state.Role t = expect_most 1 _ state.RoleComma (omega arith)
next_most state.RoleComma t = expect_most 1 _ state.Body (omega arith)
next_most state.Body t = some_most 1 (same_kind t.kind Open) (state.Term (spot 0 Left true)) _ (omega arith) (start_most (spot 0 Left false) t.kind)
next_most (state.Term s) t = start_most s t.kind
next_most (state.Named s) t =
    let m = s.depth + 1 in
    let h : m ≤ m = omega arith in
    some_most m (same_kind t.kind Open) (state.Term (spot m s.side s.wrapped)) _ h (behind_most s t.kind)
next_most (state.Closed s) t = behind_most s t.kind
next_most state.Unwrapped t = expect_most 1 _ state.Ended (omega arith)
next_most state.Ended t = expect_most 1 _ state.Done (omega arith)
next_most state.Done t = tt

pub next_depth : (q p : State) (t : Lexeme) → next q t ≡ Some p → depth_of p ≤ depth_of q + 1
next_depth q p t e = let P : Option State → Type 0 = AtMost (depth_of q + 1) in subst P e (next_most q t)

-- one token of the walk
pub walk_more : (q p : State) (e : ℕ) (t : Lexeme) (all ts : List Lexeme) (len : ℕ) → is_done q ≡ false → next q t ≡ Some p → all ≡ t ∷ ts → walk q e all len ≡ walk p (end_of t) ts len
walk_more q p e t all ts len going step is =
    ap (λ us. walk q e us len) is ∙ cond-false _ _ _ going ∙ ap (λ (o : Option State). elim o [ None ↦ Err t.place | Some r ↦ walk r (end_of t) ts len ]) step

pub walk_done : (q : State) (e : ℕ) (ts : List Lexeme) (len : ℕ) → is_done q ≡ true → walk q e ts len ≡ Ok (e, ts)
walk_done q e [] len d = cond-true _ _ _ d
walk_done q e (t ∷ ts) len d = cond-true _ _ _ d

-- the tokens up to the dot, if the walk finds one
pub record Front (q : State) (e : ℕ) (ts : List Lexeme) (end : ℕ) (rest : List Lexeme) : Type 0 where
  pub front : List Lexeme
  pub is : ts ≡ front ++ rest
  pub runs : run q front ≡ Some state.Done
  pub ends : end ≡ end_behind e front

ok_same : {x y : ℕ × List Lexeme} → ◌≡◌ {A = Result (ℕ × List Lexeme) ℕ} (Ok x) (Ok y) → x ≡ y
ok_same e = cc

err_same : {x y : ℕ} → ◌≡◌ {A = Result (ℕ × List Lexeme) ℕ} (Err x) (Err y) → x ≡ y
err_same e = cc

ok_err : {A : Type 0} {x : ℕ × List Lexeme} {y : ℕ} → ◌≡◌ {A = Result (ℕ × List Lexeme) ℕ} (Ok x) (Err y) → A
ok_err e = let z : ◌≡◌ {A = ℕ} 0 1 = cc in absurd (omega arith)

done_front : (q : State) (e : ℕ) (ts : List Lexeme) (end : ℕ) (rest : List Lexeme) → is_done q ≡ true → ◌≡◌ {A = Result (ℕ × List Lexeme) ℕ} (Ok (e, ts)) (Ok (end, rest)) → Front q e ts end rest
done_front q e ts end rest d is = record { front = []; is = ap (λ p. p.1) (ok_same is); runs = ap Some (done_only q d); ends = sym (ap (λ p. p.0) (ok_same is)) }

module _ (q : State) (e : ℕ) (t : Lexeme) (ts : List Lexeme) (len end : ℕ) (rest : List Lexeme) where
  step_front : (o : Option State) → next q t ≡ o → ((p : State) → walk p (end_of t) ts len ≡ Ok (end, rest) → Front p (end_of t) ts end rest) → ◌≡◌ {A = Result (ℕ × List Lexeme) ℕ} (elim o [ None ↦ Err t.place | Some p ↦ walk p (end_of t) ts len ]) (Ok (end, rest)) → Front q e (t ∷ ts) end rest
  step_front None is ih h = ok_err (sym h)
  step_front (Some p) is ih h =
      let f = ih p h in
      record { front = t ∷ f.front; is = ap (λ us. t ∷ us) f.is; runs = ap (λ o. bind o (λ r. run r f.front)) is ∙ f.runs; ends = f.ends }

  more_front : (is_done q ≡ true) ⊎ (is_done q ≡ false) → ((p : State) → walk p (end_of t) ts len ≡ Ok (end, rest) → Front p (end_of t) ts end rest) → walk q e (t ∷ ts) len ≡ Ok (end, rest) → Front q e (t ∷ ts) end rest
  more_front (inl d) ih h = done_front q e (t ∷ ts) end rest d (sym (cond-true _ _ _ d) ∙ h)
  more_front (inr d) ih h = step_front (next q t) refl ih (sym (cond-false _ _ _ d) ∙ h)

nil_front : (q : State) (e len end : ℕ) (rest : List Lexeme) → (is_done q ≡ true) ⊎ (is_done q ≡ false) → walk q e [] len ≡ Ok (end, rest) → Front q e [] end rest
nil_front q e len end rest (inl d) h = done_front q e [] end rest d (sym (cond-true _ _ _ d) ∙ h)
nil_front q e len end rest (inr d) h = ok_err (sym (sym (cond-false _ _ _ d) ∙ h))

pub walk_front : (q : State) (e : ℕ) (ts : List Lexeme) (len end : ℕ) (rest : List Lexeme) → walk q e ts len ≡ Ok (end, rest) → Front q e ts end rest
walk_front q e [] len end rest h = nil_front q e len end rest (cases_Bool (is_done q)) h
walk_front q e (t ∷ ts) len end rest h = more_front q e t ts len end rest (cases_Bool (is_done q)) (λ p. walk_front p (end_of t) ts len end rest) h

-- a walk that fails, behind tokens that the machine has run over
stuck_behind : (before : List Lexeme) (q : State) (t : Lexeme) → run state.Start before ≡ Some q → next q t ≡ None → Begins (before ++ t ∷ []) → ⊥
stuck_behind before q t r n b = begins_run (before ++ t ∷ []) b (run_append state.Start before (t ∷ []) ∙ ap (λ o. bind o (λ p. run p (t ∷ []))) r ∙ ap (λ o. bind o (λ p. run p [])) n)

short : (before : List Lexeme) (q : State) (len : ℕ) → run state.Start before ≡ Some q → is_done q ≡ false → Misfit before len len
short before q len r d = at_end (run_begins before q r) (λ c. false≢true (sym d ∙ ap is_done (some_same (sym r ∙ complete_run before c))))

module _ (before : List Lexeme) (q : State) (r : run state.Start before ≡ Some q) (t : Lexeme) (ts : List Lexeme) (len p : ℕ) where
  step_misfit : (o : Option State) → next q t ≡ o → ((s : State) → next q t ≡ Some s → walk s (end_of t) ts len ≡ Err p → Misfit (before ++ t ∷ ts) len p) → ◌≡◌ {A = Result (ℕ × List Lexeme) ℕ} (elim o [ None ↦ Err t.place | Some s ↦ walk s (end_of t) ts len ]) (Err p) → Misfit (before ++ t ∷ ts) len p
  step_misfit None is ih h = let P : ℕ → Type 0 = Misfit (before ++ t ∷ ts) len in subst P (err_same h) (at_token t before ts refl (run_begins before q r) (stuck_behind before q t r is))
  step_misfit (Some s) is ih h = ih s is h

  more_misfit : (e : ℕ) → (is_done q ≡ true) ⊎ (is_done q ≡ false) → ((s : State) → next q t ≡ Some s → walk s (end_of t) ts len ≡ Err p → Misfit (before ++ t ∷ ts) len p) → walk q e (t ∷ ts) len ≡ Err p → Misfit (before ++ t ∷ ts) len p
  more_misfit e (inl d) ih h = ok_err (sym (cond-true _ _ _ d) ∙ h)
  more_misfit e (inr d) ih h = step_misfit (next q t) refl ih (sym (cond-false _ _ _ d) ∙ h)

nil_misfit : (before : List Lexeme) (q : State) (e len p : ℕ) → run state.Start before ≡ Some q → (is_done q ≡ true) ⊎ (is_done q ≡ false) → walk q e [] len ≡ Err p → Misfit (before ++ []) len p
nil_misfit before q e len p r (inl d) h = ok_err (sym (cond-true _ _ _ d) ∙ h)
nil_misfit before q e len p r (inr d) h =
    let P : List Lexeme → Type 0 = λ us. Misfit us len p in
    let Q : ℕ → Type 0 = Misfit before len in
    subst P (sym (append-nil before)) (subst Q (err_same (sym (cond-false _ _ _ d) ∙ h)) (short before q len r d))

misfit_from : (before : List Lexeme) (q : State) (e : ℕ) (ts : List Lexeme) (len p : ℕ) → run state.Start before ≡ Some q → walk q e ts len ≡ Err p → Misfit (before ++ ts) len p
misfit_from before q e [] len p r h = nil_misfit before q e len p r (cases_Bool (is_done q)) h
misfit_from before q e (t ∷ ts) len p r h =
    more_misfit before q r t ts len p e (cases_Bool (is_done q))
    (λ s step w. let P : List Lexeme → Type 0 = λ us. Misfit us len p in subst P (append_assoc before (t ∷ []) ts) (misfit_from (before ++ t ∷ []) s (end_of t) ts len p (run_append state.Start before (t ∷ []) ∙ ap (λ o. bind o (λ s. run s (t ∷ []))) r ∙ ap (λ o. bind o (λ s. run s [])) step) w)) h

pub walk_misfit : (e : ℕ) (ts : List Lexeme) (len p : ℕ) → walk state.Start e ts len ≡ Err p → Misfit ts len p
walk_misfit e ts len p h = misfit_from [] state.Start e ts len p refl h

-- a token behind a whole formula
pub trailing : (e : ℕ) (ts : List Lexeme) (len end : ℕ) (t : Lexeme) (rest : List Lexeme) → walk state.Start e ts len ≡ Ok (end, t ∷ rest) → Misfit ts len t.place
trailing e ts len end t rest h =
    let f = walk_front state.Start e ts len end (t ∷ rest) h in
    at_token t f.front rest f.is (run_begins f.front state.Done f.runs) (stuck_behind f.front state.Done t f.runs refl)

-- nothing behind it
pub whole : (e : ℕ) (ts : List Lexeme) (len end : ℕ) → walk state.Start e ts len ≡ Ok (end, []) → Complete ts
whole e ts len end h =
    let f = walk_front state.Start e ts len end [] h in
    let all : ts ≡ f.front = f.is ∙ append-nil f.front in
    run_complete ts (ap (run state.Start) all ∙ f.runs)

pub front_complete : (e : ℕ) (ts : List Lexeme) (end : ℕ) (rest : List Lexeme) (f : Front state.Start e ts end rest) → Complete f.front
front_complete e ts end rest f = run_complete f.front f.runs

-- tokens that begin with a whole formula do not make the walk fail
past_step : (q : State) (t : Lexeme) (ts : List Lexeme) (o : Option State) → next q t ≡ o → bind o (λ p. run p ts) ≡ Some state.Done → is_done q ≡ false
past_step q t ts None e h = none_some h
past_step q t ts (Some p) e h = by (cases_Bool (is_done q))
  where
    by : (is_done q ≡ true) ⊎ (is_done q ≡ false) → is_done q ≡ false
    by (inl d) = none_some (sym (ap (λ r. next r t) (done_only q d)) ∙ e)
    by (inr d) = d

walk_past : (q : State) (e : ℕ) (front rest : List Lexeme) (len : ℕ) → run q front ≡ Some state.Done → (end : ℕ) × (walk q e (front ++ rest) len ≡ Ok (end, rest))
walk_past q e [] rest len h = (e, walk_done q e rest len (ap is_done (some_same h)))
walk_past q e (t ∷ front) rest len h = by (next q t) refl (λ p k. walk_past p (end_of t) front rest len k)
  where
    by : (o : Option State) → next q t ≡ o → ((p : State) → run p front ≡ Some state.Done → (end : ℕ) × (walk p (end_of t) (front ++ rest) len ≡ Ok (end, rest))) → (end : ℕ) × (walk q e (t ∷ (front ++ rest)) len ≡ Ok (end, rest))
    by None is ih = none_some (sym (ap (λ o. bind o (λ p. run p front)) is) ∙ h)
    by (Some p) is ih =
        let r = ih p (sym (ap (λ o. bind o (λ s. run s front)) is) ∙ h) in
        (r.0, walk_more q p e t (t ∷ (front ++ rest)) (front ++ rest) len (past_step q t front (next q t) refl h) is refl ∙ r.1)

pub none_whole : (e : ℕ) (ts : List Lexeme) (len p : ℕ) → walk state.Start e ts len ≡ Err p → NoFormula ts
none_whole e ts len p h front rest is c =
    let w = walk_past state.Start e front rest len (complete_run front c) in
    ok_err (sym w.1 ∙ ap (λ us. walk state.Start e us len) (sym is) ∙ h)
