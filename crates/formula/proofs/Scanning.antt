-- Counting arguments over the tokens of a formula finds the misused symbols of its sides.
use Rattle.std.proofs.Common.{◌≡◌, ℕ, ◌+◌, ◌≤◌, Bool, true, false, cond, not, eqb, ltb, ◌⊎◌, List, [], ◌∷◌, ◌++◌, Some, None, Option, unwrap_or, sym, refl, ap, ◌∙◌, ap₂, inl, inr, append-nil, arith}
use Rattle.std.proofs.lemmas.Bool.{cond_both}
use Rattle.std.proofs.lemmas.Bool.Decides.{nat_tests}
use Rattle.terms.specs.declared.pattern.Node.{Node}
use Rattle.terms.specs.declared.pattern.Node.TheVariants.{Var, App}
use Rattle.signature.specs.Signatures.{sig_of}
use Rattle.signature.specs.declared.signature.Signature.{Signature}
use Rattle.signature.proofs.Symbols.{arity_within}
use Rattle.lexer.specs.Tokens.{Lexeme}
use Rattle.lexer.specs.declared.token.Kind.TheVariants.{Close, Dot, Equal, Unequal}
use Rattle.grammar.specs.Syntax.{Tree, Trees, Term, Args, variable, constant, applied, last, more, Literal, Sides, sides, Body, bare, wrapped, Is}
use Rattle.formula.specs.Symbols.{symbol_of, number_in}
use Rattle.formula.specs.Scans.{arity_in, arity_for, wanted, as_many, note, bumped, opens, scan}
use Rattle.formula.specs.Uses.{Use, uses, usess, count, misused}
use Rattle.formula.specs.Outcomes.{all_uses}
use Rattle.formula.specs.declared.frame.Frame.{Frame}
use Rattle.formula.proofs.Lowest.{misuse, misuse_note, misuse_append}

-- the count of arguments, which stops at five
abbrev capped : ℕ → ℕ
capped n = cond (ltb n 5) n 5

bump_capped : (n : ℕ) → bumped (capped n) ≡ capped (n + 1)
bump_capped n = grind (arith, nat_tests)

-- a count that has stopped is as wrong as the number that it stands for
abbrev wrong : Option Node → ℕ → Bool
wrong o n = elim o [ None ↦ true | Some m ↦ elim m [ Var x ↦ true | App f a ↦ not (eqb a n) ] ]

abbrev Few : Option Node → Type 0
Few None = Unit {0}
Few (Some (Var x)) = Unit {0}
Few (Some (App f a)) = a ≤ 4

test_right : (o : Option Node) (n : ℕ) → Few o → as_many (capped n) (arity_in o) ≡ not (wrong o n)
test_right None n h = grind (arith, nat_tests)
test_right (Some (Var x)) n h = grind (arith, nat_tests)
test_right (Some (App f a)) n h = grind (arith, nat_tests)

-- where one argument or more are counted, 0 is as wrong as no arity
test_opened : (o : Option Node) (n : ℕ) → Few o → eqb (capped (n + 1)) (unwrap_or (arity_in o) 0) ≡ not (wrong o (n + 1))
test_opened None n h = grind (arith, nat_tests)
test_opened (Some (Var x)) n h = grind (arith, nat_tests)
test_opened (Some (App f a)) n h = grind (arith, nat_tests)

few : (s : Signature) (w : List ℕ) → Few (symbol_of s w)
few s w = cond_both (ltb (number_in s w) (sig_of s).symbols) _ _ Few (λ _. arity_within s (number_in s w)) (λ _. tt)

module _ (s : Signature) where
  abbrev use_of : Lexeme → ℕ → Use
  use_of w n = record { word = w; args = n }

  right : (w : Lexeme) (n : ℕ) → as_many (capped n) (arity_for s w.bytes) ≡ not (misused s (use_of w n))
  right w n = test_right (symbol_of s w.bytes) n (few s w.bytes)

  right_opened : (w : Lexeme) (n : ℕ) → eqb (capped (n + 1)) (wanted s w.bytes) ≡ not (misused s (use_of w (n + 1)))
  right_opened w n = test_opened (symbol_of s w.bytes) n (few s w.bytes)

  abbrev frame : Lexeme → ℕ → Frame
  frame w n = record { place = w.place; arity = wanted s w.bytes; args = capped n }

  mutual
    term_scan : {ts us : List Lexeme} {x : Tree} → Term ts x us → opens us ≡ false → (fs : List Frame) (b : Option ℕ) → scan s fs b ts ≡ scan s fs (misuse s (uses x) b) us
    term_scan (variable k) o fs b = rw k refl
    term_scan (constant {w = w} {rest = us} k) o fs b = rw (k, o) (ap (λ t. scan s fs (note t b w.place) us) (right w 0))
    term_scan (applied {w = w} {o = p} {rest = us} {us = xs} kw ko args) o fs b =
        let none : 0 + count xs ≡ count xs = omega arith in
        rw (kw, ko) (args_scan args w 0 fs b ∙ ap (λ n. scan s fs (note (not (misused s (use_of w n))) (misuse s (usess xs) b) w.place) us) none ∙ ap (λ c. scan s fs c us) (sym (misuse_note s (usess xs) (not (misused s (use_of w (count xs)))) b w.place)))

    -- with n arguments before these
    args_scan : {ts us : List Lexeme} {xs : Trees} → Args ts xs us → (w : Lexeme) (n : ℕ) (fs : List Frame) (b : Option ℕ) → scan s (frame w (n + 1) ∷ fs) b ts ≡ scan s fs (note (not (misused s (use_of w (n + count xs)))) (misuse s (usess xs) b) w.place) us
    args_scan (last {c = c} {rest = us} {t = t} term k) w n fs b =
        let all : uses t ++ [] ≡ uses t = append-nil (uses t) in
        term_scan term (rw k refl) (frame w (n + 1) ∷ fs) b ∙ rw (k, all) (ap (λ r. scan s fs (note r (misuse s (uses t) b) w.place) us) (right_opened w n))
    args_scan (more {m = m} {us = vs} {rest = us} {t = t} {more_trees = xs} term k args) w n fs b =
        let up : n + 1 + count xs ≡ n + (1 + count xs) = omega arith in
        term_scan term (rw k refl) (frame w (n + 1) ∷ fs) b ∙ rw k (ap (λ c. scan s (record { place = w.place; arity = wanted s w.bytes; args = c } ∷ fs) (misuse s (uses t) b) vs) (bump_capped (n + 1)) ∙ args_scan args w (n + 1) fs (misuse s (uses t) b) ∙ ap₂ (λ (m : ℕ) (c : Option ℕ). scan s fs (note (not (misused s (use_of w m))) c w.place) us) up (sym (misuse_append s (uses t) (usess xs) b)))

  sign_closed : (t : Lexeme) (ts : List Lexeme) → Is Equal t ⊎ Is Unequal t → opens (t ∷ ts) ≡ false
  sign_closed t ts (inl k) = rw k refl
  sign_closed t ts (inr k) = rw k refl

  sign_skips : (t : Lexeme) (ts : List Lexeme) (b : Option ℕ) → Is Equal t ⊎ Is Unequal t → scan s [] b (t ∷ ts) ≡ scan s [] b ts
  sign_skips t ts b (inl k) = rw k refl
  sign_skips t ts b (inr k) = rw k refl

  sides_scan : {ts us : List Lexeme} {x : Literal} → Sides ts x us → opens us ≡ false → (b : Option ℕ) → scan s [] b ts ≡ scan s [] (misuse s (all_uses x) b) us
  sides_scan (sides {us = vs} {rest = us} {l = l} {r = r} {s = t} left k right_side) o b =
      term_scan left (sign_closed t vs k) [] b ∙ sign_skips t vs (misuse s (uses l) b) k ∙ term_scan right_side o [] (misuse s (uses l) b) ∙ ap (λ c. scan s [] c us) (sym (misuse_append s (uses l) (uses r) b))

  pub body_scan : {ts : List Lexeme} {x : Literal} {c d : Lexeme} → Body ts x (c ∷ (d ∷ [])) → Is Close c → Is Dot d → (b : Option ℕ) → scan s [] b ts ≡ misuse s (all_uses x) b
  body_scan (bare body) kc kd b = sides_scan body (rw kc refl) b ∙ rw (kc, kd) refl
  body_scan (wrapped ko body ki) kc kd b = rw ko (sides_scan body (rw ki refl) b ∙ rw (ki, kc, kd) refl)
