-- Going on from a state to the end of the formula, and to the end of the tokens.
use Rattle.std.proofs.Common.{◌≡◌, ℕ, Bool, true, false, cond, List, [], ◌∷◌, ◌++◌, Some, None, Option, refl, arith}
use mathlib.Core.Bool.{false≢true}
use Rattle.lexer.specs.Tokens.{Lexeme}
use Rattle.lexer.specs.declared.token.Kind.{Kind}
use Rattle.grammar.specs.Kinds.{same_kind}
use Rattle.grammar.specs.Machine.{expect, next, is_done}
use Rattle.grammar.specs.declared.machine.State.{State}
use Rattle.grammar.specs.declared.machine.State.TheVariants as state
use Rattle.grammar.proofs.Same.{same_kind_true}

pub none_some : {A B : Type 0} {x : A} → ◌≡◌ {A = Option A} None (Some x) → B
none_some e = let z : ◌≡◌ {A = ℕ} 0 1 = cc in absurd (omega arith)

pub some_same : {A : Type 0} {x y : A} → Some x ≡ Some y → x ≡ y
some_same e = cc

abbrev pub bind : {A B : Type 0} → Option A → (A → Option B) → Option B
bind None f = None
bind (Some x) f = f x

-- what follows the formula, if the tokens finish one
abbrev pub goes : State → List Lexeme → Option (List Lexeme)
goes q [] = cond (is_done q) (Some []) None
goes q (t ∷ ts) = cond (is_done q) (Some (t ∷ ts)) (bind (next q t) (λ p. goes p ts))

-- the state behind all tokens
abbrev pub run : State → List Lexeme → Option State
run q [] = Some q
run q (t ∷ ts) = bind (next q t) (λ p. run p ts)

pub expected : {A : Type 0} (b : Bool) (q : State) (f : State → Option A) (x : A) → bind (expect b q) f ≡ Some x → (b ≡ true) × (f q ≡ Some x)
expected true q f x e = (refl, e)
expected false q f x e = none_some e

-- a token of the kind that was expected
pub kind_met : {A : Type 0} (t : Lexeme) (k : Kind) (q : State) (f : State → Option A) (x : A) → bind (expect (same_kind t.kind k) q) f ≡ Some x → (t.kind ≡ k) × (f q ≡ Some x)
kind_met t k q f x e = let m = expected (same_kind t.kind k) q f x e in (same_kind_true t.kind k m.0, m.1)

pub done_only : (q : State) → is_done q ≡ true → q ≡ state.Done
done_only state.Start e = absurd (false≢true e)
done_only state.Opening e = absurd (false≢true e)
done_only state.Name e = absurd (false≢true e)
done_only state.NameComma e = absurd (false≢true e)
done_only state.Role e = absurd (false≢true e)
done_only state.RoleComma e = absurd (false≢true e)
done_only state.Body e = absurd (false≢true e)
done_only (state.Term s) e = absurd (false≢true e)
done_only (state.Named s) e = absurd (false≢true e)
done_only (state.Closed s) e = absurd (false≢true e)
done_only state.Unwrapped e = absurd (false≢true e)
done_only state.Ended e = absurd (false≢true e)
done_only state.Done e = refl

bind_bind : {A : Type 0} (o : Option State) (f : State → Option State) (g : State → Option A) (h : State → Option A) → ((p : State) → h p ≡ bind (f p) g) → bind o h ≡ bind (bind o f) g
bind_bind None f g h e = refl
bind_bind (Some p) f g h e = e p

pub run_append : (q : State) (ts us : List Lexeme) → run q (ts ++ us) ≡ bind (run q ts) (λ p. run p us)
run_append q [] us = refl
run_append q (t ∷ ts) us = bind_bind (next q t) (λ p. run p ts) (λ p. run p us) (λ p. run p (ts ++ us)) (λ p. run_append p ts us)
