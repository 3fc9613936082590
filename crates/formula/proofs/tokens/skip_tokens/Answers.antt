use Rattle.std.proofs.Common.{◌≡◌, ℕ, ◌≤◌, List, [], length, drop, sym, ap, ◌∙◌, arith, length-drop}
use Rattle.std.proofs.lemmas.List.{drop-drop, drop_all}
use Rattle.lexer.specs.Tokens.{Lexeme}
use Rattle.formula.proofs.tokens.skip_tokens.Goals as goal

-- what has given out has given out further on too
given_out : (i n : ℕ) (ts : List Lexeme) → i ≤ n → drop i ts ≡ [] → drop n ts ≡ []
given_out i n ts h e = drop_all n ts (omega (arith, sym (length-drop i ts) ∙ ap length e))

pub returns-in_default : goal.returns-in_default
returns-in_default c =
    let none = c.in_default.ensures in
    none ∙ sym (given_out c.loop.counter c.args.n _ (omega arith) (sym c.loop.invariant ∙ none))

pub loop-preserved : goal.loop-preserved
loop-preserved c = rw c.end-place.ensures (ap (drop 1) (sym c.in-Some.ensures.0 ∙ c.loop.invariant) ∙ drop-drop 1 c.loop.counter _)
