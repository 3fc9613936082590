-- The next formula of a problem text, from a walk that starts at its first token.
use Rattle.std.proofs.Common.{◌≡◌, ℕ, ◌+◌, ◌-◌, ◌≤◌, List, [], ◌∷◌, ◌++◌, length, take, drop, Some, Ok, Err, Option, Result, sym, refl, ap, ◌∙◌, subst, arith}
use Rattle.refusal.specs.declared.Refusal.{Refusal}
use Rattle.refusal.specs.declared.Refusal.TheVariants.{Grammar}
use Rattle.lexer.specs.Tokens.{Lexeme, tokens, tokens_from}
use Rattle.grammar.specs.Machine.{walk}
use Rattle.grammar.specs.Fits.{Complete, Misfit}
use Rattle.grammar.specs.Outcomes.{Handed, misfit, part, end_behind, NoFormula}
use Rattle.grammar.specs.declared.machine.State.TheVariants as state
use Rattle.grammar.specs.declared.part.Part.{Part}
use Rattle.grammar.proofs.Steps.{run}
use Rattle.grammar.proofs.Alone.{alone}
use Rattle.grammar.proofs.Prefixes.{run_complete}
use Rattle.grammar.proofs.Walks.{walk_misfit, walk_front, none_whole}

nothing_first : {t : Lexeme} {ts : List Lexeme} → [] ≡ t ∷ ts → ⊥
nothing_first e = let z : ◌≡◌ {A = ℕ} 0 1 = cc in omega arith

pub refuses : (text : List ℕ) (at place p : ℕ) (first : Lexeme) (behind : List Lexeme) (r : Result (Option Part) Refusal) → tokens_from (drop at text) at ≡ first ∷ behind → tokens_from (drop at text) at ≡ tokens_from (drop place text) place → walk state.Start place (tokens_from (drop place text) place) (length text) ≡ Err p → r ≡ Err (Grammar p) → Handed text at r at
refuses text at place p first behind r some same h is =
    let P : List Lexeme → Type 0 = λ ts. Misfit ts (length text) p in
    let N : List Lexeme → Type 0 = NoFormula in
    let Q : Result (Option Part) Refusal → Type 0 = λ x. Handed text at x at in
    let ts = tokens_from (drop place text) place in
    subst Q (sym is) (misfit (λ none. nothing_first (sym none ∙ some)) (subst N (sym same) (none_whole place ts (length text) p h)) (subst P (sym same) (walk_misfit place ts (length text) p h)))

head_same : {t u : Lexeme} {ts us : List Lexeme} → t ∷ ts ≡ u ∷ us → t ≡ u
head_same e = cc

start_done : {A : Type 0} → ◌≡◌ {A = Option _} (Some state.Start) (Some state.Done) → A
start_done e = let z : ◌≡◌ {A = ℕ} 0 1 = cc in absurd (omega arith)

module _ (text : List ℕ) (at : ℕ) (first : Lexeme) (behind rest : List Lexeme) (end : ℕ) (x : Part) (tokens-are : tokens_from (drop at text) at ≡ first ∷ behind) (same : tokens_from (drop at text) at ≡ tokens_from (drop first.place text) first.place) (rest_is : rest ≡ tokens_from (drop end text) end) (within : first.place ≤ end) (place : x.place ≡ first.place) (bytes : x.bytes.now ≡ take (end - x.place) (drop x.place text)) where
  from_front : (front : List Lexeme) → tokens_from (drop at text) at ≡ front ++ rest → run state.Start front ≡ Some state.Done → end ≡ end_behind first.place front → Handed text at (Ok (Some x)) end
  from_front [] is r e = start_done r
  from_front (cnf ∷ front) is r e =
      let size : first.place + (end - first.place) ≡ end = omega arith in
      let whole = alone (drop first.place text) first.place (end - first.place) cnf front rest (sym same ∙ is) r (sym e ∙ sym size) in
      let P : List ℕ → Type 0 = λ bs. Complete (tokens bs) in
      part cnf front (is ∙ ap (λ us. (cnf ∷ front) ++ us) rest_is) (run_complete (cnf ∷ front) r) (place ∙ ap (λ t. t.place) (head_same (sym tokens-are ∙ is))) e bytes
      (subst P (sym (bytes ∙ ap (λ n. take (end - n) (drop n text)) place)) whole)

pub hands : (text : List ℕ) (at : ℕ) (first : Lexeme) (behind : List Lexeme) (end : ℕ) (x : Part) → tokens_from (drop at text) at ≡ first ∷ behind → tokens_from (drop at text) at ≡ tokens_from (drop first.place text) first.place → walk state.Start first.place (tokens_from (drop first.place text) first.place) (length text) ≡ Ok (end, tokens_from (drop end text) end) → first.place ≤ end → x.place ≡ first.place → x.bytes.now ≡ take (end - x.place) (drop x.place text) → Handed text at (Ok (Some x)) end
hands text at first behind end x tokens-are same h within place bytes =
    let f = walk_front state.Start first.place (tokens_from (drop first.place text) first.place) (length text) end (tokens_from (drop end text) end) h in
    from_front text at first behind (tokens_from (drop end text) end) end x tokens-are same refl within place bytes f.front (same ∙ f.is) f.runs f.ends
