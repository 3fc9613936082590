-- What reading a formula, or the next formula of a problem text, comes to.
use Rattle.std.specs.Prelude.{◌≡◌, ℕ, ◌-◌, ◌<◌, ◌≤◌, List, [], ◌∷◌, ◌++◌, length, take, drop, Some, None, Ok, Err, Option, Result, ◌≢◌}
use Rattle.refusal.specs.declared.Refusal.{Refusal}
use Rattle.refusal.specs.declared.Refusal.TheVariants.{Grammar, Limits}
use Rattle.lexer.specs.Tokens.{Lexeme, tokens, tokens_from}
use Rattle.lexer.specs.Next.{end_of}
use Rattle.grammar.specs.Fits.{Complete, Misfit}
use Rattle.grammar.specs.Machine.{walk}
use Rattle.grammar.specs.declared.machine.State.TheVariants as state
use Rattle.grammar.specs.declared.part.Part.{Part}
use Rattle.grammar.specs.declared.part.Fault.{Fault}

-- the place behind the last of some tokens
abbrev pub end_behind : ℕ → List Lexeme → ℕ
end_behind e [] = e
end_behind e (t ∷ ts) = end_behind (end_of t) ts

-- the machine's answer from a place on, and what is left of the text behind the formula
abbrev pub Walked : List ℕ → ℕ → Result ℕ Fault → Type 0
Walked text at (Ok e) = (walk state.Start at (tokens_from (drop at text) at) (length text) ≡ Ok (e, tokens_from (drop e text) e)) × (at ≤ e) × (e ≤ length text)
Walked text at (Err f) = walk state.Start at (tokens_from (drop at text) at) (length text) ≡ Err f.place

-- a text that should be one formula: too long, or its tokens break the grammar at a place, or they are one formula
pub data Checked (text : List ℕ) : Result (Unit {0}) Refusal → Type 0 where
  too_long : 32768 < length text → Checked text (Err Limits)
  misfit : {p : ℕ} → length text ≤ 32768 → Misfit (tokens text) (length text) p → Checked text (Err (Grammar p))
  fits : length text ≤ 32768 → Complete (tokens text) → Checked text (Ok tt)

-- the tokens do not begin with a whole formula
abbrev pub NoFormula : List Lexeme → Type 0
NoFormula ts = (front rest : List Lexeme) → ts ≡ front ++ rest → Complete front → ⊥

-- the next formula of a problem text, from the place `at` on, and the place from which the next call goes on; a part that is handed out is
-- one formula alone, too
pub data Handed (text : List ℕ) (at : ℕ) : Result (Option Part) Refusal → ℕ → Type 0 where
  none : tokens_from (drop at text) at ≡ [] → Handed text at (Ok None) at
  misfit : {p : ℕ} → (tokens_from (drop at text) at ≢ []) → NoFormula (tokens_from (drop at text) at) → Misfit (tokens_from (drop at text) at) (length text) p → Handed text at (Err (Grammar p)) at
  part : {x : Part} {after : ℕ} (cnf : Lexeme) (front : List Lexeme) →
      tokens_from (drop at text) at ≡ (cnf ∷ front) ++ tokens_from (drop after text) after → Complete (cnf ∷ front) →
      x.place ≡ cnf.place → after ≡ end_behind at (cnf ∷ front) → x.bytes.now ≡ take (after - x.place) (drop x.place text) →
      Complete (tokens x.bytes.now) →
      Handed text at (Ok (Some x)) after
