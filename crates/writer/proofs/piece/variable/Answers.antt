use Rattle.std.proofs.Common.{◌≡◌, ◌+◌, ◌<◌, ◌/◌, ◌%◌, [], ◌∷◌, ◌++◌, List, ℕ, Option, Some, None, MatchOption, IsSomeAnd, decimal, length, sym, ap, ◌∙◌, arith}
use Rattle.std.proofs.lemmas.Fmt.{decimal_digit, decimal_step}
use Rattle.row.specs.Items.{items}
use Rattle.row.specs.declared.Row.{Row}
use Rattle.writer.proofs.piece.variable.Goals as goal

-- the bytes are few enough, and are the text
made : (bytes text : List ℕ) (r : Option (Row ℕ 16)) → length bytes < 17 → bytes ≡ text → MatchOption r (16 < length bytes) (λ p. items p ≡ bytes) → IsSomeAnd r (λ p. items p ≡ text)
made bytes text None few e h = omega arith
made bytes text (Some p) few e h = h ∙ e

pub returns-then-x-lt10 : goal.returns-then-x-lt10
returns-then-x-lt10 c = made _ _ _ (omega arith) (ap (λ ds. 88 ∷ ds) (sym (decimal_digit c.args.x c.if-x-lt10.true))) c.from_slice.ensures

pub returns-else-x-lt10 : goal.returns-else-x-lt10
returns-else-x-lt10 c =
    let x = c.args.x in
    let front : decimal (x / 10) ≡ (48 + x / 10) ∷ [] = decimal_digit (x / 10) (omega (arith, c.requires)) in
    made _ _ _ (omega arith) (ap (λ ds. 88 ∷ ds) (sym (decimal_step x c.if-x-lt10.false (omega (arith, c.requires)) ∙ ap (λ ds. ds ++ ((48 + x % 10) ∷ [])) front))) c.from_slice-else-x-lt10.ensures
