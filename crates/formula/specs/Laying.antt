-- What laying out a side comes to.
use Rattle.std.specs.Prelude.{◌≡◌, ℕ, List, [], drop, Ok, Err, Result}
use Rattle.terms.specs.declared.pattern.Node.{Node}
use Rattle.signature.specs.declared.signature.Signature.{Signature}
use Rattle.lexer.specs.Tokens.{tokens_from}
use Rattle.row.specs.Items.{items}
use Rattle.row.specs.declared.Row.{Row}
use Rattle.formula.specs.Rows.{row_of, names_in}
use Rattle.formula.specs.declared.side.TooLarge.{TooLarge}
use Rattle.formula.specs.declared.variables.Variables.{Variables}

abbrev pub LaidOut : Signature → List ℕ → ℕ → Variables → Variables → Result (Row Node 32 × ℕ) TooLarge → Type 0
LaidOut s text at before after (Ok p) = row_of s (names_in text before) [] (tokens_from (drop at text) at) ≡ Ok (record { variables = names_in text after; nodes = items p.0; rest = tokens_from (drop p.1 text) p.1 })
LaidOut s text at before after (Err e) = row_of s (names_in text before) [] (tokens_from (drop at text) at) ≡ Err e.place
