-- The text of an answer.
use Rattle.std.specs.Prelude.{ℕ, List, [], ◌∷◌, ◌++◌, Some, None, codes, decimal, Option}
use Rattle.refusal.specs.Table.{number_of, place_of}
use Rattle.script.specs.declared.answer.Answer.{Answer}
use Rattle.script.specs.declared.answer.Answer.TheVariants.{Done, Error, Refused, Formula, Nothing}

abbrev pub at_place : Option ℕ → List ℕ
at_place None = []
at_place (Some place) = codes " at " ++ decimal place

abbrev pub text_of : Answer → List ℕ
text_of Done = codes "ok"
text_of Error = codes "error"
text_of (Refused refusal) = codes "refused " ++ (decimal (number_of refusal) ++ at_place (place_of refusal))
text_of (Formula place len) = codes "formula " ++ (decimal place ++ (32 ∷ decimal len))
text_of Nothing = codes "none"
