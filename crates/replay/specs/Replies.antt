-- What the calls answer.
use Rattle.std.specs.Prelude.{ℕ, ◌<◌, ◌≤◌, List, [], ◌∷◌, length, Some, None, Ok, Err, Result}
use Rattle.refusal.specs.declared.Refusal.{Refusal}
use Rattle.refusal.specs.declared.Refusal.TheVariants.{Limits}
use Rattle.signature.specs.Texts.{Line}
use Rattle.grammar.specs.Outcomes.{Handed}
use Rattle.grammar.specs.declared.part.Part.{Part}
use Rattle.script.specs.declared.answer.Answer.{Answer}
use Rattle.script.specs.declared.answer.Answer.TheVariants.{Done, Refused, Formula, Nothing}

abbrev pub answer_of : Result (List Line) Refusal → Answer
answer_of (Ok lines) = Done
answer_of (Err refusal) = Refused refusal

-- the answers of a reader that stands at a place: a formula for each part, then that there is none, or the refusal
pub data Reads (text : List ℕ) : ℕ → List Answer → Type 0 where
  ended : {at after : ℕ} → Handed text at (Ok None) after → Reads text at (Nothing ∷ [])
  refused : {at after : ℕ} {e : Refusal} → Handed text at (Err e) after → Reads text at (Refused e ∷ [])
  part : {at after : ℕ} {x : Part} {more : List Answer} → Handed text at (Ok (Some x)) after → Reads text after more → Reads text at (Formula x.place (length x.bytes.now) ∷ more)

-- the answers to a problem text
pub data Answers (text : List ℕ) : List Answer → Type 0 where
  long : 32768 < length text → Answers text (Refused Limits ∷ [])
  read : {answers : List Answer} → length text ≤ 32768 → Reads text 0 answers → Answers text answers
