-- A goal's run: m has the higher sides, low the lower sides; n cells of the bank and k records of the trace are counted.
use Rattle.std.specs.Prelude.{◌≡◌, ℕ, ◌-◌, ◌≤◌, cond, ◌⊎◌, List, [], ◌++◌, length, take, Some, Ok, Err, Result, ◌==◌, ◌≢◌}
use Rattle.refusal.specs.declared.Refusal.{Refusal}
use Rattle.refusal.specs.declared.Refusal.TheVariants.{Limits, GoalTooLarge}
use Rattle.terms.specs.Term.{Term}
use Rattle.terms.specs.Sig.{Sig, Over}
use Rattle.terms.specs.Patterns.{term_of}
use Rattle.terms.specs.declared.pattern.Pattern.{Pattern}
use Rattle.signature.specs.Signatures.{sig_of}
use Rattle.signature.specs.declared.signature.Signature.{Signature}
use Rattle.bank.specs.declared.cell.Cell.{Cell}
use Rattle.bank.specs.Rules.{Rules}
use Rattle.bank.specs.Means.{Means}
use Rattle.enter.specs.Enter.{enter}
use Rattle.index.specs.Maps.{Map}
use Rattle.reduction.specs.declared.outcome.Outcome.{Outcome}
use Rattle.reduction.specs.declared.outcome.Outcome.TheVariants.{Finished, Spent, NoRoom}
use Rattle.reduction.specs.Redexes.{Equations}
use Rattle.reduction.specs.Runs.{Run}
use Rattle.reduction.specs.Laws.{Leads, NormalForm}
use Rattle.terms.specs.declared.side.Side.TheVariants.{Left, Right}
use Rattle.trace.specs.declared.Step.{Step}
use Rattle.apply.specs.Applies.{Filed}
use Rattle.run.specs.declared.answer.Ended.{Ended}
use Rattle.run.specs.declared.answer.Answer.{Answer}
use Rattle.run.specs.declared.answer.Verdict.{Verdict}
use Rattle.run.specs.declared.answer.Verdict.TheVariants.{Met, Parted, Open}

abbrev pub by_outcomes : Outcome → Outcome → Verdict → Verdict
by_outcomes Finished Finished v = v
by_outcomes Finished Spent v = Open
by_outcomes Finished NoRoom v = Open
by_outcomes Spent o v = Open
by_outcomes NoRoom o v = Open

-- met if both sides are finished at one cell, parted if at two
abbrev pub verdict_of : Ended → Ended → Verdict
verdict_of l r = by_outcomes l.outcome r.outcome (cond (l.cell == r.cell) Met Parted)

-- both terms are entered into the empty bank, the left one first
pub record Both (p q : Pattern) (limit : ℕ) (b : List Cell) (i j : ℕ) : Type 0 where
  pub first : List Cell
  pub left : enter limit [] (term_of p) [] ≡ Some (first, i)
  pub right : enter limit [] (term_of q) first ≡ Some (b, j)

abbrev pub BothFit : (p q : Pattern) (limit : ℕ) → Type 0
BothFit p q limit = (b : List Cell) × (i : ℕ) × (j : ℕ) × Both p q limit b i j

abbrev pub InLimits : List Cell → Type 0
InLimits cells = (1 ≤ length cells) × (length cells ≤ 2048)

pub record Stand (S : Sig) (p q : Pattern) (b : List Cell) (i j : ℕ) : Type 0 where
  pub rules : Rules S b
  pub left : Means b i (term_of p)
  pub right : Means b j (term_of q)

abbrev pub EnteredBoth : Signature → (p q : Pattern) (cells cells' : List Cell) (n' : ℕ) → Result (ℕ × ℕ) Refusal → Type 0
EnteredBoth s p q cells cells' n' (Ok v) = (n' ≤ length cells') × Both p q (length cells) (take n' cells') v.0 v.1 × Stand (sig_of s) p q (take n' cells') v.0 v.1
EnteredBoth s p q cells cells' n' (Err e) = (n' ≡ 0)
    × (InLimits cells → Over (sig_of s) (term_of p) → Over (sig_of s) (term_of q) → (e ≡ GoalTooLarge) × (BothFit p q (length cells) → ⊥))

-- the run as it goes in bank and trace, from the bank b with the sides' cells i and j
pub record Runs (E : Equations) (limit room : ℕ) (b : List Cell) (i j : ℕ) (b' : List Cell) (steps : List Step) (a : Answer) : Type 0 where
  pub between : List Cell
  pub lefts : List Step
  pub rights : List Step
  pub left : Run limit E Left b i room a.left.outcome between a.left.cell lefts
  pub right : Run limit E Right between j (room - length lefts) a.right.outcome b' a.right.cell rights
  pub all : steps ≡ lefts ++ rights

-- and what it does to the two terms
pub record Sides (E : Equations) (s t : Term) (b' : List Cell) (steps : List Step) (a : Answer) : Type 0 where
  pub left : Term
  pub right : Term
  pub lefts : List Step
  pub rights : List Step
  pub all : steps ≡ lefts ++ rights
  pub at_left : Means b' a.left.cell left
  pub at_right : Means b' a.right.cell right
  pub left_leads : Leads E s lefts left
  pub right_leads : Leads E t rights right
  pub left_normal : a.left.outcome ≡ Finished → NormalForm E left
  pub right_normal : a.right.outcome ≡ Finished → NormalForm E right
  pub one_cell : a.left.cell ≡ a.right.cell → left ≡ right
  pub two_cells : (a.left.cell ≢ a.right.cell) → left ≢ right

pub record Answered (S : Sig) (E : Equations) (p q : Pattern) (cells : List Cell) (trace : List Step) (cells' : List Cell) (n' : ℕ) (trace' : List Step) (k' : ℕ) (a : Answer) : Type 0 where
  pub bank : List Cell
  pub left_cell : ℕ
  pub right_cell : ℕ
  pub both : Both p q (length cells) bank left_cell right_cell
  pub runs : Runs E (length cells) (length trace) bank left_cell right_cell (take n' cells') (take k' trace') a
  pub sides : Sides E (term_of p) (term_of q) (take n' cells') (take k' trace') a
  pub rules : Rules S (take n' cells')
  pub within : (n' ≤ length cells') × (k' ≤ length trace') × (length cells' ≡ length cells) × (length trace' ≡ length trace)
  pub counts : (a.steps ≡ k') × (a.terms ≡ n') × (a.verdict ≡ verdict_of a.left a.right)

abbrev pub Limited : List Cell → List Step → Type 0
Limited cells trace = InLimits cells × (length trace ≤ 4096)

abbrev pub RoomChecked : List Cell → List Step → Result (Unit {0}) Refusal → Type 0
RoomChecked cells trace (Ok _) = Limited cells trace
RoomChecked cells trace (Err e) = (Limited cells trace → ⊥) × (e ≡ Limits)

abbrev pub GoalRun : Signature → (m low : Map) (p q : Pattern) (cells : List Cell) (n : ℕ) (trace : List Step) (k : ℕ) (cells' : List Cell) (n' : ℕ) (trace' : List Step) (k' : ℕ) → Result Answer Refusal → Type 0
GoalRun s m low p q cells n trace k cells' n' trace' k' (Ok a) = Limited cells trace
    × ((E : Equations) → Filed (sig_of s) E m low → Answered (sig_of s) E p q cells trace cells' n' trace' k' a)
GoalRun s m low p q cells n trace k cells' n' trace' k' (Err e) = (trace' ≡ trace) × (k' ≡ k) × (
    ((Limited cells trace → ⊥) × (e ≡ Limits) × (cells' ≡ cells) × (n' ≡ n))
    ⊎ (Limited cells trace × (n' ≡ 0) × (Over (sig_of s) (term_of p) → Over (sig_of s) (term_of q) → (e ≡ GoalTooLarge) × (BothFit p q (length cells) → ⊥))))
