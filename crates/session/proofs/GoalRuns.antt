-- A goal's run as the answer to simplifying.
use Rattle.std.proofs.Common.{◌≡◌, ℕ, List, Ok, Err, Result, sym, refl, subst, inl, inr}
use Rattle.refusal.specs.declared.Refusal.{Refusal}
use Rattle.terms.specs.Term.{Term}
use Rattle.terms.specs.Sig.{Over}
use Rattle.terms.specs.Patterns.{term_of}
use Rattle.signature.specs.Signatures.{sig_of}
use Rattle.signature.specs.declared.signature.Signature.{Signature}
use Rattle.bank.specs.declared.cell.Cell.{Cell}
use Rattle.formula.specs.Outcomes.{Outcome, read}
use Rattle.formula.specs.declared.equation.Equation.{Equation}
use Rattle.index.specs.Maps.{Map}
use Rattle.entries.specs.Stored.{map_of}
use Rattle.trace.specs.declared.Step.{Step}
use Rattle.run.specs.declared.answer.Answer.{Answer}
use Rattle.run.specs.Goals.{GoalRun}
use Rattle.file.proofs.Filing.{filed}
use Rattle.session.specs.Simplifies.{Goal, Posed, Refused, Simplifies}
use Rattle.session.specs.declared.Session.{Session}

-- what was read is over the signature
pub record BothOver (g : Signature) (q : Equation) : Type 0 where
  pub left : Over (sig_of g) (term_of q.left)
  pub right : Over (sig_of g) (term_of q.right)

pub both_over : {g : Signature} {text : List ℕ} {q : Equation} → Outcome g text (Ok q) → BothOver g q
both_over (read x c f n r) = record { left = r.left_over; right = r.right_over }

module _ {I O : Type 0} (stored : I → Map) (above : O → Signature → Term → Term → Type 0) (s : Session I O) (text : List ℕ) (cells : List Cell) (n : ℕ) (trace : List Step) (k : ℕ) where
  pub refuses : (answer : Result Answer Refusal) (f : Refusal) → answer ≡ Err f → Refused s.signature text cells trace f → Simplifies stored above s text cells n trace k cells n trace k answer
  refuses answer f e r =
      subst (λ x. Simplifies stored above s text cells n trace k cells n trace k x) (sym e)
      (inl (r, record { same_cells = refl; same_count = refl; same_trace = refl; same_steps = refl }))

  module _ (q : Equation) (posed : Posed s.signature text cells trace q) (is_goal : Goal q) (cells' : List Cell) (n' : ℕ) (trace' : List Step) (k' : ℕ) where
    over : BothOver s.signature q
    over = both_over posed.read

    pub runs : (answer : Result Answer Refusal) → GoalRun s.signature (stored s.file.index) (map_of s.file.lowers) q.left q.right cells n trace k cells' n' trace' k' answer
        → Simplifies stored above s text cells n trace k cells' n' trace' k' answer
    runs (Ok a) h = λ kept. record {
      goal = q;
      posed = posed;
      is_goal = is_goal;
      answered = h.1 _ (filed (sig_of s.signature) (stored s.file.index) (map_of s.file.lowers) kept.paired (λ i e x. ((kept.ordered i e x).higher_over, (kept.ordered i e x).lower_over)));
    }
    runs (Err f) (same_trace, same_steps, inl h) = absurd (h.0 posed.limited)
    runs (Err f) (same_trace, same_steps, inr h) =
        let w = h.2 over.left over.right in
        inr (record { goal = q; posed = posed; is_goal = is_goal; out = w.1; is = w.0; empty = h.1; same_trace = (same_trace, same_steps) })

-- the file lent out is the session's
pub lent : {I : Type 0} (stored : I → Map) (g : Signature) (i j : I) (low low' : Map) (p : Equation) (cells : List Cell) (n : ℕ) (trace : List Step) (k : ℕ) (cells' : List Cell) (n' : ℕ) (trace' : List Step) (k' : ℕ) (answer : Result Answer Refusal)
    → i ≡ j → low ≡ low' → GoalRun g (stored i) low p.left p.right cells n trace k cells' n' trace' k' answer → GoalRun g (stored j) low' p.left p.right cells n trace k cells' n' trace' k' answer
lent stored g i j low low' p cells n trace k cells' n' trace' k' answer e f h =
    subst (λ x. GoalRun g (stored j) x p.left p.right cells n trace k cells' n' trace' k' answer) f (subst (λ x. GoalRun g (stored x) low p.left p.right cells n trace k cells' n' trace' k' answer) e h)
