-- Turns one after another make a run.
use Rattle.std.proofs.Common.{◌≡◌, ℕ, suc, ◌+◌, ◌-◌, ◌<◌, Bool, List, [], ◌∷◌, ◌++◌, length, take, sym, refl, ap, ◌∙◌, subst, append_assoc, append-nil, arith, length-set}
use Rattle.std.proofs.lemmas.List.{take_more_set}
use Rattle.terms.specs.Sig.{Sig}
use Rattle.bank.specs.declared.cell.Cell.{Cell}
use Rattle.index.specs.Maps.{Map}
use Rattle.reduction.specs.declared.outcome.Outcome.{Outcome}
use Rattle.reduction.specs.declared.outcome.Outcome.TheVariants.{Finished, Spent, NoRoom}
use Rattle.reduction.specs.Redexes.{Equations}
use Rattle.reduction.specs.Steps.{Stepped}
use Rattle.reduction.specs.Runs.{Run, finished, spent, blocked, step}
use Rattle.terms.specs.declared.side.Side.{Side}
use Rattle.trace.specs.declared.Step.{Step}
use Rattle.run.specs.declared.answer.Ended.{Ended}
use Rattle.run.specs.Sides.{Ready, Grown, SideRun, EndsBy, Onward, Halted}

pub record Made (S : Sig) (E : Equations) (m low : Map) (side : Side) (r₀ : ℕ) (cells₀ : List Cell) (n₀ : ℕ) (trace₀ : List Step) (k₀ : ℕ) (r : ℕ) (cells : List Cell) (n : ℕ) (trace : List Step) (k : ℕ) (settled : List Bool) : Type 0 where
  pub steps : List Step
  pub run : (o : Outcome) (b : List Cell) (r' : ℕ) (more : List Step) → Run (length cells₀) E side (take n cells) r (length trace₀ - k) o b r' more → Run (length cells₀) E side (take n₀ cells₀) r₀ (length trace₀ - k₀) o b r' (steps ++ more)
  pub records : take k trace ≡ take k₀ trace₀ ++ steps
  pub same_length : length trace ≡ length trace₀
  pub grown : Grown cells₀ n₀ cells n
  pub ready : Ready S E m low r cells n (length trace₀) k settled

abbrev pub Looping : (m low : Map) (side : Side) (r₀ : ℕ) (cells₀ : List Cell) (n₀ : ℕ) (trace₀ : List Step) (k₀ : ℕ) (settled₀ : List Bool) (r : ℕ) (cells : List Cell) (n : ℕ) (trace : List Step) (k : ℕ) (settled : List Bool) → Type 0
Looping m low side r₀ cells₀ n₀ trace₀ k₀ settled₀ r cells n trace k settled =
    (S : Sig) (E : Equations) → Ready S E m low r₀ cells₀ n₀ (length trace₀) k₀ settled₀ → Made S E m low side r₀ cells₀ n₀ trace₀ k₀ r cells n trace k settled

module _ (m low : Map) (side : Side) (r₀ : ℕ) (cells₀ : List Cell) (n₀ : ℕ) (trace₀ : List Step) (k₀ : ℕ) (settled₀ : List Bool) where
  pub starts : Looping m low side r₀ cells₀ n₀ trace₀ k₀ settled₀ r₀ cells₀ n₀ trace₀ k₀ settled₀
  starts S E h = record {
    steps = [];
    run = λ o b r' more h. h;
    records = sym (append-nil (take k₀ trace₀));
    same_length = refl;
    grown = record { size = refl; more = []; grows = sym (append-nil (take n₀ cells₀)) };
    ready = h;
  }

  module _ (r : ℕ) (cells : List Cell) (n : ℕ) (trace : List Step) (k : ℕ) (settled : List Bool) (loop : Looping m low side r₀ cells₀ n₀ trace₀ k₀ settled₀ r cells n trace k settled) where
    at_trace : (S : Sig) (E : Equations) (h : Ready S E m low r₀ cells₀ n₀ (length trace₀) k₀ settled₀) → Ready S E m low r cells n (length trace) k settled
    at_trace S E h = let l = loop S E h in subst (λ x. Ready S E m low r cells n x k settled) (sym l.same_length) l.ready

    both_grown : (S : Sig) (E : Equations) (cells' : List Cell) (n' : ℕ) → Grown cells₀ n₀ cells n → Grown cells n cells' n' → Grown cells₀ n₀ cells' n'
    both_grown S E cells' n' g f = record {
      size = f.size ∙ g.size;
      more = g.more ++ f.more;
      grows = f.grows ∙ ap (λ z. z ++ f.more) g.grows ∙ append_assoc (take n₀ cells₀) g.more f.more;
    }

    pub next : (cells' : List Cell) (n' : ℕ) (trace' : List Step) (k' : ℕ) (settled' : List Bool) (r' : ℕ)
        → ((S : Sig) (E : Equations) → Ready S E m low r cells n (length trace) k settled → Onward S E m low side r cells n trace k cells' n' trace' k' settled' r')
        → Looping m low side r₀ cells₀ n₀ trace₀ k₀ settled₀ r' cells' n' trace' k' settled'
    next cells' n' trace' k' settled' r' turn S E h =
        let l = loop S E h in
        let t = turn S E (at_trace S E h) in
        let bank-size = l.grown.size in
        let picked = t.picked in
        let stepped = subst (λ x. Stepped x E (take n cells) r t.step.replaced t.step.equation t.step.put_in (take n' cells') r') bank-size t.stepped in
        let room : length trace₀ - k ≡ suc (length trace₀ - k') = omega (arith, t.room, l.same_length, t.written.1) in
        let made : t.step ≡ record { side = side; equation = t.step.equation; replaced = t.step.replaced; put_in = t.step.put_in; after = r' } = same_step t.step side r' t.of_side t.after in
        record {
          steps = l.steps ++ t.step ∷ [];
          run = λ o b q more run.
              subst (λ ss. Run (length cells₀) E side (take n₀ cells₀) r₀ (length trace₀ - k₀) o b q ss) (sym (append_assoc l.steps (t.step ∷ []) more))
              (l.run o b q (t.step ∷ more) (subst (λ x. Run (length cells₀) E side (take n cells) r x o b q (t.step ∷ more)) (sym room) (step picked stepped made run)));
          records =
              ap (λ x. take x trace') t.written.1
              ∙ (ap (take (k + 1)) t.written.0
              ∙ (take_more_set trace k t.step t.room
              ∙ (ap (λ z. z ++ t.step ∷ []) l.records ∙ append_assoc (take k₀ trace₀) l.steps (t.step ∷ []))));
          same_length = ap length t.written.0 ∙ (length-set trace k t.step ∙ l.same_length);
          grown = both_grown S E cells' n' l.grown t.grown;
          ready = subst (λ x. Ready S E m low r' cells' n' x k' settled') l.same_length t.ready;
        }
      where
        same_step : (s : Step) (side : Side) (r' : ℕ) → s.side ≡ side → s.after ≡ r' → s ≡ record { side = side; equation = s.equation; replaced = s.replaced; put_in = s.put_in; after = r' }
        same_step s side r' e q =
            ap (λ x. record { side = x; equation = s.equation; replaced = s.replaced; put_in = s.put_in; after = s.after }) e
            ∙ ap (λ x. record { side = side; equation = s.equation; replaced = s.replaced; put_in = s.put_in; after = x }) q

    ends_run : (limit : ℕ) (E : Equations) (room : ℕ) (o : Outcome) → EndsBy limit E (take n cells) r room o → Run limit E side (take n cells) r room o (take n cells) r []
    ends_run limit E room Finished h = finished h
    ends_run limit E room Spent h = subst (λ x. Run limit E side (take n cells) r x Spent (take n cells) r []) (sym h.3) (spent h.2)
    ends_run limit E room NoRoom h =
        let e : suc (room - 1) ≡ room = omega (arith, h.4) in
        subst (λ x. Run limit E side (take n cells) r x NoRoom (take n cells) r []) e (blocked h.2 h.3)

    pub ends : (cells' : List Cell) (n' : ℕ) (trace' : List Step) (k' : ℕ) (settled' : List Bool) (o : Outcome) (e : Ended) → e.outcome ≡ o → e.cell ≡ r
        → ((S : Sig) (E : Equations) → Ready S E m low r cells n (length trace) k settled → Halted S E m low r cells n trace k cells' n' trace' k' settled' o)
        → SideRun m low side r₀ cells₀ n₀ trace₀ k₀ settled₀ cells' n' trace' k' settled' e
    ends cells' n' trace' k' settled' o e is-o is-r turn S E h =
        let l = loop S E h in
        let t = turn S E (at_trace S E h) in
        let by = subst (λ x. EndsBy x E (take n cells) r (length trace₀ - k) o) l.grown.size (subst (λ x. EndsBy (length cells) E (take n cells) r (x - k) o) l.same_length t.by) in
        let same_cells : take n cells ≡ take n' cells' = sym (ap (λ z. take z cells') t.same_bank.1 ∙ t.same_bank.2) in
        let run₀ = l.run o (take n cells) r [] (ends_run (length cells₀) E (length trace₀ - k) o by) in
        let run₁ = subst (λ z. Run (length cells₀) E side (take n₀ cells₀) r₀ (length trace₀ - k₀) o z r (l.steps ++ [])) same_cells run₀ in
        let run₂ = subst (λ z. Run (length cells₀) E side (take n₀ cells₀) r₀ (length trace₀ - k₀) z (take n' cells') r (l.steps ++ [])) (sym is-o) run₁ in
        let run₃ = subst (λ z. Run (length cells₀) E side (take n₀ cells₀) r₀ (length trace₀ - k₀) e.outcome (take n' cells') z (l.steps ++ [])) (sym is-r) run₂ in
        record {
          steps = l.steps ++ [];
          run = run₃;
          records = ap (λ x. take x trace') t.same_trace.1 ∙ (ap (take k) t.same_trace.0 ∙ (l.records ∙ ap (λ z. take k₀ trace₀ ++ z) (sym (append-nil l.steps))));
          same_length = ap length t.same_trace.0 ∙ l.same_length;
          grown = record { size = t.same_bank.0 ∙ l.grown.size; more = l.grown.more; grows = sym same_cells ∙ l.grown.grows };
          ready = subst (λ x. Ready S E m low x cells' n' (length trace₀) k' settled') (sym is-r) (subst (λ x. Ready S E m low r cells' n' x k' settled') l.same_length t.ready);
        }

-- each step leaves less of the trace
pub less : (trace trace' : List Step) (k k' : ℕ) → k < length trace → k' ≡ k + 1 → length trace' ≡ length trace → length trace' - k' < length trace - k
less trace trace' k k' l e same = omega (arith, l, e, same)
