-- A goal's run from its two sides' runs.
use Rattle.std.proofs.Common.{◌≡◌, ℕ, ◌-◌, Bool, false, List, ◌++◌, length, get_or, take, Ok, sym, ap, ◌∙◌, subst, arith, replicate, inl, inr}
use mathlib.Core.Bool.{false≢true}
use Rattle.std.proofs.lemmas.List.{length-take-le, length-replicate, get_or-replicate, get_or_past}
use Rattle.std.proofs.lemmas.Bool.{cases_lt}
use Rattle.terms.specs.Patterns.{term_of}
use Rattle.terms.specs.Sig.{Sig}
use Rattle.terms.specs.declared.pattern.Pattern.{Pattern}
use Rattle.signature.specs.Signatures.{sig_of}
use Rattle.signature.specs.declared.signature.Signature.{Signature}
use Rattle.bank.specs.declared.cell.Cell.{Cell}
use Rattle.bank.specs.Means.{Means}
use Rattle.bank.proofs.Readings.{grown, means_within, means_one, same}
use Rattle.index.specs.Maps.{Map}
use Rattle.reduction.specs.Redexes.{Equations}
use Rattle.reduction.specs.Runs.{Run}
use Rattle.reduction.specs.Laws.{Comes}
use Rattle.reduction.proofs.Comings.{comes}
use Rattle.terms.specs.declared.side.Side.TheVariants.{Left, Right}
use Rattle.trace.specs.declared.Step.{Step}
use Rattle.apply.specs.Applies.{Filed}
use Rattle.strategy.specs.Searches.{Settled}
use Rattle.run.specs.declared.answer.Ended.{Ended}
use Rattle.run.specs.declared.answer.Answer.{Answer}
use Rattle.run.specs.Sides.{Ready, Ran, SideRun}
use Rattle.run.specs.Goals.{EnteredBoth, InLimits, Runs, Sides, Answered, verdict_of}

pub none_settled : (m : Map) (b : List Cell) (settled : List Bool) → ((j : ℕ) → get_or settled j false ≡ false) → Settled m b settled
none_settled m b settled clear = record {
  within = λ k on. absurd (false≢true (sym (clear k) ∙ on));
  none = λ k n on. absurd (false≢true (sym (clear k) ∙ on));
}

module _ (s : Signature) (m low : Map) (p q : Pattern) (cells : List Cell) (trace : List Step) (limits : InLimits cells)
    (cells₁ : List Cell) (n₁ i j : ℕ) (same₁ : length cells₁ ≡ length cells) (entered : EnteredBoth s p q cells cells₁ n₁ (Ok (i, j)))
    (settled : List Bool) (long : length settled ≡ 2048) (clear : (x : ℕ) → get_or settled x false ≡ false)
    (cells₂ : List Cell) (n₂ : ℕ) (trace₂ : List Step) (k₂ : ℕ) (settled₂ : List Bool) (l : Ended)
    (lefts : SideRun m low Left i cells₁ n₁ trace 0 settled cells₂ n₂ trace₂ k₂ settled₂ l)
    (cells₃ : List Cell) (n₃ : ℕ) (trace₃ : List Step) (k₃ : ℕ) (settled₃ : List Bool) (r : Ended)
    (rights : SideRun m low Right j cells₂ n₂ trace₂ k₂ settled₂ cells₃ n₃ trace₃ k₃ settled₃ r)
    (E : Equations) (filed : Filed (sig_of s) E m low) where
  abbrev S : Sig
  S = sig_of s

  size₁ : length (take n₁ cells₁) ≡ n₁
  size₁ = length-take-le n₁ cells₁ entered.0

  ready_left : Ready S E m low i cells₁ n₁ (length trace) 0 settled
  ready_left = record {
    filed = filed;
    counted = entered.0;
    few = omega (arith, same₁, limits.1);
    rules = entered.2.rules;
    root = omega (arith, size₁, means_within entered.2.left);
    records = omega arith;
    marks = long;
    settled_none = none_settled m (take n₁ cells₁) settled clear;
  }

  left_ran : Ran S E m low Left i cells₁ n₁ trace 0 cells₂ n₂ trace₂ k₂ settled₂ l
  left_ran = lefts S E ready_left

  size₂ : length (take n₂ cells₂) ≡ n₂
  size₂ = length-take-le n₂ cells₂ left_ran.ready.counted

  q_there : Means (take n₂ cells₂) j (term_of q)
  q_there = subst (λ z. Means z j (term_of q)) (sym left_ran.grown.grows) (grown (take n₁ cells₁) left_ran.grown.more (term_of q) entered.2.right)

  ready_right : Ready S E m low j cells₂ n₂ (length trace₂) k₂ settled₂
  ready_right =
      let h = left_ran.ready in
      record {
        filed = filed;
        counted = h.counted;
        few = h.few;
        rules = h.rules;
        root = omega (arith, size₂, means_within q_there);
        records = omega (arith, h.records, left_ran.same_length);
        marks = h.marks;
        settled_none = h.settled_none;
      }

  right_ran : Ran S E m low Right j cells₂ n₂ trace₂ k₂ cells₃ n₃ trace₃ k₃ settled₃ r
  right_ran = rights S E ready_right

  -- the left side's records are the trace so far
  count₂ : k₂ ≡ length left_ran.steps
  count₂ = sym (length-take-le k₂ trace₂ (omega (arith, left_ran.ready.records, left_ran.same_length))) ∙ ap length left_ran.records

  all : take k₃ trace₃ ≡ left_ran.steps ++ right_ran.steps
  all = right_ran.records ∙ ap (λ z. z ++ right_ran.steps) left_ran.records

  same₂ : length cells₂ ≡ length cells
  same₂ = left_ran.grown.size ∙ same₁

  left_comes : Comes E (take n₁ cells₁) i l.outcome (take n₂ cells₂) l.cell left_ran.steps (term_of p)
  left_comes = comes S (length cells₁) E Left (term_of p) left_ran.ready.rules entered.2.left left_ran.run

  right_comes : Comes E (take n₂ cells₂) j r.outcome (take n₃ cells₃) r.cell right_ran.steps (term_of q)
  right_comes = comes S (length cells₂) E Right (term_of q) right_ran.ready.rules q_there right_ran.run

  left_stays : Means (take n₃ cells₃) l.cell left_comes.final
  left_stays = subst (λ z. Means z l.cell left_comes.final) (sym right_ran.grown.grows) (grown (take n₂ cells₂) right_ran.grown.more left_comes.final left_comes.means)

  module _ (a : Answer) (is_left : a.left ≡ l) (is_right : a.right ≡ r) (counts : (a.steps ≡ k₃) × (a.terms ≡ n₃) × (a.verdict ≡ verdict_of a.left a.right)) where
    runs : Runs E (length cells) (length trace) (take n₁ cells₁) i j (take n₃ cells₃) (take k₃ trace₃) a
    runs = record {
      between = take n₂ cells₂;
      lefts = left_ran.steps;
      rights = right_ran.steps;
      left = subst (λ (x : Ended). Run (length cells) E Left (take n₁ cells₁) i (length trace) x.outcome (take n₂ cells₂) x.cell left_ran.steps) (sym is_left)
          (subst (λ x. Run x E Left (take n₁ cells₁) i (length trace) l.outcome (take n₂ cells₂) l.cell left_ran.steps) same₁
          (subst (λ x. Run (length cells₁) E Left (take n₁ cells₁) i x l.outcome (take n₂ cells₂) l.cell left_ran.steps) (omega arith) left_ran.run));
      right = subst (λ (x : Ended). Run (length cells) E Right (take n₂ cells₂) j (length trace - length left_ran.steps) x.outcome (take n₃ cells₃) x.cell right_ran.steps) (sym is_right)
          (subst (λ x. Run x E Right (take n₂ cells₂) j (length trace - length left_ran.steps) r.outcome (take n₃ cells₃) r.cell right_ran.steps) same₂
          (subst (λ x. Run (length cells₂) E Right (take n₂ cells₂) j x r.outcome (take n₃ cells₃) r.cell right_ran.steps) (omega (arith, count₂, left_ran.same_length)) right_ran.run));
      all = all;
    }

    sides : Sides E (term_of p) (term_of q) (take n₃ cells₃) (take k₃ trace₃) a
    sides = record {
      left = left_comes.final;
      right = right_comes.final;
      lefts = left_ran.steps;
      rights = right_ran.steps;
      all = all;
      at_left = subst (λ (x : Ended). Means (take n₃ cells₃) x.cell left_comes.final) (sym is_left) left_stays;
      at_right = subst (λ (x : Ended). Means (take n₃ cells₃) x.cell right_comes.final) (sym is_right) right_comes.means;
      left_leads = left_comes.leads;
      right_leads = right_comes.leads;
      left_normal = λ e. left_comes.normal (sym (ap (λ (x : Ended). x.outcome) is_left) ∙ e);
      right_normal = λ e. right_comes.normal (sym (ap (λ (x : Ended). x.outcome) is_right) ∙ e);
      one_cell = λ e. means_one (take n₃ cells₃) left_stays (subst (λ x. Means (take n₃ cells₃) x right_comes.final) (sym (sym (ap (λ (x : Ended). x.cell) is_left) ∙ (e ∙ ap (λ (x : Ended). x.cell) is_right))) right_comes.means);
      two_cells = λ apart e. apart (ap (λ (x : Ended). x.cell) is_left ∙ (same S (take n₃ cells₃) right_ran.ready.rules right_comes.final (subst (Means (take n₃ cells₃) l.cell) e left_stays) right_comes.means ∙ sym (ap (λ (x : Ended). x.cell) is_right)));
    }

    pub answered : Answered S E p q cells trace cells₃ n₃ trace₃ k₃ a
    answered = record {
      bank = take n₁ cells₁;
      left_cell = i;
      right_cell = j;
      both = entered.1;
      runs = runs;
      sides = sides;
      rules = right_ran.ready.rules;
      within = (right_ran.ready.counted, omega (arith, right_ran.ready.records, right_ran.same_length), right_ran.grown.size ∙ same₂, right_ran.same_length ∙ left_ran.same_length);
      counts = counts;
    }

-- no cell is settled at first
pub unsettled : (n j : ℕ) → get_or (replicate n false) j false ≡ false
unsettled n j = elim (cases_lt j n) [ inl l ↦ get_or-replicate n j false false l | inr g ↦ get_or_past (replicate n false) j false (omega (arith, g, length-replicate n false)) ]
