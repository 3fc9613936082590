-- A run in a bank, as what it does to terms.
use Rattle.std.proofs.Common.{◌≡◌, ℕ, List, Some, sym, refl, ◌∙◌, subst, ap₂, arith}
use Rattle.terms.specs.Term.{Term, sub}
use Rattle.terms.specs.Sig.{Sig}
use Rattle.terms.specs.Patterns.{term_of}
use Rattle.bank.specs.declared.cell.Cell.{Cell}
use Rattle.bank.specs.Rules.{Rules}
use Rattle.bank.specs.Means.{Means}
use Rattle.enter.specs.Grown.{Part}
use Rattle.enter.proofs.Rooms.{part_stands}
use Rattle.terms.specs.declared.side.Side.{Side}
use Rattle.trace.specs.declared.Step.{Step}
use Rattle.reduction.specs.declared.outcome.Outcome.{Outcome}
use Rattle.reduction.specs.declared.outcome.Outcome.TheVariants.{Finished, Spent, NoRoom}
use Rattle.reduction.specs.Reaches.{Reaches}
use Rattle.reduction.specs.Redexes.{Equations, highers, higher_side, Normal}
use Rattle.reduction.specs.Replaced.{replace}
use Rattle.reduction.specs.Steps.{Stepped}
use Rattle.reduction.specs.Runs.{Run, finished, spent, blocked, step}
use Rattle.reduction.specs.Laws.{Rewrites, stays, steps, NormalForm, Comes}
use Rattle.reduction.proofs.Subterms.{reached_part, part_reached}
use Rattle.bank.proofs.Readings.{means_one}

-- a term with no redex in the bank is a normal form: its subterms stand there
pub normal_form : (S : Sig) (E : Equations) (b : List Cell) (r : ℕ) (t : Term) → Rules S b → Means b r t → Normal (highers E) b r → NormalForm E t
normal_form S E b r t rules m out n e σ stored part =
    let p = part_stands t (sub σ (term_of e.higher)) m part in
    out p.0 n (part_reached S b rules (sub σ (term_of e.higher)) t r p.0 part m p.1)
    (record { pattern = e.higher; stored = subst (λ o. higher_side o ≡ Some e.higher) (sym stored) refl; fits = record { inst = σ; means = p.1 } })

-- a step in the bank is a rewrite of the term
pub step_rewrites : (E : Equations) (limit : ℕ) (b b' : List Cell) (r r' j n v : ℕ) (t : Term) → Means b r t → Reaches b r j → (h : Stepped limit E b r j n v b' r') → Rewrites E n t (replace h.old h.new t)
step_rewrites E limit b b' r r' j n v t m reached h =
    let x = h.redex in
    let p = reached_part b r t m reached in
    let is-old : p.0 ≡ h.old = means_one b p.1 x.means in
    record {
      equation = x.equation;
      stored = x.stored;
      inst = x.inst;
      stands = subst (λ s. Part s t) (is-old ∙ x.from) p.2;
      gives = ap₂ (λ s s'. replace s s' t) x.from x.to;
    }

module _ (S : Sig) (limit : ℕ) (E : Equations) (side : Side) where
  pub comes : {b b' : List Cell} {r r' room : ℕ} {o : Outcome} {ss : List Step} (t : Term) → Rules S b' → Means b r t → Run limit E side b r room o b' r' ss → Comes E b r o b' r' ss t
  comes {b = b} {r = r} t rules m (finished out) = record { final = t; means = m; leads = stays; normal = λ e. normal_form S E b r t rules m out }
  comes t rules m (spent p) = record { final = t; means = m; leads = stays; normal = λ e. absurd (other e) }
    where
      other : Spent ≡ Finished → ⊥
      other e = let z : ◌≡◌ {A = ℕ} 0 1 = cc in omega arith
  comes t rules m (blocked p q) = record { final = t; means = m; leads = stays; normal = λ e. absurd (other e) }
    where
      other : NoRoom ≡ Finished → ⊥
      other e = let z : ◌≡◌ {A = ℕ} 0 1 = cc in omega arith
  comes {b = b} {b' = b'} {r = r} t rules m (step {b₁ = b₁} {r₁ = r₁} {j = j} {n = n} {v = v} {s = s} p h e run) =
      let c = comes (replace h.old h.new t) rules (h.present t m) run in
      let is-n : s.equation ≡ n = cc in
      record {
        final = c.final;
        means = c.means;
        leads = steps (subst (λ x. Rewrites E x t (replace h.old h.new t)) (sym is-n) (step_rewrites E limit b b₁ r r₁ j n v t m p.reached h)) c.leads;
        normal = c.normal;
      }
