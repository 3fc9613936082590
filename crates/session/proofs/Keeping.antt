-- The file's equations stay over the signature, and turned.
use Rattle.std.proofs.Common.{◌≡◌, ℕ, true, false, cond, eqb, List, Some, None, Ok, sym, ◌∙◌, subst, inl, inr, arith}
use Rattle.terms.specs.Term.{Term}
use Rattle.terms.specs.Sig.{Over}
use Rattle.terms.specs.Patterns.{term_of}
use Rattle.signature.specs.Signatures.{sig_of}
use Rattle.signature.specs.declared.signature.Signature.{Signature}
use Rattle.formula.specs.Outcomes.{Outcome, read}
use Rattle.formula.specs.declared.equation.Equation.{Equation}
use Rattle.index.specs.Maps.{Same, put, without}
use Rattle.reduction.specs.declared.oriented.Oriented.{Oriented}
use Rattle.reduction.specs.Redexes.{Equations}
use Rattle.session.specs.Rules.{Orients}
use Rattle.session.specs.Kept.{Ordered}

abbrev pub AllOrdered : (g : Signature) (above : Term → Term → Type 0) → Equations → Type 0
AllOrdered g above E = (n : ℕ) (e : Oriented) → E n ≡ Some e → Ordered g above e

read_over : {g : Signature} {text : List ℕ} {q : Equation} → Outcome g text (Ok q) → Over (sig_of g) (term_of q.left) × Over (sig_of g) (term_of q.right)
read_over (read x c p u r) = (r.left_over, r.right_over)

pub ordered : (g : Signature) (above : Term → Term → Type 0) (text : List ℕ) (q : Equation) (e : Oriented) → Outcome g text (Ok q) → Orients above q e → Ordered g above e
ordered g above text q e o (inl is, a) = let h = read_over o in
    record { higher_over = subst (λ z. Over (sig_of g) (term_of z.higher)) (sym is) h.0; lower_over = subst (λ z. Over (sig_of g) (term_of z.lower)) (sym is) h.1; turned = a }
ordered g above text q e o (inr is, a) = let h = read_over o in
    record { higher_over = subst (λ z. Over (sig_of g) (term_of z.higher)) (sym is) h.1; lower_over = subst (λ z. Over (sig_of g) (term_of z.lower)) (sym is) h.0; turned = a }

some_eq : {e e' : Oriented} → Some e ≡ Some e' → e ≡ e'
some_eq h = cc

none≢some : {e : Oriented} → None ≡ Some e → ⊥
none≢some h = let z : ◌≡◌ {A = ℕ} 0 1 = cc in omega arith

pub ordered_same : (g : Signature) (above : Term → Term → Type 0) (E E' : Equations) → AllOrdered g above E → Same E E' → AllOrdered g above E'
ordered_same g above E E' all s n e h = all n e (sym (s n) ∙ h)

pub ordered_put : (g : Signature) (above : Term → Term → Type 0) (E E' : Equations) (n : ℕ) (e : Oriented) → AllOrdered g above E → Ordered g above e → Same (put E n e) E' → AllOrdered g above E'
ordered_put g above E E' n e all o s = ordered_same g above (put E n e) E' here s
  where
    here : AllOrdered g above (put E n e)
    here k e' = elim (eqb k n) as (λ b. cond b (Some e) (E k) ≡ Some e' → Ordered g above e') [ true ↦ λ h. subst (Ordered g above) (some_eq h) o | false ↦ λ h. all k e' h ]

pub ordered_without : (g : Signature) (above : Term → Term → Type 0) (E E' : Equations) (n : ℕ) → AllOrdered g above E → Same (without E n) E' → AllOrdered g above E'
ordered_without g above E E' n all s = ordered_same g above (without E n) E' here s
  where
    here : AllOrdered g above (without E n)
    here k e' = elim (eqb k n) as (λ b. cond b None (E k) ≡ Some e' → Ordered g above e') [ true ↦ λ h. absurd (none≢some h) | false ↦ λ h. all k e' h ]
