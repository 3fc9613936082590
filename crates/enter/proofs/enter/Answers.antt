use Rattle.std.proofs.Common.{ℕ, List, [], take, Ok, Err, Result, refl, subst, inl, inr, arith}
use Rattle.std.proofs.lemmas.Bool.{false≢true}
use Rattle.refusal.specs.declared.Refusal.{Refusal}
use Rattle.terms.specs.Term.{var}
use Rattle.terms.specs.Patterns.{term_of}
use Rattle.terms.specs.declared.pattern.Pattern.{Pattern}
use Rattle.signature.specs.Signatures.{sig_of}
use Rattle.signature.specs.declared.signature.Signature.{Signature}
use Rattle.bank.specs.declared.cell.Cell.{Cell}
use Rattle.bank.specs.Checked.{Sized}
use Rattle.bank.specs.Bindings.{Binds}
use Rattle.enter.specs.Grown.{Grown}
use Rattle.enter.specs.Outcome.{Laid, Entered, Fits}
use Rattle.enter.proofs.Machining.{none_some}
use Rattle.enter.proofs.Rows.{sub_var}
use Rattle.enter.proofs.enter.Goals as goal

unbound : (b : List Cell) → Binds b [] var
unbound b = record { cell = λ x i e. absurd (none_some e); free = λ x e. refl }

entered : (s : Signature) (p : Pattern) (cells : List Cell) (n : ℕ) (cells' : List Cell) (n' : ℕ) (r : Result ℕ Refusal) → Sized cells → Fits s p cells n → Laid p [] cells n cells' n' r → Entered s p cells n cells' n' r
entered s p cells n cells' n' (Ok v) sized fits l =
    let law = l.2.law (sig_of s) var fits.0.rules fits.1 (unbound (take n cells)) in
    (sized, fits, l.2.within, l.2.enters, subst (λ t. Grown (sig_of s) (take n cells) t (take n' cells') v) (sub_var (term_of p)) law)
entered s p cells n cells' n' (Err e) sized fits (same, inl l) = absurd (l.0 sized)
entered s p cells n cells' n' (Err e) sized fits (same, inr (inl l)) = absurd (let z : ⊥ = omega (arith, l.1, fits.0.counted) in z)
entered s p cells n cells' n' (Err e) sized fits (same, inr (inr l)) = (same, inr (inr (sized, fits, l.2, l.3)))

pub returns-then-not-is_over : goal.returns-then-not-is_over
returns-then-not-is_over c =
    let sound = c.in_ok-keeps_rules.ensures in
    (refl, inr (inl (sound.sized, (λ fits. false≢true (c.if-not-is_over.ensures.1 fits.1)), refl, refl)))

pub returns : goal.returns
returns c =
    let sound = c.in_ok-keeps_rules.ensures in
    let over = c.if-not-is_over.ensures.0 refl in
    entered c.args.signature.now c.args.pattern.now c.args.cells.now c.args.count.now.len c.enter_instance.new.cells c.enter_instance.new.count.len c.enter_instance.result sound.sized (sound.keeps, over) c.enter_instance.ensures
