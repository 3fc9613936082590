-- The formulas are taken one after another.
use Rattle.std.proofs.Common.{◌≡◌, ℕ, ◌+◌, ◌<◌, ◌≤◌, Bool, true, false, List, [], ◌∷◌, ◌++◌, reverse, length, get_or, take, Some, None, sym, ap, ◌∙◌, subst, arith}
use Rattle.std.proofs.lemmas.List.{take_more, take_all, reverse-append}
use Rattle.terms.specs.declared.pattern.Pattern.{Pattern}
use Rattle.signature.specs.declared.signature.Signature.{Signature}
use Rattle.formula.specs.declared.equation.Equation.{Equation}
use Rattle.offers.specs.declared.Patterns.{Patterns}
use Rattle.offers.specs.Numbered.{Kept, Added}
use Rattle.offers.specs.Rules.{Higher, nothing, no_rule, taken, no_room, Held, left_out, Step}

pub added : (s : Signature) (e : Equation) (p : Pattern) (before after : Patterns) (r : Bool) → Higher s e (Some p) → ((ps : List Pattern) → Kept before ps → Added ps p after r) → Step s e before after r
added s e p before after r higher add es n h = go r (add h.patterns h.kept)
  where
    go : (r : Bool) → Added h.patterns p after r → Held s (e ∷ es) after (left_out r n)
    go true a = record { patterns = p ∷ h.patterns; gives = taken higher a.0 h.gives; kept = a.1 }
    go false a = record { patterns = h.patterns; gives = no_room higher a.0 h.gives; kept = a.1 }

pub passed : (s : Signature) (e : Equation) (stored : Patterns) → Higher s e None → Step s e stored stored true
passed s e stored none es n h = record { patterns = h.patterns; gives = no_rule none h.gives; kept = h.kept }

pub record Going (s : Signature) (es : List Equation) (stored : Patterns) (n k : ℕ) : Type 0 where
  pub few : n ≤ k
  pub held : Held s (reverse (take k es)) stored n

pub start : (s : Signature) (es : List Equation) (stored : Patterns) → Kept stored [] → Going s es stored 0 0
start s es stored k = record { few = omega arith; held = record { patterns = []; gives = nothing; kept = k } }

pub goes_on : {s : Signature} {es : List Equation} {stored after : Patterns} {n k : ℕ} (e : Equation) (r : Bool) → Going s es stored n k → k < length es → e ≡ get_or es k e → Step s e stored after r → Going s es after (left_out r n) (k + 1)
goes_on {s} {es} {stored} {after} {n} {k} e r g l is step = record {
  few = fewer r;
  held = subst (λ zs. Held s zs after (left_out r n)) (sym turned) (step (reverse (take k es)) n g.held);
}
  where
    fewer : (r : Bool) → left_out r n ≤ k + 1
    fewer true = omega (arith, g.few)
    fewer false = omega (arith, g.few)

    turned : reverse (take (k + 1) es) ≡ e ∷ reverse (take k es)
    turned = ap reverse (take_more es k e l ∙ ap (λ x. take k es ++ x ∷ []) (sym is)) ∙ reverse-append (take k es) (e ∷ [])

pub finished : {s : Signature} {es : List Equation} {stored : Patterns} {n k : ℕ} → Going s es stored n k → length es ≤ k → Held s (reverse es) stored n
finished {s} {es} {stored} {n} {k} g past = subst (λ zs. Held s (reverse zs) stored n) (take_all k es past) g.held
