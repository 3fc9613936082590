use Rattle.std.proofs.Common.{◌≡◌, ◌+◌, ◌<◌, ℕ, List, ◌∷◌, [], length, get_or, take, Option, Some, None, Result, Ok, Err, MatchResult, sym, ap, ◌∙◌, subst, arith, rules}
use Rattle.std.specs.Result.{result_ok}
use Rattle.std.proofs.lemmas.Bool.{ltb-true, ltb-false}
use Rattle.std.proofs.lemmas.List.{get_or_default, length-append, length-take-le}
use Rattle.terms.specs.declared.pattern.Node.{Node}
use Rattle.terms.specs.declared.pattern.Node.TheVariants as node
use Rattle.bank.specs.declared.cell.Cell.{Cell}
use Rattle.bank.specs.declared.cell.Cell.TheVariants.{Var, App}
use Rattle.subterms.specs.Places.{arguments}
use Rattle.row.specs.Items.{items}
use Rattle.matching.specs.Solving.{Met, Placed, pending}
use Rattle.matching.proofs.Turns.{taken, put, few, met_outside, met_var, met_other, met_app, met_unlike}
use Rattle.matching.proofs.meet.meet.Goals as goal

pub returns-in_err-cell : goal.returns-in_err-cell
returns-in_err-cell c =
    let js = pending c.args.pending.now in
    let ks = pending c.pop.new.self in
    let peeled : js ≡ c.in_ok-next.next ∷ ks = taken c.args.pending.now c.pop.new.self c.in_ok-next.next c.in_ok-next.ensures in
    let past = ltb-false _ _ (sym c.in_err-cell.ensures.lookup.0) in
    rw c.from_residual-in_err-cell.ensures (met_outside c.args.bank.now c.args.bindings.now c.args.bindings.now js ks c.in_ok-next.next peeled ks c.args.node (omega (arith, past, c.from.ensures)))

pub returns-in_err-args-in-App : goal.returns-in_err-args-in-App
returns-in_err-args-in-App c =
    let js = pending c.args.pending.now in
    let ks = pending c.pop.new.self in
    let peeled : js ≡ c.in_ok-next.next ∷ ks = taken c.args.pending.now c.pop.new.self c.in_ok-next.next c.in_ok-next.ensures in
    let b = c.args.bank.now in
    let inside = ltb-true _ _ (sym c.in_ok-cell.ensures.lookup.0) in
    let read = c.in_ok-cell.ensures.lookup.1 ∙ get_or_default b c.from.result c.in_ok-cell.cell.now (Var 0) inside in
    rw c.from_residual-in_err-args-in-App.ensures (met_unlike b c.args.bindings.now c.args.bindings.now js ks c.in_ok-next.next peeled ks c.args.node c.in-App.symbol c.in-App.arity c.in-App.is (λ args e. c.in_err-args-in-App.ensures args (read ∙ ap (λ i. get_or b i (Var 0)) c.from.ensures ∙ e)))

-- the binding of a variable
bound : (b : List Cell) (θ θ' : List (Option ℕ)) (js ks : List ℕ) (j : ℕ) (peeled : js ≡ j ∷ ks) (n : Node) (x : ℕ) → n ≡ node.Var x → j < length b → x < length θ → (o : Option (Unit {0})) → Placed θ x j θ' o → Met b n θ js θ' ks o
bound b θ θ' js ks j peeled n x is l lx None p = met_other b θ θ' js ks j peeled ks n x is p
bound b θ θ' js ks j peeled n x is l lx (Some u) p = met_var b θ θ' js ks j peeled n x u is l lx p

pub returns-in-Var : goal.returns-in-Var
returns-in-Var c =
    let js = pending c.args.pending.now in
    let ks = pending c.pop.new.self in
    let peeled : js ≡ c.in_ok-next.next ∷ ks = taken c.args.pending.now c.pop.new.self c.in_ok-next.next c.in_ok-next.ensures in
    let inside = ltb-true _ _ (sym c.in_ok-cell.ensures.lookup.0) in
    bound c.args.bank.now c.args.bindings.now c.place.new.bindings js ks c.in_ok-next.next peeled c.args.node c.in-Var.x c.in-Var.is (omega (arith, inside, c.from.ensures)) (search rules) _ c.place.ensures

-- there is room for the arguments
room : {E : Type 0} (M : Option (Unit {0}) → Type 0) (P Q : Type 0) (r : Result (Unit {0}) E) (o : Option (Unit {0})) → o ≡ result_ok r → MatchResult r (λ _. P) (λ _. Q) → (Q → ⊥) → (P → M (Some tt)) → M o
room M P Q (Ok u) o e h full free = subst M (sym e) (free h)
room M P Q (Err x) o e h full free = absurd (full h)

pub returns-in_ok-args-in-App : goal.returns-in_ok-args-in-App
returns-in_ok-args-in-App c =
    let js = pending c.args.pending.now in
    let ks = pending c.pop.new.self in
    let peeled : js ≡ c.in_ok-next.next ∷ ks = taken c.args.pending.now c.pop.new.self c.in_ok-next.next c.in_ok-next.ensures in
    let b = c.args.bank.now in
    let a = c.in-App.arity in
    let args = c.in_ok-args-in-App.args in
    let inside = ltb-true _ _ (sym c.in_ok-cell.ensures.lookup.0) in
    let read : get_or b c.in_ok-next.next (Var 0) ≡ App c.in-App.symbol a args = ap (λ i. get_or b i (Var 0)) (sym c.from.ensures) ∙ sym (c.in_ok-cell.ensures.lookup.1 ∙ get_or_default b c.from.result c.in_ok-cell.cell.now (Var 0) inside) ∙ c.in_ok-args-in-App.ensures in
    let four : length args ≡ 4 = search rules in
    let long : length (take a args) ≡ a = length-take-le a args (omega (arith, four, few c.args.node c.in-App.symbol a c.in-App.is c.requires.small)) in
    let more : length (take c.from-in-App.result args) ≡ a = ap (λ (k : ℕ). length (take k args)) c.from-in-App.ensures ∙ long in
    let old : length (items c.args.pending.now) ≡ length (items c.pop.new.self) + 1 = ap length c.in_ok-next.ensures ∙ length-append (items c.pop.new.self) (c.in_ok-next.next ∷ []) in
    room (Met b c.args.node c.args.bindings.now js c.args.bindings.now (pending c.push_reversed.new.self)) _ _ _ _ c.ok.ensures.value c.push_reversed.ensures
    (λ h. omega (arith, h.0, more, old, c.requires.fits, ap arguments c.in-App.is))
    (λ h. met_app b c.args.bindings.now c.args.bindings.now js ks c.in_ok-next.next peeled _ c.args.node c.in-App.symbol a args tt c.in-App.is (omega (arith, inside, c.from.ensures)) read long (put c.pop.new.self c.push_reversed.new.self c.from-in-App.result a args c.from-in-App.ensures h.1))
