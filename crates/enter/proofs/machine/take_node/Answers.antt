use Rattle.std.proofs.Common.{◌∷◌, [], length, take, Some, sym, ap, ◌∙◌, subst, arith}
use Rattle.std.proofs.lemmas.List.{length-append}
use Rattle.terms.specs.Preorder.{in_front}
use Rattle.row.specs.Items.{items}
use Rattle.enter.specs.Machine.{Turned, Waiting, opens, later}
use Rattle.enter.proofs.Machining.{taken, small_arity, var_wide, var_left, var_next, app_wide, app_left, chain_none}
use Rattle.enter.proofs.Noting.{grew_trans}
use Rattle.enter.proofs.machine.take_node.Goals as goal

pub with-requires : goal.with-requires
with-requires c = let waits = subst Waiting (taken c.args.waiting.now c.pop.new.self c.in-Some.open c.in-Some.ensures) c.requires.waits in omega (arith, waits.0, waits.1)

pub settle-requires : goal.settle-requires
settle-requires c =
    let grew = c.in_ok-cell-in-Var.ensures.grew in
    let waits = subst Waiting (taken c.args.waiting.now c.pop.new.self c.in-Some.open c.in-Some.ensures) c.requires.waits in
    let fewer = ap length c.in-Some.ensures ∙ length-append (items c.pop.new.self) (c.in-Some.open ∷ []) in
    record {
      counted = grew.within;
      few = omega (arith, grew.size, c.requires.few);
      sound = rw c.with.ensures (omega (arith, waits.0), waits.1, waits.2);
      room = omega (arith, fewer, c.requires.room);
    }

pub settle-requires-in-App : goal.settle-requires-in-App
settle-requires-in-App c = record {
  counted = c.requires.counted;
  few = c.requires.few;
  sound = rw c.new.ensures (omega arith, small_arity c.args.node c.in-App.symbol c.in-App.arity c.in-App.is c.requires.small, c.requires.waits);
  room = c.requires.room;
}

pub returns-in_err-cell-in-Var-clause-turned : goal.returns-in_err-cell-in-Var-clause-turned
returns-in_err-cell-in-Var-clause-turned c = rw c.from_residual.ensures (λ ts us e w.
    var_left _ _ _ c.requires.waits ts us w _ c.in-Var.x (ap (λ n. in_front n (Some us)) (sym c.in-Var.is) ∙ e) ∙ chain_none _ _ c.in_err-cell-in-Var.ensures.gives)

pub returns-in-Some-clause-turned : goal.returns-in-Some-clause-turned
returns-in-Some-clause-turned c ts us e w =
    let m = length c.args.cells.now in
    let bindings = c.args.bindings.now in
    let os = opens c.args.waiting.now in
    let b = take c.args.count.now.len c.args.cells.now in
    let x = c.in-Var.x in
    let v = c.in_ok-cell-in-Var.cell in
    let front = ap (λ n. in_front n (Some us)) (sym c.in-Var.is) ∙ e in
    let is = taken c.args.waiting.now c.pop.new.self c.in-Some.open c.in-Some.ensures in
    let told = c.in_ok-cell-in-Var.ensures in
    let wide = var_wide m bindings os c.requires.waits ts us w b x front ∙ ap later is in
    let same = var_next m bindings os c.requires.waits ts us w b x front (length c.variable.new.cells) c.in-Some.open (opens c.pop.new.self) (take c.variable.new.count.len c.variable.new.cells) v is told.grew.size told.gives in
    subst (λ z. Turned z bindings (opens c.settle.new.waiting) us c.settle.new.cells c.settle.new.count.len c.settle.result) (sym same) ((rw c.with.ensures at c.settle.ensures.turned) bindings us wide)

pub returns-in-Some-clause-grew : goal.returns-in-Some-clause-grew
returns-in-Some-clause-grew c = grew_trans c.in_ok-cell-in-Var.ensures.grew c.settle.ensures.grew

pub returns-in-App-clause-turned : goal.returns-in-App-clause-turned
returns-in-App-clause-turned c ts us e w =
    let m = length c.args.cells.now in
    let bindings = c.args.bindings.now in
    let os = opens c.args.waiting.now in
    let b = take c.args.count.now.len c.args.cells.now in
    let f = c.in-App.symbol in
    let a = c.in-App.arity in
    let front = ap (λ n. in_front n (Some us)) (sym c.in-App.is) ∙ e in
    let wide = app_wide m bindings os c.requires.waits ts us w b f a front in
    let same = app_left m bindings os c.requires.waits ts us w b f a front in
    subst (λ z. Turned z bindings (opens c.settle-in-App.new.waiting) us c.settle-in-App.new.cells c.settle-in-App.new.count.len c.settle-in-App.result) (sym same) ((rw c.new.ensures at c.settle-in-App.ensures.turned) bindings us wide)
