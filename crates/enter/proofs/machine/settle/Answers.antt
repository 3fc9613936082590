use Rattle.std.proofs.Common.{◌∷◌, [], length, Some, None, refl, sym, ap, ◌∙◌, subst, arith}
use Rattle.std.proofs.lemmas.List.{length-append}
use Rattle.bank.specs.declared.cell.Cell.TheVariants.{App}
use Rattle.row.specs.Items.{items}
use Rattle.enter.specs.Machine.{Waiting, opens, later}
use Rattle.enter.proofs.Machining.{taken, put_on, none_waits, unsettled, next_settled, last_settled, was_err, was_ok}
use Rattle.enter.proofs.Noting.{put_gives, put_grew, grew_same, grew_trans}
use Rattle.enter.proofs.machine.settle.Goals as goal

pub loop-open-init : goal.loop-open-init
loop-open-init c = (c.requires.sound, refl, omega arith, grew_same c.requires.counted refl refl, λ bindings ts. refl)

pub put-requires : goal.put-requires
put-requires c = let grew = c.loop-open.invariant.3 in record { counted = grew.within; few = omega (arith, grew.size, c.requires.few) }

pub returns-in_err-cell : goal.returns-in_err-cell
returns-in_err-cell c =
    let inv = c.loop-open.invariant in
    let o = c.loop-open.open in
    let grown = put_grew c.loop-open.cells c.put.new.cells c.loop-open.count.len c.put.new.count.len (App o.symbol o.arity o.args) None inv.3.within c.in_err-cell.ensures in
    let gives = put_gives c.loop-open.cells c.put.new.cells c.loop-open.count.len c.put.new.count.len (App o.symbol o.arity o.args) None inv.3.within c.in_err-cell.ensures in
    rw c.from_residual.ensures record {
      turned = λ bindings ts w. inv.4 bindings ts ∙ unsettled _ bindings o (opens c.loop-open.waiting) ts _ c.loop-open-test.true gives;
      deeper = omega (arith, inv.2);
      grew = grew_trans inv.3 grown;
    }

pub with-open-requires : goal.with-open-requires
with-open-requires c =
    let waits = subst Waiting (taken c.loop-open.waiting c.pop.new.self c.in-Some.next c.in-Some.ensures) c.loop-open.invariant.0.2 in
    omega (arith, waits.0, waits.1)

pub loop-open-preserved : goal.loop-open-preserved
loop-open-preserved c =
    let inv = c.loop-open.invariant in
    let o = c.loop-open.open in
    let next = c.in-Some.next in
    let v = c.in_ok-cell.cell in
    let is = taken c.loop-open.waiting c.pop.new.self next c.in-Some.ensures in
    let waits = subst Waiting is inv.0.2 in
    let grown = put_grew c.loop-open.cells c.put.new.cells c.loop-open.count.len c.put.new.count.len (App o.symbol o.arity o.args) (Some v) inv.3.within c.in_ok-cell.ensures in
    let gives = put_gives c.loop-open.cells c.put.new.cells c.loop-open.count.len c.put.new.count.len (App o.symbol o.arity o.args) (Some v) inv.3.within c.in_ok-cell.ensures in
    rw c.with-open.ensures (
      (omega (arith, waits.0), waits.1, waits.2),
      omega (arith, inv.1, c.loop-open-test.true, ap later is),
      omega (arith, inv.2, ap length c.in-Some.ensures, length-append (items c.pop.new.self) (next ∷ [])),
      grew_trans inv.3 grown,
      λ bindings ts. inv.4 bindings ts ∙ next_settled _ _ bindings o next _ _ ts _ _ v c.loop-open-test.true is grown.size gives,
    )

pub loop-open-smaller : goal.loop-open-smaller
loop-open-smaller c = omega (arith, ap length c.in-Some.ensures, length-append (items c.pop.new.self) (c.in-Some.next ∷ []))

pub returns-in-None : goal.returns-in-None
returns-in-None c =
    let inv = c.loop-open.invariant in
    let o = c.loop-open.open in
    let v = c.in_ok-cell.cell in
    let grown = put_grew c.loop-open.cells c.put.new.cells c.loop-open.count.len c.put.new.count.len (App o.symbol o.arity o.args) (Some v) inv.3.within c.in_ok-cell.ensures in
    let gives = put_gives c.loop-open.cells c.put.new.cells c.loop-open.count.len c.put.new.count.len (App o.symbol o.arity o.args) (Some v) inv.3.within c.in_ok-cell.ensures in
    record {
      turned = λ bindings ts w. inv.4 bindings ts ∙ last_settled _ bindings o _ ts _ _ v c.loop-open-test.true (none_waits c.loop-open.waiting c.in-None.ensures.0) gives;
      deeper = omega (arith, inv.2, ap (λ r. length (items r)) c.in-None.ensures.1);
      grew = grew_trans inv.3 grown;
    }

pub returns-in_err-ok : goal.returns-in_err-ok
returns-in_err-ok c =
    let full = was_err _ _ c.push.result c.ok.result c.ok.ensures.value c.in_err-ok.was c.push.ensures in
    absurd (omega (arith, full.0, c.loop-open.invariant.2, c.requires.room))

pub returns : goal.returns
returns c =
    let inv = c.loop-open.invariant in
    let o = c.loop-open.open in
    let fits = was_ok _ _ c.push.result c.ok.result _ c.ok.ensures.value c.in_ok-ok.was c.push.ensures in
    let is = put_on c.loop-open.waiting c.push.new.self o fits.1 in
    record {
      turned = λ bindings ts w. rw is ((omega (arith, inv.0.0, c.loop-open-test.false), inv.0.1, inv.0.2), w ∙ sym inv.1, inv.4 bindings ts);
      deeper = omega (arith, inv.2, ap length fits.1, length-append (items c.loop-open.waiting) (o ∷ []));
      grew = inv.3;
    }
