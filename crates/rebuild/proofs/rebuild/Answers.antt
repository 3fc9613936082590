use Rattle.std.proofs.Common.{◌≡◌, None, refl, inl, inr, arith, rules}
use Rattle.enter.proofs.Noting.{grew_same, grew_trans}
use Rattle.rebuild.proofs.Looping.{begins, next, crowds, done, root_counted}
use Rattle.rebuild.proofs.rebuild.Goals as goal

pub returns-then-start-cells : goal.returns-then-start-cells
returns-then-start-cells c = record {
  grew = λ h. grew_same h refl refl;
  does = λ counted few marked room S b old new ready. absurd (elim c.then-start-cells.either [
    | inl h ↦ omega (arith, h, counted)
    | inr o ↦ elim o [
      | inl h ↦ let low = root_counted _ _ _ _ _ _ _ _ _ _ counted ready in omega (arith, low, h)
      | inr h ↦ omega (arith, h, few)
    ]
  ]);
}

pub returns-then-root-marks : goal.returns-then-root-marks
returns-then-root-marks c = record {
  grew = λ h. grew_same h refl refl;
  does = λ counted few marked room S b old new ready. absurd (elim c.then-root-marks.either [ inl h ↦ omega (arith, h, marked) | inr h ↦ omega (arith, h, room) ]);
}

pub loop-k-init : goal.loop-k-init
loop-k-init c = begins _ _ _ _ _ _ c.if-start-cells.false _

pub form-requires : goal.form-requires
form-requires c =
    let g = c.loop-k.invariant.grew in
    record { counted = g.within; few = omega (arith, g.size, c.if-cells-gt2048.false); within = omega (arith, g.up, c.loop-k-test.true, c.if-root-start.false); marked = omega (arith, c.loop-k-test.true, c.if-root-marks.false) }

pub returns-in_err-forms : goal.returns-in_err-forms
returns-in_err-forms c = record {
  grew = λ h. grew_trans c.loop-k.invariant.grew c.form.ensures.grew;
  does = λ counted few marked room S b old new ready.
      let none : c.from_residual.result ≡ None = search rules in
      rw none (crowds _ _ _ _ _ _ c.if-start-cells.false c.loop-k.cells c.loop-k.count.len c.loop-k.forms c.loop-k.k c.loop-k.invariant (omega (arith, c.loop-k-test.true)) (omega (arith, c.loop-k.invariant.grew.up, c.loop-k-test.true, c.if-root-start.false)) S b old new ready _ _ c.in_err-forms.ensures.does);
}

pub loop-k-preserved : goal.loop-k-preserved
loop-k-preserved c =
    next _ _ _ _ _ _ c.if-start-cells.false c.loop-k.cells c.loop-k.count.len c.loop-k.forms c.loop-k.k c.loop-k.invariant (omega (arith, c.loop-k-test.true)) (omega (arith, c.loop-k.invariant.grew.up, c.loop-k-test.true, c.if-root-start.false)) _ _ _ (omega (arith, c.loop-k.auto.forms, c.if-root-forms.false, c.loop-k-test.true)) c.form.ensures.grew c.in_ok-forms.ensures.does

pub returns : goal.returns
returns c = record {
  grew = λ h. c.loop-k.invariant.grew;
  does = done _ _ _ _ _ _ c.if-start-cells.false _ _ _ c.loop-k.k _ c.loop-k.invariant (omega (arith, c.loop-k-test.false, c.loop-k.auto.k-end));
}
