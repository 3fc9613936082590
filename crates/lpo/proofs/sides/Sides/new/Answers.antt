use Rattle.std.proofs.Common.{◌∙◌, refl, ap, length, arith}
use denote.Ref.{Bor}
use Rattle.subterms.specs.Rows.{row_of}
use Rattle.subterms.specs.declared.Subterms.{Subterms}
use Rattle.subterms.proofs.Patterns.{pattern_short}
use Rattle.lpo.proofs.Reading.{empty_rows}
use Rattle.lpo.proofs.sides.Sides.new.Goals as goal

pub invariant_of-sides : goal.invariant_of-sides
invariant_of-sides c = record { room = refl; wide = empty_rows }

pub loop-p-init : goal.loop-p-init
loop-p-init c = (refl, refl, λ i j hi hj l. absurd (omega (arith, hi, hj, l, ap length c.nodes-p.ensures, pattern_short c.args.lower.now.pattern)))

pub fill_row-requires : goal.fill_row-requires
fill_row-requires c =
    let inv = c.loop-p.invariant in
    (omega (arith, c.loop-p-test.true, c.loop-p.auto.p, ap length c.nodes-p.ensures, ap length inv.0), λ i j hi hj l. inv.2 i j hi hj (omega (arith, l, c.loop-p-test.true)))

pub loop-p-preserved : goal.loop-p-preserved
loop-p-preserved c =
    let inv = c.loop-p.invariant in
    let done = c.fill_row.ensures in
    (ap (λ (s : Bor Subterms). row_of s.now) done.upper ∙ inv.0, ap (λ (s : Bor Subterms). row_of s.now) done.lower ∙ inv.1, done.seen)
