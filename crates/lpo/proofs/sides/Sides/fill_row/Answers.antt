use Rattle.std.proofs.Common.{◌-◌, refl, ap, length, arith}
use denote.Ref.{Bor}
use Rattle.subterms.specs.Rows.{row_of}
use Rattle.subterms.specs.declared.Subterms.{Subterms}
use Rattle.subterms.proofs.Patterns.{pattern_short}
use Rattle.lpo.specs.Seen.{Ready}
use Rattle.lpo.proofs.Reading.{seen_more}
use Rattle.lpo.proofs.sides.Sides.fill_row.Goals as goal
use Rattle.lpo.proofs.sides.Sides.fill_row.Goals.{In-loop-q}

pub loop-q-init : goal.loop-q-init
loop-q-init c = (refl, refl, λ i j hi hj l. c.requires.1 i j hi hj (omega (arith, l, hj, ap length c.nodes-q.ensures, pattern_short c.args.self.now.lower.now.pattern)))

-- all later pairs are seen
ready : (c : In-loop-q) → Ready c.loop-q.self c.args.p (c.loop-q.q - 1)
ready c =
    let inv = c.loop-q.invariant in
    record {
      in_upper = omega (arith, c.requires.0, ap (λ (s : Bor Subterms). length (row_of s.now)) inv.0);
      in_lower = omega (arith, c.loop-q-test.true, c.loop-q.auto.q, ap length c.nodes-q.ensures, ap (λ (s : Bor Subterms). length (row_of s.now)) inv.1);
      later = λ i j hi hj l. inv.2 i j hi hj (omega (arith, l, c.loop-q-test.true));
    }

pub compare-requires : goal.compare-requires
compare-requires c = ready c

pub loop-q-preserved : goal.loop-q-preserved
loop-q-preserved c =
    let r = ready (goal.at.loop-q-preserved c).In-loop-q in
    let inv = c.loop-q.invariant in
    (inv.0, inv.1, λ i j hi hj l. seen_more c.loop-q.self c.args.p (c.loop-q.q - 1) c.compare.result r.in_upper r.in_lower r.later c.compare.ensures i j hi hj l)
