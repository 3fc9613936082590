use Rattle.std.proofs.Common.{inl, inr, arith}
use Rattle.strategy.proofs.Searching.{starts, unreached, known, settles, picks, ends}
use Rattle.strategy.proofs.next_redex.Goals as goal
use Rattle.strategy.proofs.next_redex.Goals.{then-marks-k+then-not-settled-k+in_default, else-marks-k, else-marks-k-via-then-marks-k+else-not-settled-k, else-marks-k-via-else-marks-k}

pub returns-then-root-bank : goal.returns-then-root-bank
returns-then-root-bank g c S h marked room decided settled = absurd (elim c.then-root-bank.either [
  | inl q ↦ omega (arith, q, h.within)
  | inr o ↦ elim o [ inl q ↦ omega (arith, q, marked) | inr q ↦ omega (arith, q, room) ]
])

pub loop-k-init : goal.loop-k-init
loop-k-init g c = starts _ _ _ _ _

pub returns-in-Some : goal.returns-in-Some
returns-in-Some g c S h marked room decided settled =
    picks _ _ _ _ _ c.loop-k.k c.loop-k.settled c.loop-k.invariant (omega (arith, c.loop-k-test.true)) _ c.if-marks-k.true c.in-Some.ensures S (record { searchable = h; marked = decided; before = settled })

pub loop-k-preserved : goal.loop-k-preserved
loop-k-preserved g c = elim c.if-marks-k.branch [
  | then-marks-k+then-not-settled-k+in_default w ↦ rw w.settled-is (settles _ _ _ _ _ c.loop-k.k c.loop-k.settled c.loop-k.invariant (omega (arith, c.loop-k-test.true)) (omega (arith, c.loop-k.auto.settled, c.if-root-settled.false, c.loop-k-test.true)) w.in_default.ensures)
  | else-marks-k w ↦ rw w.settled-is (elim w.else-marks-k.branch [
    | else-marks-k-via-then-marks-k+else-not-settled-k v ↦ known _ _ _ _ _ c.loop-k.k c.loop-k.settled c.loop-k.invariant v.if-not-settled-k.false
    | else-marks-k-via-else-marks-k v ↦ unreached _ _ _ _ _ c.loop-k.k c.loop-k.settled c.loop-k.invariant v.if-marks-k.false
  ])
]

pub returns : goal.returns
returns g c S h marked room decided settled =
    ends _ _ _ _ _ c.loop-k.k c.loop-k.settled c.loop-k.invariant (omega (arith, c.loop-k-test.false, c.loop-k.auto.k-end)) S (record { searchable = h; marked = decided; before = settled })
