use Rattle.std.proofs.Common.{◌≡◌, ℕ, ◌+◌, ◌-◌, ◌<◌, ◌≤◌, length, sym, ap, ◌∙◌, arith}
use Rattle.terms.specs.Term.{Terms, width, ◌▹◌}
use Rattle.subterms.specs.Places.{from, at}
use Rattle.subterms.proofs.Preorders.{rest}
use Rattle.subterms.proofs.Places.{from_next, width_from, walk_rest, walk_width, ends_here}
use Rattle.subterms.proofs.methods.end.Goals as goal
use Rattle.subterms.proofs.methods.end.Goals.{After-arity}

pub loop-i-init : goal.loop-i-init
loop-i-init c h =
    let ns = c.args.row.now in
    let e = from_next ns c.requires c.args.p h in
    (omega (arith, ap width e), e ∙ ap (λ (ts : Terms). at ns c.args.p ▹ ts) (sym (ap (rest 1) e)))

pub returns-then-open-eq0 : goal.returns-then-open-eq0
returns-then-open-eq0 c h =
    let ns = c.args.row.now in
    let is = (c.loop-i.invariant h).1 ∙ ap (λ (k : ℕ). at ns c.args.p ▹ rest k (from ns c.loop-i.i)) c.if-open-eq0.true in
    ends_here ns c.requires c.args.p c.loop-i.i h (omega arith) is

-- a node on: the loop has a turn only where the subterm is inside
inside : (c : After-arity) → c.args.p < length c.args.row.now
inside c = omega arith

open_after : (c : After-arity) → c.loop-i.open - 1 + c.arity.result ≤ width (from c.args.row.now (c.loop-i.i + 1))
open_after c = omega (arith, walk_width c.args.row.now c.requires c.loop-i.i c.loop-i.open (omega arith) (omega arith) (c.loop-i.invariant (inside c)).0, c.arity.ensures)

pub overflow_add-open : goal.overflow_add-open
overflow_add-open c = omega (arith, open_after c, width_from c.args.row.now c.requires (c.loop-i.i + 1))

pub loop-i-preserved : goal.loop-i-preserved
loop-i-preserved c h =
    let ns = c.args.row.now in
    let i = c.loop-i.i in
    let step = walk_rest ns c.requires i c.loop-i.open (omega arith) (omega arith) in
    let opened = ap (λ (k : ℕ). rest (c.loop-i.open - 1 + k) (from ns (i + 1))) (sym c.arity.ensures) in
    (open_after c, (c.loop-i.invariant h).1 ∙ ap (λ (ts : Terms). at ns c.args.p ▹ ts) (step ∙ opened))

pub returns : goal.returns
returns c h =
    let ns = c.args.row.now in
    let end : c.loop-i.i ≡ length ns = omega arith in
    let inv = rw end at (c.loop-i.invariant h) in
    let none : c.loop-i.open ≡ 0 = omega (arith, width_from ns c.requires (length ns), inv.0) in
    ends_here ns c.requires c.args.p (length ns) h (omega arith) (inv.1 ∙ ap (λ (k : ℕ). at ns c.args.p ▹ rest k (from ns (length ns))) none)
