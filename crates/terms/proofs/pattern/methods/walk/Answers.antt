use Rattle.std.proofs.Common.{◌+◌, ◌-◌, length, drop, ap, ◌∙◌, inl, inr, arith}
use Rattle.std.proofs.lemmas.Bool.{and_from, and_left}
use Rattle.std.proofs.lemmas.Iterator.Adapters.{YieldsList-from_rev_slice}
use Rattle.std.proofs.lemmas.Iterator.Consumers.{YieldsList-turn}
use Rattle.std.proofs.lemmas.List.{length_push}
use Rattle.terms.specs.Preorder.{all_small, small}
use Rattle.terms.proofs.Rows.{in_front_of, reads_node, too_few, row_none, large_later}
use Rattle.terms.proofs.pattern.methods.walk.Goals as goal

pub returns-then-not-is_small : goal.returns-then-not-is_small
returns-then-not-is_small c =
    let ns = c.args.nodes.now in
    let k = length c.loop-node.yielded in
    let n = c.in-Some.node.now in
    let t = YieldsList-turn (YieldsList-from_rev_slice ns (cc)) c.loop-node.yielded _ c.loop-node.yielded_by _ _ c.in-Some.node c.in-Some.is c.next.ensures.steps in
    let e = in_front_of ns k n t in
    inr (large_later ns (length ns - (k + 1)) (rw e (and_left (small n) (all_small (drop (length ns - k) ns)) (cc))))

pub returns-in_err-depth : goal.returns-in_err-depth
returns-in_err-depth c =
    let ns = c.args.nodes.now in
    let k = length c.loop-node.yielded in
    let n = c.in-Some.node.now in
    let t = YieldsList-turn (YieldsList-from_rev_slice ns (cc)) c.loop-node.yielded _ c.loop-node.yielded_by _ _ c.in-Some.node c.in-Some.is c.next.ensures.steps in
    let e = in_front_of ns k n t in
    rw c.from_residual.ensures (inl (row_none ns (length ns - (k + 1)) (rw e (too_few n (drop (length ns - k) ns) c.loop-node.depth c.loop-node.invariant.reads (rw c.arity.ensures at c.in_err-depth.ensures)))))

pub loop-node-preserved : goal.loop-node-preserved
loop-node-preserved c =
    let ns = c.args.nodes.now in
    let k = length c.loop-node.yielded in
    let n = c.in-Some.node.now in
    let t = YieldsList-turn (YieldsList-from_rev_slice ns (cc)) c.loop-node.yielded _ c.loop-node.yielded_by _ _ c.in-Some.node c.in-Some.is c.next.ensures.steps in
    let e = in_front_of ns k n t in
    let p = length_push c.loop-node.yielded c.in-Some.node in
    let s = c.in_ok-depth.ensures.1 ∙ ap (λ a. c.loop-node.depth - a) c.arity.ensures in
    record {
      deep = omega (arith, c.loop-node.invariant.deep, s);
      small = rw (p, e) (and_from (small n) (all_small (drop (length ns - k) ns)) (cc) c.loop-node.invariant.small);
      reads = rw (p, e, s) (reads_node n (drop (length ns - k) ns) c.loop-node.depth c.loop-node.invariant.reads (rw c.arity.ensures at c.in_ok-depth.ensures.0));
    }
