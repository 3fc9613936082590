use Rattle.std.proofs.Common.{◌<◌, length, get_or, reverse, sym, ap, subst, arith}
use Rattle.std.proofs.lemmas.List.{length-reverse}
use Rattle.terms.specs.Patterns.{nodes_of}
use Rattle.terms.specs.declared.pattern.Node.TheVariants.{Var}
use Rattle.row.specs.Items.{items}
use Rattle.matching.specs.Matched.{Matched}
use Rattle.matching.specs.Solving.{pending}
use Rattle.matching.proofs.Going.{start, fits, small_node, again, ended, finished}
use Rattle.matching.proofs.match_cell.Goals as goal

pub loop-node-init : goal.loop-node-init
loop-node-init c = start c.args.bank.now c.args.pattern.now c.args.cell _ (ap reverse c.front-pending.ensures)

pub meet-requires : goal.meet-requires
meet-requires c =
    let g = c.loop-node.invariant in
    let n = get_or c.nodes-node-items.result.now c.loop-node.node-index (Var 0) in
    let l : c.loop-node.node-index < length (nodes_of c.args.pattern.now) = omega (arith, ap length c.nodes-node-items.ensures) in
    let is = ap (λ ns. get_or ns c.loop-node.node-index (Var 0)) (sym c.nodes-node-items.ensures) in
    record { fits = omega (arith, fits g n l is, length-reverse (items c.loop-node.pending)); slots = g.slots; small = small_node g n l is }

pub loop-node-preserved : goal.loop-node-preserved
loop-node-preserved c =
    let n = get_or c.nodes-node-items.result.now c.loop-node.node-index (Var 0) in
    let l : c.loop-node.node-index < length (nodes_of c.args.pattern.now) = omega (arith, ap length c.nodes-node-items.ensures) in
    let is = ap (λ ns. get_or ns c.loop-node.node-index (Var 0)) (sym c.nodes-node-items.ensures) in
    again c.loop-node.invariant n l is c.meet.new.bindings _ _ c.meet.auto.bindings c.in_ok-meet.ensures

pub returns-in_err-meet : goal.returns-in_err-meet
returns-in_err-meet c =
    let n = get_or c.nodes-node-items.result.now c.loop-node.node-index (Var 0) in
    let l : c.loop-node.node-index < length (nodes_of c.args.pattern.now) = omega (arith, ap length c.nodes-node-items.ensures) in
    let is = ap (λ ns. get_or ns c.loop-node.node-index (Var 0)) (sym c.nodes-node-items.ensures) in
    subst (Matched c.args.bank.now c.args.pattern.now c.args.cell) (sym c.from_residual.ensures)
    (ended c.loop-node.invariant n l is c.meet.new.bindings (pending c.meet.new.pending) c.in_err-meet.ensures)

pub returns : goal.returns
returns c = finished c.loop-node.invariant (omega (arith, ap length c.nodes-node-items.ensures))
