use Rattle.std.proofs.Common.{◌+◌, ◌<◌, length, take, refl, sym, ap, ◌∙◌, arith}
use Rattle.terms.proofs.Rows.{small_at}
use Rattle.enter.specs.Machine.{opens, onward}
use Rattle.enter.proofs.Machining.{none_waits, whole_reads, forest_is, front_of, node_left}
use Rattle.enter.proofs.Noting.{grew_same, grew_trans}
use Rattle.enter.proofs.machine.run.Goals as goal

pub loop-node-init : goal.loop-node-init
loop-node-init c =
    let none = none_waits c.new-waiting.result c.new-waiting.ensures in
    (rw none tt, rw none (whole_reads c.args.nodes.now c.requires.one), omega (arith, ap length c.new-waiting.ensures, c.requires.short), grew_same c.requires.counted refl refl, rw none refl)

pub take_node-requires : goal.take_node-requires
take_node-requires c =
    let inv = c.loop-node.invariant in
    let i = c.loop-node.node-index in
    let l : i < length c.args.nodes.now = omega arith in
    record {
      counted = inv.3.within;
      few = omega (arith, inv.3.size, c.requires.few);
      small = small_at c.args.nodes.now i c.requires.small l;
      waits = inv.0;
      room = omega (arith, inv.2, l);
    }

pub loop-node-preserved : goal.loop-node-preserved
loop-node-preserved c =
    let inv = c.loop-node.invariant in
    let nodes = c.args.nodes.now in
    let i = c.loop-node.node-index in
    let f = front_of nodes i inv.1.terms (omega arith) inv.1.is in
    let told = c.in_ok-cell.ensures in
    let turned = (rw c.in_default.is at told.turned) inv.1.terms f.behind f.front inv.1.tall in (
      turned.0,
      record { terms = f.behind; is = f.is; tall = turned.1 },
      omega (arith, told.deeper, inv.2),
      grew_trans inv.3 told.grew,
      inv.4 ∙ ap (λ ts. onward (length c.loop-node.cells) c.args.bindings.now (opens c.loop-node.waiting) ts (take c.loop-node.count.len c.loop-node.cells)) (forest_is nodes i inv.1.terms inv.1.is) ∙ turned.2
          ∙ ap (λ ts. onward (length c.take_node.new.cells) c.args.bindings.now (opens c.take_node.new.waiting) ts (take c.take_node.new.count.len c.take_node.new.cells)) (sym (forest_is nodes (i + 1) f.behind f.is)),
    )

pub returns-in_err-cell : goal.returns-in_err-cell
returns-in_err-cell c =
    let inv = c.loop-node.invariant in
    let nodes = c.args.nodes.now in
    let i = c.loop-node.node-index in
    let f = front_of nodes i inv.1.terms (omega arith) inv.1.is in
    let told = c.in_err-cell.ensures in
    rw c.from_residual.ensures record {
      gives = inv.4 ∙ ap (λ ts. onward (length c.loop-node.cells) c.args.bindings.now (opens c.loop-node.waiting) ts (take c.loop-node.count.len c.loop-node.cells)) (forest_is nodes i inv.1.terms inv.1.is) ∙ told.turned inv.1.terms f.behind f.front inv.1.tall;
      grew = grew_trans inv.3 told.grew;
    }

pub returns-in-Break : goal.returns-in-Break
returns-in-Break c =
    let inv = c.loop-node.invariant in
    let nodes = c.args.nodes.now in
    let i = c.loop-node.node-index in
    let f = front_of nodes i inv.1.terms (omega arith) inv.1.is in
    let told = c.in_ok-cell.ensures in
    let turned = (rw c.in-Break.is at told.turned) inv.1.terms f.behind f.front inv.1.tall in
    record {
      gives = inv.4 ∙ ap (λ ts. onward (length c.loop-node.cells) c.args.bindings.now (opens c.loop-node.waiting) ts (take c.loop-node.count.len c.loop-node.cells)) (forest_is nodes i inv.1.terms inv.1.is) ∙ turned;
      grew = grew_trans inv.3 told.grew;
    }

pub returns : goal.returns
returns c =
    let inv = c.loop-node.invariant in
    absurd (omega (arith, node_left c.args.nodes.now c.loop-node.node-index (opens c.loop-node.waiting) inv.0 inv.1))
