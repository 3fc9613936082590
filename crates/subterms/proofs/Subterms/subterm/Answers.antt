use Rattle.std.proofs.Common.{arith, ap, length}
use Rattle.subterms.proofs.Tables.{end_most, part_is}
use Rattle.subterms.proofs.Subterms.subterm.Goals as goal

pub slice_bounds-result-end : goal.slice_bounds-result-end
slice_bounds-result-end c = let e = end_most c.args.self.now c.args.p (omega (arith, c.if-p-nodes.true, ap length c.nodes-nodes.ensures)) in omega (arith, e, ap length c.nodes-nodes.ensures)

pub returns-then-p-nodes-clause-there : goal.returns-then-p-nodes-clause-there
returns-then-p-nodes-clause-there c h = rw c.nodes-nodes.ensures (part_is c.args.self.now c.args.p h)
