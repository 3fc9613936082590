use Rattle.index.proofs.Choosing.{decides_stored}
use Rattle.filter.proofs.generalizes.Goals as goal

pub returns-in-Ok : goal.returns-in-Ok
returns-in-Ok g c S rules l = decides_stored (g.I.Index.stored c.args.index.now) c.args.bank.now c.args.cell c.args.number c.in-Ok.pattern c.is_instance.result c.in-Ok.ensures (c.is_instance.ensures S rules l)
