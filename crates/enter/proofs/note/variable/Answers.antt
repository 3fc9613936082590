use Rattle.std.proofs.Common.{◌≡◌, length, get_or, take, None, sym, subst, arith}
use Rattle.std.proofs.lemmas.Grind.{common_steps}
use Rattle.bank.specs.declared.cell.Cell.TheVariants.{Var}
use Rattle.enter.specs.Enter.{bound}
use Rattle.enter.specs.Machine.{Gives}
use Rattle.enter.proofs.Noting.{put_gives}
use Rattle.enter.proofs.note.variable.Goals as goal

pub returns-in-None-clause-gives : goal.returns-in-None-clause-gives
returns-in-None-clause-gives c =
    let free : get_or c.args.bindings.now c.args.x None ≡ None = grind (arith, common_steps) in
    let b = take c.args.count.now.len c.args.cells.now in
    subst (λ o. Gives (bound (length c.args.cells.now) c.args.x b o) c.put.result c.put.new.cells c.put.new.count.len) (sym free)
    (put_gives c.args.cells.now c.put.new.cells c.args.count.now.len c.put.new.count.len (Var c.args.x) c.put.result c.requires.counted c.put.ensures)
