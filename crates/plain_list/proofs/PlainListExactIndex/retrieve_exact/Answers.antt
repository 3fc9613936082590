use Rattle.plain_list.proofs.Going.{answers}
use Rattle.plain_list.proofs.PlainListExactIndex.retrieve_exact.Goals as goal

pub returns : goal.returns
returns c = record {
  within = c.generalizing.ensures.within;
  finds = answers c.args.self.now.entries c.items.result.now c.args.bank.now c.args.cell c.generalizing.new.found.len c.args.list.now c.generalizing.new.list c.items.ensures c.generalizing.ensures.finds;
}
