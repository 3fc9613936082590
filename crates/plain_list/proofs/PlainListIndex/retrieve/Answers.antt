use Rattle.index.proofs.Choosing.{as_candidates}
use Rattle.plain_list.proofs.Going.{answers}
use Rattle.plain_list.proofs.PlainListIndex.retrieve.Goals as goal

pub returns : goal.returns
returns c = record {
  within = c.generalizing.ensures.within;
  finds = λ S a. as_candidates (answers c.args.self.now.entries c.items.result.now c.args.bank.now c.args.cell c.generalizing.new.found.len c.args.list.now c.generalizing.new.list c.items.ensures c.generalizing.ensures.finds S a);
}
