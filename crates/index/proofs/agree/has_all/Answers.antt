use Rattle.std.proofs.Common.{rules, tests}
use Rattle.std.proofs.lemmas.Iterator.{YieldsList-from_slice}
use Rattle.std.proofs.lemmas.Iterator.Search.{all_from_yields_List}
use Rattle.lists.proofs.Tests.{is, decides_all}
use Rattle.index.proofs.agree.has_all.Goals as goal

pub returns : goal.returns
returns c =
    let list = c.args.list.now in
    let items = c.args.items.now in
    decides_all c.all.result list items (all_from_yields_List (λ n. is n list) _ _ _ c.all.ensures.ran (YieldsList-from_slice items cc) (λ x b q k. search (rules, tests)))
