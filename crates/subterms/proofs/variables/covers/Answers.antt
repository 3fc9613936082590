use Rattle.std.proofs.Common.{rules, tests}
use Rattle.std.proofs.lemmas.Iterator.{YieldsList-from_slice}
use Rattle.std.proofs.lemmas.Iterator.Search.{all_from_yields_List}
use Rattle.subterms.specs.Variables.{covered}
use Rattle.subterms.proofs.Counting.{covers_decides}
use Rattle.subterms.proofs.variables.covers.Goals as goal

pub returns : goal.returns
returns c =
    let s = c.args.s.now in
    let t = c.args.t.now in
    covers_decides s t _ (all_from_yields_List (covered s t) _ _ _ c.all.ensures.ran (YieldsList-from_slice t cc) (λ n r q k. search (rules, tests)))
