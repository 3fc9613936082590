use Rattle.std.proofs.Common.{ap, rules}
use Rattle.std.proofs.lemmas.Iterator.{first_from_find, YieldsList-from_zip}
use Rattle.std.proofs.lemmas.Iterator.Consumers.{YieldsList-from_first}
use Rattle.subterms.specs.Rows.{places}
use Rattle.kbo.proofs.Firsts.{Same, found}
use Rattle.kbo.proofs.compare.first_difference.Goals as goal

pub returns : goal.returns
returns c =
    let s = c.args.s.now in
    let t = c.args.t.now in
    let is = places c.arguments.result in
    let js = places c.arguments-2.result in
    found s t c.args.p c.args.q is js c.arguments.ensures c.arguments-2.ensures c.requires _ (first_from_find c.find.new.self _ _ (λ d. Same s t d → ⊥) (Same s t) c.find.ensures.ran (YieldsList-from_zip (YieldsList-from_first (λ x. x) places is (ap places c.zip.ensures.first)) (YieldsList-from_first (λ x. x) places js (ap places c.zip.ensures.second))) (λ x f k. search rules) (λ x f k. search rules))
