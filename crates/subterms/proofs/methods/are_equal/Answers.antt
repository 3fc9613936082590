use Rattle.std.proofs.Common.{rules, tests}
use Rattle.std.proofs.lemmas.Iterator.{same_from_all, YieldsList-from_zip, YieldsList-from_slice}
use Rattle.subterms.proofs.methods.are_equal.Goals as goal

pub returns-then-s-t : goal.returns-then-s-t
returns-then-s-t c =
    same_from_all c.all.new.self _ _ c.args.s.now c.args.t.now c.all.ensures.ran (YieldsList-from_zip (YieldsList-from_slice c.args.s.now cc) (YieldsList-from_slice c.args.t.now cc)) (search rules) (λ x q k. search (rules, tests)) (λ x q k. search (rules, tests))
