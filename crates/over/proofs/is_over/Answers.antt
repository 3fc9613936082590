use Rattle.std.proofs.Common.{ap, ◌∙◌, rules, tests}
use Rattle.std.proofs.lemmas.Iterator.{YieldsList-from_slice}
use Rattle.std.proofs.lemmas.Iterator.Search.{all_from_yields_List}
use Rattle.signature.specs.Signatures.{sig_of}
use Rattle.subterms.specs.Variables.{every}
use Rattle.over.specs.Nodes.{known}
use Rattle.over.proofs.Known.{pattern_known}
use Rattle.over.proofs.is_over.Goals as goal

pub returns : goal.returns
returns c =
    let S = sig_of c.args.signature.now in
    pattern_known S c.args.pattern.now _ (all_from_yields_List (known S) _ _ _ c.all.ensures.ran (YieldsList-from_slice c.nodes.result.now cc) (λ n r q k. search (rules, tests)) ∙ ap (every (known S)) c.nodes.ensures)
