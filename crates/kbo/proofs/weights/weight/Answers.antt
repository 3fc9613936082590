use Rattle.std.proofs.Common.{◌∙◌, arith, rules, tests}
use Rattle.std.proofs.lemmas.Iterator.{YieldsList-from_slice, YieldsList-from_map}
use Rattle.std.proofs.lemmas.Iterator.Consumers.{sum_by_from_yields_List, fits_by_from_yields_list}
use Rattle.signature.specs.Signatures.{sig_of}
use Rattle.signature.proofs.Symbols.{weight_within}
use Rattle.kbo.specs.Weights.{node_weight}
use Rattle.kbo.proofs.Rows.{row_most, weight_sum}
use Rattle.kbo.proofs.weights.weight.Goals as goal

pub sum-requires-clause-fits : goal.sum-requires-clause-fits
sum-requires-clause-fits c =
    let w = (sig_of c.args.signature.now).weight in
    let ns = c.args.row.now in
    fits_by_from_yields_list (node_weight w) ns _ _ (YieldsList-from_map _ (node_weight w) (YieldsList-from_slice ns cc) c.map.ensures.closure (λ x r q k. search (rules, tests))) (omega (arith, weight_sum w ns, row_most w (weight_within c.args.signature.now) ns, c.requires))

pub returns : goal.returns
returns c =
    let w = (sig_of c.args.signature.now).weight in
    let ns = c.args.row.now in
    sum_by_from_yields_List (node_weight w) ns _ _ c.sum.ensures.ran (YieldsList-from_map _ (node_weight w) (YieldsList-from_slice ns cc) c.map.ensures.closure (λ x r q k. search (rules, tests))) ∙ weight_sum w ns
