use Rattle.std.proofs.Common.{take, replicate, refl}
use Rattle.signature.specs.Signatures.{sig_of}
use Rattle.index.proofs.Agreeing.{asked_roomy, agreeing, never_false}
use Rattle.index.proofs.agree.agree.Goals as goal

pub returns : goal.returns
returns g c =
    let S = sig_of c.args.signature.now in
    let cells = c.args.cells.now in
    let n = c.args.count.now.len in
    let i = c.args.cell in
    let m = g.I.Index.stored c.args.one.now in
    let m' = g.J.Index.stored c.args.other.now in
    let may = c.in_ok-check_question.ensures in
    let found = c.retrieve_exact.ensures.finds S (asked_roomy S cells n i _ (replicate 128 0) may g.met.I.Index.most refl) in
    let found' = c.retrieve_exact-2.ensures.finds S (asked_roomy S cells n i _ (replicate 128 0) may g.met.J.Index.most refl) in
    let ones = take c.retrieve_exact.new.found.len c.retrieve_exact.new.list in
    let others = take c.retrieve_exact-2.new.found.len c.retrieve_exact-2.new.list in
    let decided = agreeing m m' (take n cells) i ones others c.are_alike.result found found' c.are_alike.ensures in
    record { agreed = (may, decided); alike = never_false m m' (take n cells) i c.are_alike.result decided }
