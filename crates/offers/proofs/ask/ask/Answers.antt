use Rattle.std.proofs.Common.{replicate, sym, ◌∙◌}
use Rattle.index.proofs.Asking.{asked}
use Rattle.signature.specs.Signatures.{sig_of}
use Rattle.offers.proofs.Asking.{not_false}
use Rattle.offers.proofs.ask.ask.Goals as goal

pub returns : goal.returns
returns c =
    let S = sig_of c.args.signature.now in
    let may = c.in_ok-check_question.ensures in
    let a = asked S c.args.cells.now c.args.count.now.len c.args.cell 64 (replicate 64 0) may in
    let agreed = c.in_ok-agrees.ensures in (
      may,
      record {
        offered = c.loose-offered.ensures S a;
        kept = c.exact-kept.ensures S a;
        decided = agreed.agreed.1;
        agrees = λ ps k. not_false c.in_ok-agrees.agrees (agreed.alike (λ n. k.tree n ∙ sym (k.list n)));
      },
    )
