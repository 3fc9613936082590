use Rattle.std.proofs.Common.{take, refl, arith}
use Rattle.std.proofs.lemmas.Grind.{common_steps}
use Rattle.signature.specs.Signatures.{sig_of}
use Rattle.bank.specs.Rules.{Rules}
use Rattle.bank.proofs.Readings.{laws}
use Rattle.bank.proofs.rules.keeps_rules.Goals as goal

pub returns-then-all_apart : goal.returns-then-all_apart
returns-then-all_apart c =
    let S = sig_of c.args.signature.now in
    let b = take c.args.count.now.len c.args.cells.now in
    let rules : Rules S b = record { fitting = c.if-all_fitting.ensures.0 refl; apart = c.if-all_apart.ensures.0 refl } in
    record {
      sized = (grind (arith, common_steps), omega arith);
      keeps = record { counted = c.if-count-cells.false; rules = rules };
      laws = laws S b rules;
    }
