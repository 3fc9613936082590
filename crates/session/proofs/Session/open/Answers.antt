use Rattle.std.proofs.Common.{rules}
use Rattle.signature.specs.Signatures.{sig_of}
use Rattle.rewriting.proofs.Steps.{asymmetric}
use Rattle.session.proofs.Determined.{determined}
use Rattle.session.proofs.Session.open.Goals as goal

pub returns : goal.returns
returns g c = record {
  kept = search rules;
  bare = search rules;
  determined = determined c.args.signature (g.O.ReductionOrder.above c.args.order c.args.signature) (asymmetric (sig_of c.args.signature) (g.met.O.ReductionOrder.reduces c.args.order c.args.signature));
  given = search rules;
}
