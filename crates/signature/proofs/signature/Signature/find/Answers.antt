use Rattle.std.proofs.Common.{rules}
use Rattle.signature.specs.Signatures.{symbols_of}
use Rattle.signature.proofs.Symbols.{named_at, unnamed_at}
use Rattle.signature.proofs.signature.Signature.find.Goals as goal

pub returns : goal.returns
returns c = (search rules, named_at (symbols_of c.args.self.now) c.in_ok-k.k c.args.name.now (search rules) (λ y. search rules))

pub returns-in_err-k : goal.returns-in_err-k
returns-in_err-k c = rw c.from_residual.ensures (λ k h. unnamed_at (symbols_of c.args.self.now) k c.args.name.now h (λ y. search rules))
