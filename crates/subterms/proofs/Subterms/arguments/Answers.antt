use Rattle.std.proofs.Common.{arith}
use Rattle.subterms.proofs.Patterns.{pattern_short}
use Rattle.subterms.proofs.Tables.{arguments_at}
use Rattle.subterms.proofs.Subterms.arguments.Goals as goal

pub returns : goal.returns
returns c =
    let s = c.args.self.now in
    arguments_at s c.args.p _ _ (λ h. omega (arith, h, c.saturating_add.ensures, pattern_short s.pattern)) c.arity.ensures
