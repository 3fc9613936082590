use Rattle.std.proofs.Common.{ℕ, ◌<◌, List, length, is_some, Some, None, Decides, Option, refl}
use Rattle.std.proofs.lemmas.Bool.{false≢true}
use Rattle.std.proofs.lemmas.Bool.Decides.{Decides-at}
use Rattle.terms.specs.Sig.{Sig}
use Rattle.terms.specs.Patterns.{term_of}
use Rattle.terms.specs.declared.pattern.Pattern.{Pattern}
use Rattle.bank.specs.declared.cell.Cell.{Cell}
use Rattle.bank.specs.Rules.{Rules}
use Rattle.bank.specs.Bindings.{Instance}
use Rattle.matching.specs.Matched.{Matched}
use Rattle.matching.proofs.is_instance.Goals as goal

decided : (b : List Cell) (p : Pattern) (i : ℕ) (o : Option (List (Option ℕ))) (S : Sig) → Matched b p i o → Rules S b → i < length b → Decides (is_some o) (Instance b (term_of p) i)
decided b p i None S m rules l = (λ e. absurd (false≢true e), λ h. absurd (m S rules l h))
decided b p i (Some θ) S m rules l = let o = m.1 S rules l in (λ e. record { inst = o.inst; means = o.means }, λ h. refl)

pub returns : goal.returns
returns c S rules l =
    Decides-at c.is_some.result (is_some c.match_cell.result) c.is_some.ensures
    (decided c.args.bank.now c.args.pattern.now c.args.cell c.match_cell.result S c.match_cell.ensures rules l)
