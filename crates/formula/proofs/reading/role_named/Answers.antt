use Rattle.std.proofs.Common.{rules, ◌≡◌, refl, codes}
use Rattle.std.proofs.lemmas.Slice.Eq.{text_from_reads}
use Rattle.formula.proofs.reading.role_named.Goals as goal

pub returns-in-hypothesis : goal.returns-in-hypothesis
returns-in-hypothesis c =
    let is : c.args.word.now ≡ codes "hypothesis" = text_from_reads _ _ (search rules) (search rules) in
    rw is refl

pub returns-in-110 : goal.returns-in-110
returns-in-110 c =
    let is : c.args.word.now ≡ codes "negated_conjecture" = text_from_reads _ _ (search rules) (search rules) in
    rw is refl
