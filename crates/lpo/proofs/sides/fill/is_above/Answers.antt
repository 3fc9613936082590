use Rattle.std.proofs.Common.{◌≡◌, ◌∙◌, Decides, arith, rules}
use Rattle.std.proofs.lemmas.Bool.Decides.{Decides-like}
use Rattle.subterms.proofs.Tables.{row_some, at_top}
use Rattle.lpo.specs.Seen.{seen_at}
use Rattle.lpo.specs.declared.sides.Compared.TheVariants.{Above}
use Rattle.lpo.proofs.Lists.{told_above, above_told}
use Rattle.lpo.proofs.sides.fill.is_above.Goals as goal

pub returns : goal.returns
returns c =
    let b = c.new-3.result in
    let says = c.new-3.ensures.seen 0 0 (row_some b.upper.now) (row_some b.lower.now) (omega arith) in
    let d : Decides c.eq.result (seen_at b 0 0 ≡ Above) = search rules in
    let s = at_top b.upper.now c.args.s.now (c.new-3.ensures.upper ∙ c.new.ensures) in
    let t = at_top b.lower.now c.args.t.now (c.new-3.ensures.lower ∙ c.new-2.ensures) in
    rw (← s, ← t) (Decides-like _ (λ e. told_above _ _ _ says e) (λ h. above_told _ _ _ says h) d)
