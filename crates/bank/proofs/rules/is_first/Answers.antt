use Rattle.std.proofs.Common.{◌<◌, refl, sym, ◌∙◌, arith, length-take-le}
use Rattle.std.proofs.lemmas.Bool.Decides.{Decides-like, Decides-not}
use Rattle.std.proofs.lemmas.List.{get_or-take, get_or_default}
use Rattle.std.proofs.lemmas.List.Elements.{contains_decides}
use Rattle.bank.specs.declared.cell.Cell.{Cell}
use Rattle.bank.specs.declared.cell.Cell.TheVariants.{Var}
use Rattle.bank.specs.contracts.cell.CellExact.TheImpl.Laws.{exact-law}
use Rattle.bank.proofs.rules.is_first.Goals as goal

pub returns : goal.returns
returns c =
    let b = c.args.cells.now in
    let j = c.args.j in
    let e = length-take-le j b c.requires in
    Decides-not _ (Decides-like _ (λ h. let k : h.0 < j = omega arith in (h.0, k, sym (get_or-take j b h.0 (Var 0) k) ∙ h.2 (Var 0))) (λ w. (w.0, omega arith, λ d. get_or-take j b w.0 d w.1 ∙ get_or_default b w.0 d (Var 0) (omega (arith, c.requires)) ∙ w.2)) (contains_decides {X = Cell} _ (λ x y. exact-law x y _ refl) _ _ _ c.contains.ensures.cases))
