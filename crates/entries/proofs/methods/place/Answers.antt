use Rattle.std.proofs.Common.{◌≡◌, rules, tests}
use Rattle.std.proofs.lemmas.Iterator.{IsFirst-from_position, YieldsList-from_slice}
use Rattle.entries.specs.declared.Entry.{Entry}
use Rattle.entries.proofs.Lookups.{placed}
use Rattle.entries.proofs.methods.place.Goals as goal

pub returns : goal.returns
returns c =
    let es = c.args.entries.now in
    let n = c.args.number in
    placed es n c.position.result
    (IsFirst-from_position _ _ c.position.result (λ (e : Entry). e.number ≡ n) (λ e. e.number ≡ n → ⊥) c.position.ensures.ran (YieldsList-from_slice es cc) (λ x q k. search (rules, tests)) (λ x q k. search (rules, tests)))
