use Rattle.std.proofs.Common.{refl, inl, inr, ap, ◌∙◌, subst, arith, rules}
use Rattle.row.specs.Items.{items}
use Rattle.entries.specs.Lookup.{Placed, lookup}
use Rattle.entries.specs.Stored.{entries_of}
use Rattle.entries.specs.declared.Entry.{Entry}
use Rattle.entries.proofs.Lookups.{placed_some, placed_none, lookup_push}
use Rattle.entries.proofs.Stores.{size, added}
use Rattle.entries.proofs.Entries.insert.Goals as goal

pub returns-then-taken : goal.returns-then-taken
returns-then-taken g c =
    let s = c.args.self.now in
    let n = c.args.number in
    let p = subst (λ es. Placed es n c.place.result) c.items.ensures c.place.ensures in
    (λ k. refl, inl (placed_some (entries_of s) n c.place.result p (search rules), refl))

pub invariant_of-self : goal.invariant_of-self
invariant_of-self g c =
    let s = c.args.self.now in
    let n = c.args.number in
    let e : Entry = record { number = n; pattern = c.args.pattern.now } in
    let p = subst (λ es. Placed es n c.place.result) c.items.ensures c.place.ensures in
    record { apart = added s e (items c.push.new.self) c.push.result (placed_none (entries_of s) n c.place.result p (search rules)) (search rules) }

pub returns-in-Ok : goal.returns-in-Ok
returns-in-Ok g c =
    let s = c.args.self.now in
    let n = c.args.number in
    let e : Entry = record { number = n; pattern = c.args.pattern.now } in
    let p = subst (λ es. Placed es n c.place.result) c.items.ensures c.place.ensures in
    let free = placed_none (entries_of s) n c.place.result p (search rules) in
    (free, omega (arith, size s, c.in-Ok.ensures.0), λ k. ap (λ es. lookup es k) c.in-Ok.ensures.1 ∙ lookup_push (entries_of s) e free k)

pub returns-in-Err : goal.returns-in-Err
returns-in-Err g c =
    let s = c.args.self.now in
    let n = c.args.number in
    let p = subst (λ es. Placed es n c.place.result) c.items.ensures c.place.ensures in
    let free = placed_none (entries_of s) n c.place.result p (search rules) in
    (λ k. ap (λ r. lookup (items r) k) c.in-Err.ensures.1, inr (free, omega (arith, size s, c.in-Err.ensures.0), refl))
