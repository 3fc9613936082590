use Rattle.std.proofs.Common.{Some, refl, rules, arith}
use Rattle.row.specs.Items.{items}
use Rattle.entries.specs.Lookup.{Placed}
use Rattle.entries.specs.Stored.{entries_of}
use Rattle.entries.proofs.Distinct.{once_distinct}
use Rattle.entries.proofs.Lookups.{placed_some, lookup_loses}
use Rattle.entries.proofs.Stores.{apart, taken}
use Rattle.entries.proofs.Entries.remove.Goals as goal

pub invariant_of-self : goal.invariant_of-self
invariant_of-self g c =
    let s = c.args.self.now in
    let i = c.in_ok-at.at in
    let p : Placed (entries_of s) c.args.number (Some i) = search rules in
    record { apart = once_distinct _ (taken s c.args.number i _ (items c.swap_remove.new.self) c.swap_remove.result (omega arith) p c.swap_remove.ensures.item c.swap_remove.ensures.some).once }

pub returns : goal.returns
returns g c =
    let s = c.args.self.now in
    let i = c.in_ok-at.at in
    let p : Placed (entries_of s) c.args.number (Some i) = search rules in
    let lost = taken s c.args.number i _ (items c.swap_remove.new.self) c.swap_remove.result (omega arith) p c.swap_remove.ensures.item c.swap_remove.ensures.some in
    (placed_some (entries_of s) c.args.number (Some i) p refl, lookup_loses (entries_of s) (items c.swap_remove.new.self) c.args.number (apart s) lost)
