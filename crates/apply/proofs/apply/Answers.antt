use Rattle.std.proofs.Common.{◌≡◌, Some, None, refl, ap, ◌∙◌, rules}
use Rattle.lent_list.specs.declared.Count.{Count}
use Rattle.entries.specs.Stored.{map_of}
use Rattle.apply.proofs.Applying.{matches, no_instance, no_forms, taken, refused_at, entered_at, ends_at, stays, grows_up, sized, redex_counted}
use Rattle.apply.proofs.apply.Goals as goal

pub returns-in_err-bindings : goal.returns-in_err-bindings
returns-in_err-bindings g c = (
  refl,
  λ S E h.
      let high : g.I.Index.stored c.args.index.now c.args.redex.equation ≡ Some c.in_ok-higher.higher = search rules in
      let low : map_of c.args.lowers.now c.args.redex.equation ≡ Some c.in_ok-lower.lower = search rules in
      absurd (matches S E _ _ _ _ _ _ _ _ h c.in_ok-higher.higher c.in_ok-lower.lower high low c.in_err-bindings.ensures),
)

pub returns-in_err-put_in : goal.returns-in_err-put_in
returns-in_err-put_in g c = (
  c.enter.auto.cells,
  λ S E h.
      let high : g.I.Index.stored c.args.index.now c.args.redex.equation ≡ Some c.in_ok-higher.higher = search rules in
      let low : map_of c.args.lowers.now c.args.redex.equation ≡ Some c.in_ok-lower.lower = search rules in
      let none : c.from_residual-in_err-put_in.result ≡ None = search rules in
      let d = refused_at c.in_ok-lower.lower c.in_ok-bindings.bindings c.args.cells.now _ c.args.count.now.len c.enter.new.cells _ (ap (λ (x : Count). x.len) c.over-guard.ensures.1) c.in_err-put_in.ensures.does in
      let bound = c.in_ok-bindings.ensures.1 S h.rules (redex_counted S E _ _ _ _ _ _ _ _ h) in
      rw none (search rules, d.stays, no_instance S E _ _ _ _ _ _ _ _ h c.in_ok-higher.higher c.in_ok-lower.lower high low c.in_ok-bindings.bindings bound (d.none (sized S E _ _ _ _ _ _ _ _ h) c.if-count-cells.false)),
)

pub returns-in_err-after : goal.returns-in_err-after
returns-in_err-after g c = (
  c.rebuild.auto.cells ∙ c.enter.auto.cells,
  λ S E h.
      let high : g.I.Index.stored c.args.index.now c.args.redex.equation ≡ Some c.in_ok-higher.higher = search rules in
      let low : map_of c.args.lowers.now c.args.redex.equation ≡ Some c.in_ok-lower.lower = search rules in
      let none : c.from_residual-in_err-after.result ≡ None = search rules in
      let d = entered_at c.in_ok-lower.lower c.in_ok-bindings.bindings c.args.cells.now _ c.args.count.now.len c.enter.new.cells c.enter.new.self.count.now.len c.in_ok-put_in.put_in (ap (λ (x : Count). x.len) c.over-guard.ensures.1) c.in_ok-put_in.ensures.does in
      let bound = c.in_ok-bindings.ensures.1 S h.rules (redex_counted S E _ _ _ _ _ _ _ _ h) in
      let e = c.in_err-after.ensures in
      rw none (
        search rules,
        stays _ _ _ _ _ _ (grows_up S E _ _ _ _ _ _ _ _ h c.in_ok-higher.higher c.in_ok-lower.lower high low c.in_ok-bindings.bindings bound _ _ _ d c.enter.auto.cells) d.stays (e.grew d.within),
        no_forms S E _ _ _ _ _ _ _ _ h c.in_ok-higher.higher c.in_ok-lower.lower high low c.in_ok-bindings.bindings bound _ _ _ d c.enter.auto.cells c.rebuild.new.cells c.rebuild.new.self.count.now.len e.does,
      ),
)

pub returns : goal.returns
returns g c = (
  c.rebuild.auto.cells ∙ c.enter.auto.cells,
  λ S E h.
      let high : g.I.Index.stored c.args.index.now c.args.redex.equation ≡ Some c.in_ok-higher.higher = search rules in
      let low : map_of c.args.lowers.now c.args.redex.equation ≡ Some c.in_ok-lower.lower = search rules in
      let d = entered_at c.in_ok-lower.lower c.in_ok-bindings.bindings c.args.cells.now _ c.args.count.now.len c.enter.new.cells c.enter.new.self.count.now.len c.in_ok-put_in.put_in (ap (λ (x : Count). x.len) c.over-guard.ensures.1) c.in_ok-put_in.ensures.does in
      let bound = c.in_ok-bindings.ensures.1 S h.rules (redex_counted S E _ _ _ _ _ _ _ _ h) in
      let e = c.in_ok-after.ensures in
      ends_at _ _ _ _ _ _ _ _ _ _ _ (search rules) (taken S E _ _ _ _ _ _ _ _ h c.in_ok-higher.higher c.in_ok-lower.lower high low c.in_ok-bindings.bindings bound _ _ _ d c.enter.auto.cells c.rebuild.new.cells c.rebuild.new.self.count.now.len c.in_ok-after.after _ e.does (e.grew d.within) refl refl),
)
