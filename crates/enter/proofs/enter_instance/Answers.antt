use Rattle.std.proofs.Common.{length, take, sym, refl, ap, ◌∙◌, inr, rules}
use Rattle.terms.specs.Patterns.{term_of}
use Rattle.bank.specs.Checked.{Sized}
use Rattle.enter.specs.Machine.{whole, forest}
use Rattle.enter.proofs.Growing.{enter_law}
use Rattle.enter.proofs.Rows.{whole_enters, modest}
use Rattle.enter.proofs.Rooms.{no_room}
use Rattle.enter.proofs.enter_instance.Goals as goal

pub returns-in-Some : goal.returns-in-Some
returns-in-Some c =
    let sized : Sized c.args.cells.now = search rules in
    let p = c.args.pattern.now in
    let m = length c.args.cells.now in
    let b = take c.args.count.now.len c.args.cells.now in
    let told = c.in-Some.ensures in
    let e = sym (ap (λ ns. whole m c.args.bindings.now (forest ns 0) b) c.nodes.ensures ∙ whole_enters p m c.args.bindings.now b) ∙ told.gives in (
      sized,
      c.if-start-cells.false,
      record {
        within = told.grew.within;
        stays = told.grew.front;
        enters = e;
        law = λ S σ rules over binds. enter_law S m c.args.bindings.now σ (term_of p) b (take c.run.new.count.len c.run.new.cells) c.in-Some.cell rules over (modest p) binds e;
      },
    )

pub returns-in-None : goal.returns-in-None
returns-in-None c =
    let sized : Sized c.args.cells.now = search rules in
    let p = c.args.pattern.now in
    let m = length c.args.cells.now in
    let b = take c.args.count.now.len c.args.cells.now in
    let told = c.in-None.ensures in
    let e = sym (ap (λ ns. whole m c.args.bindings.now (forest ns 0) b) c.nodes.ensures ∙ whole_enters p m c.args.bindings.now b) ∙ told.gives in (
      refl,
      inr (inr (
        sized,
        c.if-start-cells.false,
        record {
          stays = told.grew.front;
          none = e;
          law = λ S σ rules over binds more i few h. no_room S m c.args.bindings.now σ (term_of p) b more i rules over (modest p) binds e few h;
        },
        refl,
      )),
    )
