use Rattle.std.proofs.Common.{sym, ap, ◌∙◌}
use Rattle.terms.specs.Term.{var}
use Rattle.subterms.proofs.Tables.{at_var, at_app}
use Rattle.lpo.proofs.Heads.{vars_apart, var_below, var_above, higher, same_heads, heads_differ}
use Rattle.lpo.proofs.sides.Sides.heads.Goals as goal
use Rattle.lpo.proofs.sides.Sides.heads.Goals.{else-f-g-via-then-f-g+else-a-b, else-f-g-via-else-f-g}

pub arguments-requires : goal.arguments-requires
arguments-requires c =
    let s = at_app c.args.self.now.upper.now c.args.p c.requires.in_upper _ _ (rw c.nodes.ensures at c.in-App-App.is-0) in
    let t = at_app c.args.self.now.lower.now c.args.q c.requires.in_lower _ _ (rw c.nodes-2.ensures at c.in-App-App.is-1) in
    (c.requires, s.1 ∙ c.if-a-b.true ∙ sym t.1)

pub returns-then-x-y : goal.returns-then-x-y
returns-then-x-y c =
    let s = at_var c.args.self.now.upper.now c.args.p c.requires.in_upper _ (rw c.nodes.ensures at c.in-Var-Var.is-0) in
    let t = at_var c.args.self.now.lower.now c.args.q c.requires.in_lower _ (rw c.nodes-2.ensures at c.in-Var-Var.is-1) in
    s ∙ ap var c.if-x-y.true ∙ sym t

pub returns-else-x-y : goal.returns-else-x-y
returns-else-x-y c =
    let s = at_var c.args.self.now.upper.now c.args.p c.requires.in_upper _ (rw c.nodes.ensures at c.in-Var-Var.is-0) in
    let t = at_var c.args.self.now.lower.now c.args.q c.requires.in_lower _ (rw c.nodes-2.ensures at c.in-Var-Var.is-1) in
    vars_apart _ _ _ _ s t c.if-x-y.false

pub returns-then-g-f : goal.returns-then-g-f
returns-then-g-f c =
    let s = at_app c.args.self.now.upper.now c.args.p c.requires.in_upper _ _ (rw c.nodes.ensures at c.in-App-App.is-0) in
    let t = at_app c.args.self.now.lower.now c.args.q c.requires.in_lower _ _ (rw c.nodes-2.ensures at c.in-App-App.is-1) in
    higher _ _ _ _ _ _ s.0 t.0 c.if-g-f.true

pub returns-then-a-b : goal.returns-then-a-b
returns-then-a-b c =
    let s = at_app c.args.self.now.upper.now c.args.p c.requires.in_upper _ _ (rw c.nodes.ensures at c.in-App-App.is-0) in
    let t = at_app c.args.self.now.lower.now c.args.q c.requires.in_lower _ _ (rw c.nodes-2.ensures at c.in-App-App.is-1) in
    same_heads _ _ _ _ _ _ s.0 t.0 c.arguments.result c.if-f-g.true c.arguments.ensures

pub returns-else-f-g : goal.returns-else-f-g
returns-else-f-g c =
    let s = at_app c.args.self.now.upper.now c.args.p c.requires.in_upper _ _ (rw c.nodes.ensures at c.in-App-App.is-0) in
    let t = at_app c.args.self.now.lower.now c.args.q c.requires.in_lower _ _ (rw c.nodes-2.ensures at c.in-App-App.is-1) in
    heads_differ _ _ _ _ _ _ s.0 t.0 c.if-g-f.false
    (λ e. elim c.else-f-g.branch [ else-f-g-via-then-f-g+else-a-b w ↦ w.if-a-b.false (sym s.1 ∙ e.1 ∙ t.1) | else-f-g-via-else-f-g w ↦ w.if-f-g.false e.0 ])

pub returns-in-Var-App : goal.returns-in-Var-App
returns-in-Var-App c =
    let s = at_var c.args.self.now.upper.now c.args.p c.requires.in_upper _ (rw c.nodes.ensures at c.in-Var-App.is-0) in
    let t = at_app c.args.self.now.lower.now c.args.q c.requires.in_lower _ _ (rw c.nodes-2.ensures at c.in-Var-App.is-1) in
    var_below _ _ _ _ _ s t.0

pub returns-in-App-Var : goal.returns-in-App-Var
returns-in-App-Var c =
    let s = at_app c.args.self.now.upper.now c.args.p c.requires.in_upper _ _ (rw c.nodes.ensures at c.in-App-Var.is-0) in
    let t = at_var c.args.self.now.lower.now c.args.q c.requires.in_lower _ (rw c.nodes-2.ensures at c.in-App-Var.is-1) in
    var_above _ _ _ _ _ s.0 t
