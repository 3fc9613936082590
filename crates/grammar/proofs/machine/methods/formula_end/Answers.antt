use Rattle.std.proofs.Common.{sym, ◌∙◌}
use Rattle.grammar.proofs.Walks.{walk_done}
use Rattle.grammar.proofs.machine.methods.formula_end.Goals as goal

pub returns : goal.returns
returns c =
    let done = sym c.loop-state-test.ensures in
    (sym c.loop-state.invariant.same ∙ walk_done c.loop-state.state c.loop-state.end _ _ done, c.loop-state.invariant.behind, c.loop-state.invariant.within done)
