-- The stack of the symbols whose parentheses are open, the innermost first.
use Rattle.std.specs.Prelude.{List, reverse}
use Rattle.row.specs.Items.{items}
use Rattle.formula.specs.declared.frame.Frame.{Frame}
use Rattle.formula.specs.declared.uses.Uses.{Uses}

abbrev pub stack_of : Uses → List Frame
stack_of u = reverse (items u.frames)
