use Rattle.std.proofs.Common.{◌≡◌, length}
use Rattle.plain_list.proofs.Going.{Going}
use Rattle.plain_list.proofs.generalizing.Given as goal

abbrev pub invariant-loop-entry : goal.invariant-loop-entry
invariant-loop-entry l = record {
  going : Going l.bank l.cell l.entries l.numbers.cells.now l.numbers.count.now.len l.entry-index;
  long : length l.numbers.cells.now ≡ length l.initial.numbers.cells.now;
  cells : l.numbers.cells.ghost_name ≡ l.initial.numbers.cells.ghost_name;
  count : l.numbers.count.ghost_name ≡ l.initial.numbers.count.ghost_name;
}
