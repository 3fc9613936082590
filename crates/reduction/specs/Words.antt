-- How an outcome is written.
use Rattle.std.specs.Prelude.{ℕ, List, codes}
use Rattle.reduction.specs.declared.outcome.Outcome.{Outcome}
use Rattle.reduction.specs.declared.outcome.Outcome.TheVariants.{Finished, Spent, NoRoom}

abbrev pub outcome_word : Outcome → List ℕ
outcome_word Finished = codes "finished"
outcome_word Spent = codes "spent"
outcome_word NoRoom = codes "noroom"
