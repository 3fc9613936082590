-- How a verdict is written.
use Rattle.std.specs.Prelude.{ℕ, List, codes}
use Rattle.run.specs.declared.answer.Verdict.{Verdict}
use Rattle.run.specs.declared.answer.Verdict.TheVariants.{Met, Parted, Open}

abbrev pub verdict_word : Verdict → List ℕ
verdict_word Met = codes "met"
verdict_word Parted = codes "parted"
verdict_word Open = codes "open"
