-- The text of a run's lines.
use Rattle.std.specs.Prelude.{ℕ, List, ◌∷◌, ◌++◌, codes, decimal}
use Rattle.terms.specs.declared.side.Side.{Side}
use Rattle.terms.specs.declared.side.Side.TheVariants.{Left, Right}
use Rattle.trace.specs.declared.Step.{Step}
use Rattle.run.specs.declared.answer.Answer.{Answer}
use Rattle.run.specs.declared.answer.Ended.{Ended}
pub use Rattle.terms.specs.Sides.{side_word}
pub use Rattle.reduction.specs.Words.{outcome_word}
pub use Rattle.run.specs.Words.{verdict_word}

abbrev pub end_text : Side → Ended → List ℕ
end_text side e = side_word side ++ (32 ∷ (outcome_word e.outcome ++ (32 ∷ decimal e.cell)))

abbrev pub head_text : Answer → List ℕ
head_text a =
    end_text Left a.left ++ (32 ∷ (end_text Right a.right
    ++ (codes " steps " ++ (decimal a.steps ++ (codes " terms " ++ (decimal a.terms ++ (32 ∷ verdict_word a.verdict)))))))

abbrev pub step_text : Step → List ℕ
step_text s =
    codes "step " ++ (side_word s.side ++ (32 ∷ (decimal s.equation ++ (32 ∷ (decimal s.replaced ++ (32 ∷ (decimal s.put_in ++ (32 ∷ decimal s.after))))))))
