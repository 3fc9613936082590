-- The answers to a problem text, while they are collected.
use Rattle.std.proofs.Common.{◌≡◌, ℕ, ◌<◌, ◌≤◌, List, [], ◌∷◌, ◌++◌, length, Some, None, Ok, Option, ◌∙◌, append_assoc}
use Rattle.refusal.specs.declared.Refusal.{Refusal}
use Rattle.refusal.specs.declared.Refusal.TheVariants.{Limits}
use Rattle.grammar.specs.Outcomes.{Handed}
use Rattle.grammar.specs.declared.part.Part.{Part}
use Rattle.script.specs.declared.answer.Answer.{Answer}
use Rattle.script.specs.declared.answer.Answer.TheVariants.{Formula, Nothing, Refused}
use Rattle.replay.specs.Replies.{Reads, ended, part, Answers, long, read}

-- the reader has the whole text, and what it reads from here on goes behind what is collected
pub record Sofar (text held : List ℕ) (at : ℕ) (answers : List Answer) : Type 0 where
  pub same : held ≡ text
  pub before : (more : List Answer) → Reads text at more → Reads text 0 (answers ++ more)

pub more_read : (text held held2 : List ℕ) (at after : ℕ) (answers answers2 : List Answer) (step : Option Part) (x : Part) → Sofar text held at answers → held2 ≡ held → step ≡ Some x → Handed held at (Ok step) after → answers2 ≡ answers ++ Formula x.place (length x.bytes.now) ∷ [] → Sofar text held2 after answers2
more_read text held held2 at after answers answers2 step x old same some h is = record {
  same = same ∙ old.same;
  before = λ more r.
      let handed : Handed text at (Ok (Some x)) after = rw (old.same, some) at h in
      rw (is, append_assoc) (old.before (Formula x.place (length x.bytes.now) ∷ more) (part handed r));
}

pub all_read : (text held : List ℕ) (at : ℕ) (answers answers2 last : List Answer) → length text ≤ 32768 → Sofar text held at answers → Reads held at last → answers2 ≡ answers ++ last → Answers text answers2
all_read text held at answers answers2 last short old h is =
    rw is (read short (old.before last (rw old.same at h)))

pub none_left : (text : List ℕ) (at after : ℕ) (step : Option Part) → step ≡ None → Handed text at (Ok step) after → Reads text at (Nothing ∷ [])
none_left text at after step is h = ended (rw is at h)

pub too_long : (text : List ℕ) (none answers : List Answer) (e : Refusal) → 32768 < length text → e ≡ Limits → none ≡ [] → answers ≡ none ++ Refused e ∷ [] → Answers text answers
too_long text none answers e h is empty all = rw (all, empty, is) (long h)
