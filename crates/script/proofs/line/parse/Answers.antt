use Rattle.std.proofs.Common.{◌≡◌, ℕ, List, ◌∷◌, ◌++◌, codes, sym, ap, ◌∙◌, subst, inl, inr}
use Rattle.std.proofs.lemmas.Result.{MatchResult-weaker, err_from_is_err_and}
use Rattle.fields.specs.Cuts.{Without, Cut}
use Rattle.fields.proofs.Cutting.{uncut, cut_is}
use Rattle.script.specs.Spellings.{word}
use Rattle.script.specs.Says.{Says, Fields, Form, word_of}
use Rattle.script.specs.declared.call.Call.{Call}
use Rattle.script.specs.declared.call.Word.{Word}
use Rattle.script.specs.declared.call.Word.TheVariants.{Release as release_word}
use Rattle.script.proofs.Spaces.{word_free, same_word, form}
use Rattle.script.proofs.line.parse.Goals as goal

-- what a line that has a space says begins with its first word
first_word : {line field after : List ℕ} (c : Call) → Cut 32 line field after → Says c line → (field ≡ word (word_of c)) × Form (word_of c) after
first_word {line} {field} {after} c k (inl s) =
    let e : field ++ (32 ∷ after) ≡ codes "release" = sym k.whole ∙ s.1 in
    absurd (uncut 32 field after (subst (Without 32) (sym e) (word_free release_word)))
first_word {line} {field} {after} c k (inr s) =
    let p = cut_is (word (word_of c)) s.0 k (word_free (word_of c)) s.1 in
    (p.0, form c after (subst (Fields c) (sym p.1) s.2))

pub returns-in_ok-try_from-in-Some : goal.returns-in_ok-try_from-in-Some
returns-in_ok-try_from-in-Some c =
    let k = c.in-Some.ensures in
    let spelled = c.in_ok-try_from-in-Some.ensures in
    MatchResult-weaker c.fields_of.result c.fields_of.ensures
    (λ d h. inr (_, k.whole ∙ ap (λ t. t ++ (32 ∷ c.in-Some.field.after.now)) (spelled ∙ ap word (sym h.0)), h.1))
    (λ e h m d s.
    let p = first_word d k s in
    h m (subst (λ (w : Word). Form w c.in-Some.field.after.now) (same_word _ _ (sym p.0 ∙ spelled)) p.1))

pub returns-in_err-try_from-in-Some : goal.returns-in_err-try_from-in-Some
returns-in_err-try_from-in-Some c =
    let p = err_from_is_err_and c.from_residual.result c.from_residual.ensures.1 in
    rw p.1 (λ m d s. c.in_err-try_from-in-Some.ensures (word_of d) (first_word d c.in-Some.ensures s).0)
