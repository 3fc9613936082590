-- Reading a text gives one thing only: two rows of well-formed lines at the front of one text agree ls far ls both go.
use Rattle.std.proofs.Common.{◌≡◌, ℕ, suc, ◌<◌, ◌≤◌, List, [], ◌∷◌, ◌++◌, length, Ok, Err, sym, refl, ap, ◌∙◌, subst, ap₂, inl, inr, append_assoc, append-nil, arith, length-append}
use Rattle.std.specs.List.{flat_map, AllByRecursion}
use Rattle.refusal.specs.declared.Refusal.{Refusal}
use Rattle.refusal.specs.declared.Refusal.TheVariants.{SignatureLine}
use Rattle.signature.specs.Texts.{Line, text_of, WellFormed, Sound, Accepted, Refused, ReadsOnce}
use Rattle.signature.proofs.Cuts.{line_once, text_some}
use Rattle.signature.proofs.Sounds.{sound_front}

data Compared (ls ms : List Line) (x y : List ℕ) : Type 0 where
  same : ls ≡ ms → x ≡ y → Compared ls ms x y
  left_ends : (b : Line) (more : List Line) → ms ≡ ls ++ b ∷ more → x ≡ text_of b ++ (flat_map text_of more ++ y) → Compared ls ms x y
  right_ends : (a : Line) (more : List Line) → ls ≡ ms ++ a ∷ more → y ≡ text_of a ++ (flat_map text_of more ++ x) → Compared ls ms x y

extend : (a b : Line) (ls ms : List Line) (x y : List ℕ) → a ≡ b → Compared ls ms x y → Compared (a ∷ ls) (b ∷ ms) x y
extend a b ls ms x y e (same p q) = same (ap₂ ◌∷◌ e p) q
extend a b ls ms x y e (left_ends c more p q) = left_ends c more (ap₂ ◌∷◌ (sym e) p) q
extend a b ls ms x y e (right_ends c more p q) = right_ends c more (ap₂ ◌∷◌ e p) q

compare : (ls ms : List Line) (x y : List ℕ) → AllByRecursion WellFormed ls → AllByRecursion WellFormed ms → flat_map text_of ls ++ x ≡ flat_map text_of ms ++ y → Compared ls ms x y
compare [] [] x y ha hb e = same refl e
compare [] (b ∷ ms) x y ha hb e = left_ends b ms refl (e ∙ append_assoc (text_of b) (flat_map text_of ms) y)
compare (a ∷ ls) [] x y ha hb e = right_ends a ls refl (sym e ∙ append_assoc (text_of a) (flat_map text_of ls) x)
compare (a ∷ ls) (b ∷ ms) x y ha hb e =
    let r = line_once a b (flat_map text_of ls ++ x) (flat_map text_of ms ++ y) ha.0 hb.0 (sym (append_assoc (text_of a) (flat_map text_of ls) x) ∙ e ∙ append_assoc (text_of b) (flat_map text_of ms) y) in
    extend a b ls ms x y r.0 (compare ls ms x y ha.1 hb.1 r.1)

not_empty : (l : Line) (more : List ℕ) → [] ≡ text_of l ++ more → ⊥
not_empty l more e = omega (arith, ap length e, length-append (text_of l) more, text_some l)

longer : (ls ms more : List Line) (l : Line) → ls ≡ ms ++ l ∷ more → length ms < length ls
longer ls ms more l e = omega (arith, ap length e, length-append ms (l ∷ more))

-- after the lines of a refusal comes no good line
stops : {text : List ℕ} {e : Refusal} (r : Refused text e) (ls more : List Line) (l : Line) (x : List ℕ) → ls ≡ r.before ++ l ∷ more → Sound ls → length ls ≤ 64 → r.rest ≡ text_of l ++ x → ⊥
stops r ls more l x e s few f =
    elim r.why [
      | inl bad ↦ bad.bad l x (sound_front (r.before ++ l ∷ []) more (subst Sound (e ∙ sym (append_assoc r.before (l ∷ []) more)) s)) f
      | inr many ↦ omega (arith, longer ls r.before more l e, many.all)
    ]

both_accepted : (text : List ℕ) (ls ms : List Line) → Accepted text ls → Accepted text ms → ls ≡ ms
both_accepted text ls ms p q =
    let e = append-nil (flat_map text_of ls) ∙ sym p.whole ∙ q.whole ∙ sym (append-nil (flat_map text_of ms)) in
    elim (compare ls ms [] [] p.sound.each q.sound.each e) [
      | same h k ↦ h
      | left_ends b more h k ↦ absurd (not_empty b _ k)
      | right_ends a more h k ↦ absurd (not_empty a _ k)
    ]

never_both : (text : List ℕ) (ls : List Line) (e : Refusal) → Accepted text ls → Refused text e → ⊥
never_both text ls e p r =
    let f = append-nil (flat_map text_of ls) ∙ sym p.whole ∙ r.whole in
    elim (compare ls r.before [] r.rest p.sound.each r.sound.each f) [
      | same h k ↦ elim r.why [
        | inl bad ↦ omega (arith, p.some, ap length (h ∙ bad.more (sym k)))
        | inr many ↦ many.more (sym k)
      ]
      | left_ends b more h k ↦ not_empty b _ k
      | right_ends a more h k ↦ stops r ls more a _ h p.sound p.few k
    ]

at_most : {text : List ℕ} {e : Refusal} (r : Refused text e) → length r.before ≤ 64
at_most r = elim r.why [ inl bad ↦ omega (arith, bad.few) | inr many ↦ omega (arith, many.all) ]

both_refused : (text : List ℕ) (d e : Refusal) → Refused text d → Refused text e → d ≡ e
both_refused text d e p q =
    elim (compare p.before q.before p.rest q.rest p.sound.each q.sound.each (sym p.whole ∙ q.whole)) [
      | same h k ↦ p.is ∙ ap (λ (ks : List Line). SignatureLine (suc (length ks))) h ∙ sym q.is
      | left_ends b more h k ↦ absurd (stops p q.before more b _ h q.sound (at_most q) k)
      | right_ends a more h k ↦ absurd (stops q p.before more a _ h p.sound (at_most p) k)
    ]

pub once : ReadsOnce
once text (Ok ls) (Ok ms) p q = ap Ok (both_accepted text ls ms p q)
once text (Ok ls) (Err e) p q = absurd (never_both text ls e p q)
once text (Err d) (Ok ms) p q = absurd (never_both text ms d q p)
once text (Err d) (Err e) p q = ap Err (both_refused text d e p q)
