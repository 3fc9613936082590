use Rattle.std.proofs.Common.{◌≡◌, ◌<◌, ◌≤◌, ℕ, List, length, take, drop, Option, Some, None, Ok, Err, Result, MatchOption, IfSome, sym, subst, ◌∙◌, arith}
use Rattle.std.specs.Option.{ok_or}
use Rattle.std.proofs.lemmas.List.{length-take-le}
use Rattle.refusal.specs.declared.Refusal.{Refusal}
use Rattle.refusal.specs.declared.Refusal.TheVariants.{BufferTooShort}
use Rattle.terms.specs.Term.{Term}
use Rattle.signature.specs.Signatures.{names_of}
use Rattle.signature.specs.Written.{written}
use Rattle.signature.specs.declared.signature.Signature.{Signature}
use Rattle.bank.specs.declared.cell.Cell.{Cell}
use Rattle.bank.specs.Means.{Means}
use Rattle.writer.specs.Outcome.{Outcome, Within, Readable}
use Rattle.writer.proofs.write_term.Goals as goal

-- what `ok_or` and `?` say: the text is short enough
short : (A B : Type 0) (r : Option (Unit {0})) (o : Result (Unit {0}) Refusal) (u : Unit {0}) → o ≡ ok_or r BufferTooShort → o ≡ Ok u → MatchOption r A (λ _. B) → B
short A B None o u e is h = let q : ◌≡◌ {A = Result (Unit {0}) Refusal} (Err BufferTooShort) (Ok u) = sym e ∙ is in absurd (cc)
short A B (Some v) o u e is h = h

-- so what is written is the answer
answered : (s : Signature) (cells : List Cell) (n i : ℕ) (before after : List ℕ) → Within cells before → Readable s cells n i → (t : Term) → Means (take n cells) i t → length (written (names_of s) t) ≤ length before
    → (r : Option ℕ) (o : Result ℕ Refusal) → o ≡ ok_or r BufferTooShort → IfSome r (λ k. (k ≤ length before) × (drop k after ≡ drop k before)) → MatchOption r (length before < length (written (names_of s) t)) (λ k. take k after ≡ written (names_of s) t)
    → Outcome s cells n i before after o
answered s cells n i before after limits reads t means few None o e within text = absurd (omega arith)
answered s cells n i before after limits reads t means few (Some k) o e within text =
    subst (Outcome s cells n i before after) (sym e) (limits, reads, record { term = t; means = means; within = within.0; front = text; rest = within.1 })

pub returns : goal.returns
returns c =
    let sound = c.in_ok-keeps_rules.ensures in
    let n : c.args.cell < c.args.count.now.len = omega arith in
    let size = length-take-le c.args.count.now.len c.args.cells.now sound.keeps.counted in
    let r = sound.laws.reads c.args.cell (omega (arith, n, size)) in
    let few = short _ _ c.fits.result c.ok_or.result _ c.ok_or.ensures.value c.in_ok-ok_or.was (c.fits.ensures r.0 r.1) in
    answered c.args.signature.now c.args.cells.now c.args.count.now.len c.args.cell c.args.buffer.now c.write.new.buffer (sound.sized, c.if-buffer-gt65536.false) (sound.keeps, n) r.0 r.1 few c.write.result c.ok_or-2.result c.ok_or-2.ensures.value c.write.ensures.within (c.write.ensures.text r.0 r.1)
