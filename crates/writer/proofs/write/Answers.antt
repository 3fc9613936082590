use Rattle.std.proofs.Common.{◌≡◌, ◌∷◌, ◌++◌, ◌+◌, ℕ, List, length, take, append_assoc, drop, reverse, refl, sym, ap, ◌∙◌, arith}
use Rattle.std.proofs.lemmas.List.{drop-drop}
use Rattle.signature.specs.Signatures.{sig_of, names_of}
use Rattle.signature.specs.Written.{written}
use Rattle.bank.proofs.Readings.{means_one, reads}
use Rattle.writer.specs.declared.walk.Frame.TheVariants.{Whole}
use Rattle.writer.proofs.Walking.{put_on, was_ok, start}
use Rattle.writer.proofs.write.Goals as goal

pub loop-piece-init : goal.loop-piece-init
loop-piece-init c =
    let ns = names_of c.args.signature.now in
    let b = c.args.cells.now in
    let r = reads (sig_of c.args.signature.now) b c.requires.rules c.args.cell c.requires.counted in
    let pushed = was_ok _ _ c.push.result c.ok.result _ c.ok.ensures.value c.in_ok-ok.was c.push.ensures in
    let is = put_on c.clear.new.self c.push.new.self (Whole c.args.cell) pushed.1 ∙ ap (λ fs. Whole c.args.cell ∷ fs) (ap reverse c.clear.ensures) in
    (written ns r.0, rw is (start ns b c.args.cell r.0 r.1 c.requires.counted), omega arith, refl, refl, λ t h. ap (written ns) (means_one b r.1 h))

pub advance-requires : goal.advance-requires
advance-requires c = record { rules = c.requires.rules; deep = c.requires.deep; left = (c.loop-piece.invariant.0, c.loop-piece.invariant.1) }

further : (m n : ℕ) (xs ys : List ℕ) → drop m xs ≡ drop m ys → drop (m + n) xs ≡ drop (m + n) ys
further m n xs ys e = sym (drop-drop n m xs) ∙ ap (drop n) e ∙ drop-drop n m ys

pub loop-piece-preserved : goal.loop-piece-preserved
loop-piece-preserved c =
    let inv = c.loop-piece.invariant in
    let told = c.in_ok-len.ensures.does in
    let turned = c.in-Some.ensures inv.0 inv.1 in
    let was = c.loop-piece.buffer in
    let len = c.loop-piece.len in
    let bytes = c.as_slice.result.now in (
      turned.rest,
      turned.left,
      omega (arith, told.1, c.in_ok-len.ensures.size),
      c.in_ok-len.ensures.size ∙ inv.3,
      told.3 ∙ ap (λ (k : ℕ). drop k was) told.0 ∙ further len (length bytes) was c.args.buffer.now inv.4 ∙ sym (ap (λ (k : ℕ). drop k c.args.buffer.now) told.0),
      λ t h. ap (λ y. y ++ turned.rest) told.2 ∙ append_assoc (take len was) bytes turned.rest ∙ ap (λ y. take len was ++ (y ++ turned.rest)) c.as_slice.ensures.is ∙ ap (λ y. take len was ++ y) (sym turned.is) ∙ inv.5 t h,
    )
