use Rattle.std.proofs.Common.{◌∷◌, ◌+◌, length, reverse, ap, ◌∙◌}
use Rattle.signature.specs.Signatures.{sig_of, names_of}
use Rattle.signature.specs.Written.{written}
use Rattle.bank.proofs.Readings.{means_one, reads}
use Rattle.writer.specs.declared.walk.Frame.TheVariants.{Whole}
use Rattle.writer.proofs.Walking.{put_on, was_ok, start}
use Rattle.writer.proofs.fits.Goals as goal

pub loop-piece-init : goal.loop-piece-init
loop-piece-init c =
    let ns = names_of c.args.signature.now in
    let b = c.args.cells.now in
    let r = reads (sig_of c.args.signature.now) b c.requires.rules c.args.cell c.requires.counted in
    let pushed = was_ok _ _ c.push.result c.ok.result _ c.ok.ensures.value c.in_ok-ok.was c.push.ensures in
    let is = put_on c.clear.new.self c.push.new.self (Whole c.args.cell) pushed.1 ∙ ap (λ fs. Whole c.args.cell ∷ fs) (ap reverse c.clear.ensures) in
    (written ns r.0, rw is (start ns b c.args.cell r.0 r.1 c.requires.counted), λ t h. ap (λ u. length (written ns u) + c.args.limit) (means_one b r.1 h))
