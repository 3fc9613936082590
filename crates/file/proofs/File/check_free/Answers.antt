use Rattle.std.proofs.Common.{sym, refl, ◌∙◌, inr, arith}
use Rattle.file.proofs.Pairs.{free}
use Rattle.file.proofs.Sizes.{sizes}
use Rattle.file.proofs.File.check_free.Goals as goal

pub returns-then-len-CAPACITY : goal.returns-then-len-CAPACITY
returns-then-len-CAPACITY g c k =
    let size = sizes _ _ c.args.self.now.lowers (g.met.I.Index.stores c.args.self.now.index) k in
    inr (free _ _ _ c.get.result k c.get.ensures (sym c.is_ok.ensures.value ∙ c.if-is_ok.false), omega (arith, size, c.len.ensures), refl)

pub returns : goal.returns
returns g c k =
    let size = sizes _ _ c.args.self.now.lowers (g.met.I.Index.stores c.args.self.now.index) k in
    (free _ _ _ c.get.result k c.get.ensures (sym c.is_ok.ensures.value ∙ c.if-is_ok.false), omega (arith, size, c.len.ensures))
