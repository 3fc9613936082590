use Rattle.std.proofs.Common.{arith}
use Rattle.entries.specs.Stored.{map_of, numbers_of}
use Rattle.entries.proofs.Stores.{stores}
use Rattle.offers.proofs.Numbering.{inserted}
use Rattle.offers.proofs.Patterns.add.Goals as goal

pub returns : goal.returns
returns c = λ ps k.
    let s = c.args.self.now in
    let p = c.args.pattern.now in
    let tree = s.tree.inner.entries in
    let list = s.list.entries in (
      omega (arith, k.last),
      record {
        tree = inserted ps p (map_of tree) (map_of c.insert.new.self.inner.entries) (numbers_of tree) 64 _ c.insert.result k.tree (stores tree) (omega (arith, k.last)) (omega (arith, k.last)) c.insert.ensures;
        list = inserted ps p (map_of list) (map_of c.insert-2.new.self.entries) (numbers_of list) 128 _ c.insert-2.result k.list (stores list) (omega (arith, k.last)) (omega (arith, k.last)) c.insert-2.ensures;
        last = omega (arith, k.last);
        few = omega (arith, k.last);
      },
    )
