use Rattle.file.proofs.Pairs.{inserts}
use Rattle.file.proofs.Sizes.{sizes}
use Rattle.file.proofs.File.insert.Goals as goal

pub returns : goal.returns
returns g c = record {
  kept = λ k. (inserts _ _ _ _ _ _ _ _ c.args.rule.now _ k (sizes _ _ c.args.self.now.lowers (g.met.I.Index.stores c.args.self.now.index) k) g.met.I.Index.most c.in_ok-insert.ensures c.insert-2.ensures).0;
  inserted = λ k. (inserts _ _ _ _ _ _ _ _ c.args.rule.now _ k (sizes _ _ c.args.self.now.lowers (g.met.I.Index.stores c.args.self.now.index) k) g.met.I.Index.most c.in_ok-insert.ensures c.insert-2.ensures).1;
}
