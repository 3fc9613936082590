use Rattle.discrimination_tree.proofs.Loosely.{candidates}
use Rattle.discrimination_tree.proofs.methods.DiscriminationTreeIndex.retrieve.Goals as goal

pub returns : goal.returns
returns c = record {
  within = c.retrieve_loose.ensures.within;
  finds = λ S a. candidates _ _ _ _ (c.retrieve_loose.ensures.finds S a);
}
