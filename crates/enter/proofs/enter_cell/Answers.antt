use Rattle.std.proofs.Common.{arith}
use Rattle.enter.proofs.Noting.{put_gives, put_grew}
use Rattle.enter.proofs.enter_cell.Goals as goal

pub returns : goal.returns
returns c = record {
  gives = λ h l. put_gives _ _ _ _ _ _ h c.put.ensures;
  grew = λ h. put_grew _ _ _ _ _ _ h c.put.ensures;
  refuses = λ out. absurd (out (omega arith, omega arith));
}
