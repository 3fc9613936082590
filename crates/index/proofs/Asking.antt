-- A checked bank may be asked about.
use Rattle.std.proofs.Common.{◌≡◌, ℕ, List, length, take, Ok, arith}
use Rattle.std.proofs.lemmas.List.{length-take-le}
use Rattle.terms.specs.Sig.{Sig}
use Rattle.bank.specs.declared.cell.Cell.{Cell}
use Rattle.index.specs.Questions.{Asked, MayAsk}

pub asked : (S : Sig) (cells : List Cell) (n i capacity : ℕ) (list : List ℕ) → MayAsk S cells n i capacity (length list) (Ok tt) → Asked S (take n cells) i capacity list
asked S cells n i capacity list h =
    let k = h.1.0 in
    let size : length (take n cells) ≡ n = length-take-le n cells k.counted in
    record {
      few = omega (arith, size, k.counted, h.0.0.1);
      rules = k.rules;
      counted = omega (arith, size, h.1.1);
      room = h.0.1;
    }

pub at_capacity : (S : Sig) (cells : List Cell) (n i c capacity room : ℕ) → c ≡ capacity → MayAsk S cells n i c room (Ok tt) → MayAsk S cells n i capacity room (Ok tt)
at_capacity S cells n i c capacity room e h = ((h.0.0, omega (arith, h.0.1, e)), h.1)
