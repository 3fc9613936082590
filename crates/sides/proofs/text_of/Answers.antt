use Rattle.std.proofs.Common.{◌≤◌, length, ◌∙◌, take-take, arith}
use Rattle.std.proofs.lemmas.Result.{err_from_is_err_and}
use lib.Seq.{take-append-le}
use Rattle.sides.proofs.text_of.Goals as goal

pub returns-in_err-len : goal.returns-in_err-len
returns-in_err-len c =
    let p = err_from_is_err_and c.from_residual-in_err-len.result c.from_residual-in_err-len.ensures.1 in
    rw p.1 tt

pub returns : goal.returns
returns c =
    let wrote = c.in_ok-len.ensures.2 in
    let few : c.in_ok-len.len ≤ c.in_ok-text.text.len = omega (arith, wrote.within, c.as_mut_slice.ensures.len) in
    let inside : c.in_ok-len.len ≤ length c.write_term.new.buffer = omega (arith, wrote.within, c.write_term.auto.buffer) in
    record {
      readable = c.in_ok-len.ensures.1;
      term = wrote.term;
      means = wrote.means;
      is = c.truncate.ensures.items ∙ take-take c.in_ok-len.len c.in_ok-text.text.len _ few ∙ take-append-le c.in_ok-len.len c.write_term.new.buffer _ inside ∙ wrote.front;
    }
