-- What is written of a cell is the text of the term that was entered there.
use Rattle.std.proofs.Common.{ℕ, ◌≤◌, List, length, take, sym, ap, ◌∙◌}
use Rattle.std.proofs.lemmas.List.{length-take-le}
use Rattle.terms.specs.Term.{Term}
use Rattle.signature.specs.Signatures.{sig_of, names_of}
use Rattle.signature.specs.Written.{written}
use Rattle.signature.specs.declared.signature.Signature.{Signature}
use Rattle.bank.specs.declared.cell.Cell.{Cell}
use Rattle.bank.proofs.Readings.{laws}
use Rattle.enter.specs.Grown.{Grown}
use Rattle.sides.specs.Rules.{Held, Told}

pub held : (s : Signature) (before cells : List Cell) (t : Term) (i n : ℕ) (text : List ℕ) → Grown (sig_of s) before t (take n cells) i → n ≤ length cells → Told s cells n i text → Held s t before (take n cells) n text
held s before cells t i n text g le told = record {
  cell = i;
  grown = g;
  counted = sym (length-take-le n cells le);
  is = told.is ∙ ap (written (names_of s)) ((laws (sig_of s) (take n cells) g.rules).one i told.term t told.means g.means);
}
