-- A signature as mathematics has it.
use Rattle.std.specs.Prelude.{ℕ, List, map, length, Ok, Err, Result, slice_index, slice_index_or}
use Rattle.terms.specs.Sig.{Sig}
use Rattle.row.specs.Items.{items}
use Rattle.refusal.specs.declared.Refusal.{Refusal}
use Rattle.signature.specs.Lines.{names, spelled}
use Rattle.signature.specs.Texts.{Line}
use Rattle.signature.specs.declared.symbol.Symbol.{Symbol}
use Rattle.signature.specs.declared.signature.Signature.{Signature}

-- the symbols by line, the first line's number being 0
abbrev pub symbols_of : Signature → List Symbol
symbols_of s = items s.symbols

abbrev pub arities : List Symbol → List ℕ
arities ss = map (λ (s : Symbol). s.arity) ss

abbrev pub weights : List Symbol → List ℕ
weights ss = map (λ (s : Symbol). s.weight) ss

-- a number without a line has arity 0 and weight 1 here, which no term over the signature sees
abbrev pub sig_of : Signature → Sig
sig_of s = record {
  symbols = length (symbols_of s);
  arity = λ f. slice_index (arities (symbols_of s)) f;
  weight = λ f. slice_index_or (weights (symbols_of s)) f 1;
}

abbrev pub names_of : Signature → List (List ℕ)
names_of s = names (symbols_of s)

abbrev pub line_of : Symbol → Line
line_of s = record { name = spelled s.name; arity = s.arity; weight = s.weight }

abbrev pub lines_of : Signature → List Line
lines_of s = map line_of (symbols_of s)

abbrev pub lines_read : Result Signature Refusal → Result (List Line) Refusal
lines_read (Ok s) = Ok (lines_of s)
lines_read (Err e) = Err e
