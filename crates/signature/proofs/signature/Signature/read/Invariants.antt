use Rattle.std.proofs.Common.{◌≡◌, ◌≤◌, ◌++◌, map, length, take}
use Rattle.std.specs.List.{flat_map}
use Rattle.signature.specs.Lines.{Apart, names}
use Rattle.signature.specs.Texts.{text_of}
use Rattle.signature.specs.Signatures.{line_of}
use Rattle.signature.proofs.signature.Signature.read.Given as goal

abbrev pub invariant-loop-rest : goal.invariant-loop-rest
invariant-loop-rest l = record {
  room : length l.symbols ≡ 64;
  some : 1 ≤ l.count;
  few : l.count ≤ 64;
  whole : l.text ≡ flat_map text_of (map line_of (take l.count l.symbols)) ++ l.rest;
  apart : Apart (names (take l.count l.symbols));
}

abbrev pub decreases-loop-rest : goal.decreases-loop-rest
decreases-loop-rest l = length l.rest
