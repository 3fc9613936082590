use Rattle.std.proofs.Common.{◌≡◌, ◌≤◌, drop}
use Rattle.std.specs.Str.{all_ascii_digits}
use Rattle.fields.proofs.Digits.{value}
use Rattle.fields.proofs.number.Given as goal

abbrev pub invariant-loop-digit : goal.invariant-loop-digit
invariant-loop-digit l =
    (l.n ≤ l.most) × (value l.n (drop l.digit-index l.text) ≡ value 0 l.text) × (all_ascii_digits (drop l.digit-index l.text) ≡ all_ascii_digits l.text)
