use Rattle.std.proofs.Common.{◌≡◌, ◌+◌, ◌-◌, ◌*◌, ◌<◌, true, length, get_or, drop, decimal, sym, ap, ◌∙◌, arith, rules}
use mathlib.Core.Bool.{false≢true}
use Rattle.std.specs.Str.{all_ascii_digits}
use Rattle.std.proofs.lemmas.List.{drop_more, drop_all}
use Rattle.std.proofs.lemmas.Bool.{and_left}
use Rattle.std.proofs.lemmas.Fmt.{decimal-digits_value}
use Rattle.fields.proofs.Digits.{own, value, value_grows, digits_all, value_is, length_some, zero_alone}
use Rattle.fields.proofs.number.Goals as goal

pub returns-in-empty : goal.returns-in-empty
returns-in-empty c n most is =
    let none : length c.args.text.now < 1 = search rules in
    omega (arith, length_some c.args.text.now n (omega arith) is)

pub returns-in-empty-2 : goal.returns-in-empty-2
returns-in-empty-2 c n most is = zero_alone c.args.text.now n (omega arith) is (search rules) (search rules)

pub returns-then-not-is_ascii_digit : goal.returns-then-not-is_ascii_digit
returns-then-not-is_ascii_digit c n most is =
    let t = c.args.text.now in
    let i = c.loop-digit.digit-index in
    let e = drop_more t i 0 c.loop-digit-test.true in
    let other = and_left _ (all_ascii_digits (drop (i + 1) t)) (sym c.if-not-is_ascii_digit.ensures.value) in
    false≢true (sym other ∙ ap all_ascii_digits (sym e) ∙ c.loop-digit.invariant.2 ∙ digits_all t n (omega arith) is)

pub returns-then-n-most : goal.returns-then-n-most
returns-then-n-most c n most is =
    let t = c.args.text.now in
    let i = c.loop-digit.digit-index in
    let e = ap (value c.loop-digit.n) (drop_more t i 0 c.loop-digit-test.true) in
    omega (arith, e, c.loop-digit.invariant.1, value_is t n (omega arith) is, value_grows (10 * c.loop-digit.n + (get_or t i 0 - 48)) (drop (i + 1) t), c.if-n-most.true)

pub returns : goal.returns
returns c =
    let t = c.args.text.now in
    let end = drop_all c.loop-digit.digit-index t c.loop-digit-test.false in
    let is : c.loop-digit.n ≡ value 0 t = rw end at c.loop-digit.invariant.1 in
    let all : all_ascii_digits t ≡ true = sym (rw end at c.loop-digit.invariant.2) in
    let some : 0 < length t = search rules in
    let first : get_or t 0 0 ≡ 48 → length t ≡ 1 = search rules in
    let written = decimal-digits_value own t all some first (omega (arith, is, c.loop-digit.invariant.0)) in
    (c.loop-digit.invariant.0, sym written ∙ ap decimal (sym is))
