use Rattle.std.proofs.Common.{rules, ◌≡◌, ◌+◌, ◌<◌, ◌≤◌, [], ◌∷◌, ◌++◌, None, length, take, set, arith, map, refl, inr, ap, append-nil, ◌∙◌, subst}
use Rattle.std.specs.List.{flat_map}
use Rattle.std.proofs.lemmas.List.{length-map, length-set, length-take-le, take_more_set, nil_from_length}
use Rattle.std.proofs.lemmas.Option.{MatchOption-at_none}
use Rattle.std.proofs.lemmas.Result.{err_from_is_err_and}
use Rattle.refusal.specs.declared.Refusal.TheVariants.{SignatureLine}
use Rattle.signature.specs.Lines.{spelled}
use Rattle.signature.specs.Texts.{text_of, Refused}
use Rattle.signature.specs.Signatures.{line_of}
use Rattle.signature.proofs.Symbols.{taken_at, free}
use Rattle.signature.proofs.Sounds.{bad_line, refused, last_well, bad_again, text_more, apart_more, sound_lines}
use Rattle.signature.proofs.Once.{once}
use Rattle.signature.proofs.signature.Signature.read.Goals as goal

pub returns-in_default-clause-once : goal.returns-in_default-clause-once
returns-in_default-clause-once c = once

-- the first line's symbol is the only one
pub loop-rest-init : goal.loop-rest-init
loop-rest-init c =
    let y = c.in-Some.first in
    let line : c.args.text.now ≡ text_of (line_of y) ++ c.in-Some.after.now = search rules in
    record {
      room = refl;
      some = omega arith;
      few = omega arith;
      whole = text_more [] y c.args.text.now c.args.text.now _ refl line;
      apart = λ i j d lt within e. omega arith;
    }

pub returns-in_err-symbol : goal.returns-in_err-symbol
returns-in_err-symbol c =
    let p = err_from_is_err_and c.from_residual.result c.from_residual.ensures.1 in
    let inv = c.loop-rest.invariant in
    let ss = take c.loop-rest.count c.loop-rest.symbols in
    let size : length ss ≡ c.loop-rest.count = length-take-le c.loop-rest.count c.loop-rest.symbols (omega (arith, inv.room, inv.few)) in
    let none : c.first_line-in-loop-rest.result ≡ None = grind arith in
    let is : c.in_err-symbol.field-0.0 ≡ SignatureLine (c.loop-rest.count + 1) = grind arith in
    let some : 0 < length c.loop-rest.rest.now = search rules in
    record {
      outcome = rw (p.1, p.2, is) (subst (λ n. Refused c.args.text.now (SignatureLine (n + 1))) size (bad_line c.args.text.now c.loop-rest.rest.now ss inv.whole inv.apart (omega (arith, size, inv.few)) (λ e. absurd (omega (arith, some, ap length e)))
          (λ l after s e. MatchOption-at_none _ _ none c.first_line-in-loop-rest.ensures l after (last_well (map line_of ss) l s) e)));
      once = once;
    }

pub returns-then-is_taken : goal.returns-then-is_taken
returns-then-is_taken c =
    let inv = c.loop-rest.invariant in
    let ss = take c.loop-rest.count c.loop-rest.symbols in
    let size : length ss ≡ c.loop-rest.count = length-take-le c.loop-rest.count c.loop-rest.symbols (omega (arith, inv.room, inv.few)) in
    let y = c.in_ok-symbol.symbol in
    let at = taken_at ss (spelled y.name) (search rules) in
    let line : c.loop-rest.rest.now ≡ text_of (line_of y) ++ c.in_ok-symbol.after.now = search rules in
    let some : 0 < length c.loop-rest.rest.now = search rules in
    record {
      outcome = subst (λ n. Refused c.args.text.now (SignatureLine (n + 1))) size (bad_line c.args.text.now c.loop-rest.rest.now ss inv.whole inv.apart (omega (arith, size, inv.few)) (λ e. absurd (omega (arith, some, ap length e)))
          (bad_again ss y c.loop-rest.rest.now c.in_ok-symbol.after.now at.0 line at.1 at.2));
      once = once;
    }

pub returns-then-count-eq64 : goal.returns-then-count-eq64
returns-then-count-eq64 c =
    let inv = c.loop-rest.invariant in
    let ss = take c.loop-rest.count c.loop-rest.symbols in
    let size : length ss ≡ c.loop-rest.count = length-take-le c.loop-rest.count c.loop-rest.symbols (omega (arith, inv.room, inv.few)) in
    let some : 0 < length c.loop-rest.rest.now = search rules in
    record {
      outcome = subst (λ n. Refused c.args.text.now (SignatureLine (n + 1))) size (refused c.args.text.now c.loop-rest.rest.now ss inv.whole inv.apart
          (inr (record { all = omega (arith, length-map ss line_of, size, c.if-count-eq64.true); more = λ e. omega (arith, some, ap length e) })));
      once = once;
    }

pub loop-rest-preserved : goal.loop-rest-preserved
loop-rest-preserved c =
    let inv = c.loop-rest.invariant in
    let count = c.loop-rest.count in
    let symbols = c.loop-rest.symbols in
    let ss = take count symbols in
    let y = c.in_ok-symbol.symbol in
    let few : count + 1 ≤ 64 = omega (arith, inv.few, c.if-count-eq64.false) in
    let fits : count < length symbols = omega (arith, inv.room, few) in
    let absent = free ss (spelled y.name) (search rules) in
    let more : take (count + 1) (set symbols count y) ≡ ss ++ y ∷ [] = take_more_set symbols count y fits in
    let line : c.loop-rest.rest.now ≡ text_of (line_of y) ++ c.in_ok-symbol.after.now = search rules in
    record {
      room = length-set symbols count y ∙ inv.room;
      some = omega arith;
      few = few;
      whole = rw more (text_more ss y c.args.text.now c.loop-rest.rest.now _ inv.whole line);
      apart = rw more (apart_more ss y inv.apart absent);
    }

pub returns : goal.returns
returns c =
    let inv = c.loop-rest.invariant in
    let ss = take c.loop-rest.count c.loop-rest.symbols in
    let size : length (map line_of ss) ≡ c.loop-rest.count = length-map ss line_of ∙ length-take-le c.loop-rest.count c.loop-rest.symbols (omega (arith, inv.room, inv.few)) in
    let end : c.loop-rest.rest.now ≡ [] = nil_from_length _ (search rules) in
    record {
      outcome = rw c.front-symbols.ensures (record {
        whole = inv.whole ∙ ap (λ r. flat_map text_of (map line_of ss) ++ r) end ∙ append-nil (flat_map text_of (map line_of ss));
        sound = sound_lines ss inv.apart;
        some = omega (arith, size, inv.some);
        few = omega (arith, size, inv.few);
      });
      once = once;
    }
