use Rattle.std.proofs.Common.{rules, ◌≡◌, Some, None, [], ◌∷◌, ◌++◌, vec_items, ap, ◌∙◌, arith}
use Rattle.std.proofs.lemmas.Grind.{common_steps}
use Rattle.std.proofs.lemmas.List.{nil_from_length}
use Rattle.std.proofs.lemmas.Option.{MatchOption-at_none}
use Rattle.std.proofs.lemmas.Result.{err_from_is_err_and}
use Rattle.script.specs.Escapes.{unescaped, onto}
use Rattle.script.proofs.Escaping.{before, before_more, before_none, before_all, codes_stand, plain_stand}
use Rattle.script.proofs.text.unescape.Goals as goal

pub returns-in_err-byte : goal.returns-in_err-byte
returns-in_err-byte c =
    let p = err_from_is_err_and c.from_residual.result c.from_residual.ensures.1 in
    let none : c.first_byte.result ≡ None = grind arith in
    let bytes = vec_items c.loop-rest.bytes in
    record {
      stands = rw p.1 (λ _. c.loop-rest.invariant ∙ ap (before bytes) (MatchOption-at_none _ _ none c.first_byte.ensures) ∙ before_none bytes);
      codes_stand = codes_stand;
      plain_stand = plain_stand;
    }

pub returns-in_err-push-clause-codes_stand : goal.returns-in_err-push-clause-codes_stand
returns-in_err-push-clause-codes_stand c = codes_stand

pub returns-in_err-push-clause-plain_stand : goal.returns-in_err-push-clause-plain_stand
returns-in_err-push-clause-plain_stand c = plain_stand

pub loop-rest-preserved : goal.loop-rest-preserved
loop-rest-preserved c =
    let bytes = vec_items c.loop-rest.bytes in
    let byte = c.in_ok-byte.byte in
    let pushed : vec_items c.push.new.self ≡ bytes ++ byte ∷ [] = search rules in
    let first : unescaped c.loop-rest.rest.now ≡ onto (Some byte) (unescaped c.in_ok-byte.after.now) = search rules in
    let more = before_more c.args.text.now c.loop-rest.rest.now c.in_ok-byte.after.now bytes (vec_items c.push.new.self) byte c.loop-rest.invariant first pushed in
    grind (arith, common_steps, more)

pub returns : goal.returns
returns c =
    let bytes = vec_items c.loop-rest.bytes in
    let end : c.loop-rest.rest.now ≡ [] = nil_from_length _ (search rules) in
    record {
      stands = c.loop-rest.invariant ∙ ap (λ r. before bytes (unescaped r)) end ∙ before_all bytes;
      codes_stand = codes_stand;
      plain_stand = plain_stand;
    }
