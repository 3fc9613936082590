use Rattle.std.proofs.Common.{rules, ◌≡◌, ◌≤◌, length, take, drop, Some, sym, ap, ◌∙◌, arith}
use Rattle.std.proofs.lemmas.Bool.{cond-true, lt-ltb}
use Rattle.row.specs.Items.{items}
use Rattle.formula.specs.Symbols.{index_of}
use Rattle.formula.specs.Rows.{spanned, names_in}
use Rattle.formula.proofs.Tables.{found_at, found_none, names_size, old_name, numbered}
use Rattle.formula.proofs.variables.Variables.number.Goals as goal

pub returns-in-Some : goal.returns-in-Some
returns-in-Some c =
    let text = c.args.text.now in
    let ss = items c.args.self.now.spans in
    let v = take c.args.span.len (drop c.args.span.place text) in
    let at = found_at text c.slice.result.now ss c.in-Some.k (search rules) in
    let is : index_of v (spanned text ss) ≡ c.in-Some.k = ap (λ w. index_of w (spanned text ss)) (sym c.slice.ensures) ∙ at.1 in
    let few : length ss ≤ 16 = search rules in
    record {
      number = ap Some (sym is) ∙ sym (cond-true _ _ _ (lt-ltb (index_of v (spanned text ss)) 16 (omega (arith, at.0, is, few))));
      names = sym (old_name (spanned text ss) v (omega (arith, at.0, is, names_size text c.args.self.now)));
    }

pub returns : goal.returns
returns c =
    let text = c.args.text.now in
    let v = c.args.self.now in
    let none = found_none text c.slice.result.now (items v.spans) (search rules) in
    let is = ap (λ w. index_of w (names_in text v)) (sym c.slice.ensures) ∙ none in
    let r = numbered text v c.add.new.self c.args.span c.add.result is c.add.ensures in
    record { number = r.0; names = r.1 }
