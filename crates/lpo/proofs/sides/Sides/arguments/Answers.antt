use Rattle.std.proofs.Common.{◌≡◌, ◌<◌, List, length, get_or, map, Option, Some, None, MatchOption, unwrap_or, ℕ, sym, ap, ◌∙◌, subst, arith, rules, tests}
use Rattle.std.specs.List.{zip, HoldsAt, AllWithin}
use Rattle.std.proofs.lemmas.List.{get_or-map, length-map}
use Rattle.std.proofs.lemmas.Slice.Zip.{get_or-zip, length-zip}
use Rattle.std.proofs.lemmas.Iterator.{first_from_find, YieldsList-from_zip, YieldsList-from_map}
use Rattle.std.proofs.lemmas.Iterator.Consumers.{YieldsList-from_first, YieldsList-at}
use Rattle.terms.specs.Term.{width}
use Rattle.rewriting.specs.Replace.{args}
use Rattle.subterms.specs.Places.{at}
use Rattle.subterms.specs.Rows.{places, at_all, ArgumentsAt}
use Rattle.lpo.specs.Seen.{seen_at, Ready, Says, SaysLex, up, low}
use Rattle.lpo.specs.declared.sides.Compared.{Compared}
use Rattle.lpo.specs.declared.sides.Compared.TheVariants.{Equal}
use Rattle.lpo.specs.declared.sides.Sides.{Sides}
use Rattle.lpo.proofs.Lists.{told_equal, all_same, first_says}
use Rattle.lpo.proofs.sides.Sides.arguments.Goals as goal

module _ (b : Sides) (p q : ℕ) (ready : Ready b p q) (is js : List ℕ) (a : ArgumentsAt (up b) p is) (d : ArgumentsAt (low b) q js) (even : width (args (at (up b) p)) ≡ width (args (at (low b) q))) where
  abbrev pair : ℕ × ℕ → Compared
  pair e = seen_at b e.0 e.1

  widths : width (at_all (up b) is) ≡ width (at_all (low b) js)
  widths = ap width a.terms ∙ even ∙ sym (ap width d.terms)

  says : (k : ℕ) → k < length is → k < length js → Says (seen_at b (get_or is k 0) (get_or js k 0)) (at (up b) (get_or is k 0)) (at (low b) (get_or js k 0))
  says k l m =
      let x = a.behind k 0 l in
      let y = d.behind k 0 m in
      ready.later (get_or is k 0) (get_or js k 0) x.1 y.1 (omega (arith, x.0, y.0))

  read : (k : ℕ) → k < length is → k < length js → get_or (map pair (zip is js)) k Equal ≡ seen_at b (get_or is k 0) (get_or js k 0)
  read k l m = get_or-map pair (zip is js) k (0, 0) Equal (omega (arith, length-zip is js)) ∙ ap pair (get_or-zip is js k (0, 0) l m)

  found : (r : Option Compared) → MatchOption r (AllWithin (λ x. x ≡ Equal) (map pair (zip is js)) 0 (length (map pair (zip is js)))) (λ x. (x ≡ Equal → ⊥) × (k : ℕ) × (k < length (map pair (zip is js))) × HoldsAt (λ y. y ≡ x) (map pair (zip is js)) k × AllWithin (λ y. y ≡ Equal) (map pair (zip is js)) 0 k) → SaysLex (unwrap_or r Equal) (args (at (up b) p)) (args (at (low b) q))
  found None h =
      let size = length-map (zip is js) pair in
      rw (← a.terms, ← d.terms) (all_same (up b) (low b) is js widths (λ k l m. told_equal _ _ _ (says k l m) (sym (read k l m) ∙ h k Equal (omega arith) (omega (arith, size, length-zip is js)))))
  found (Some x) h =
      let k = h.1 in
      let size = length-map (zip is js) pair in
      let l : k < length is = omega (arith, h.2, size, length-zip is js) in
      let m : k < length js = omega (arith, h.2, size, length-zip is js) in
      let same : (n : ℕ) → n < k → at (up b) (get_or is n 0) ≡ at (low b) (get_or js n 0) = λ n e.
      let l' : n < length is = omega arith in
      let m' : n < length js = omega arith in
      told_equal _ _ _ (says n l' m') (sym (read n l' m') ∙ h.4 n Equal (omega arith) e) in
      let here = subst (λ r. Says r (at (up b) (get_or is k 0)) (at (low b) (get_or js k 0))) (sym (read k l m) ∙ h.3 Equal) (says k l m) in
      rw (← a.terms, ← d.terms) (first_says (up b) (low b) x is js k widths l m same here h.0)

pub returns : goal.returns
returns c =
    let b = c.args.self.now in
    let is = places c.arguments.result in
    let js = places c.arguments-2.result in
    rw c.unwrap_or.ensures (found b c.args.p c.args.q c.requires.0 is js c.arguments.ensures c.arguments-2.ensures c.requires.1 _ (first_from_find c.find.new.self _ _ (λ x. x ≡ Equal → ⊥) (λ x. x ≡ Equal) c.find.ensures.ran (YieldsList-from_map _ (λ (e : ℕ × ℕ). seen_at b e.0 e.1) (YieldsList-at c.map.ensures.source (YieldsList-from_zip (YieldsList-from_first (λ x. x) places is (ap places c.zip.ensures.first)) (YieldsList-from_first (λ x. x) places js (ap places c.zip.ensures.second)))) c.map.ensures.closure (λ e r f k. search (rules, tests))) (λ x f k. search rules) (λ x f k. search rules)))
