use Rattle.std.proofs.Common.{◌≡◌, ◌<◌, Bool, true, false, List, length, MatchBool, Decides, get_or, ℕ, refl, subst, arith, rules}
use Rattle.std.specs.List.{HoldsAt, AllWithin}
use Rattle.std.proofs.lemmas.Bool.{false≢true}
use Rattle.std.proofs.lemmas.Iterator.{cases_from_all}
use Rattle.std.proofs.lemmas.Iterator.Consumers.{YieldsList-from_first}
use Rattle.rewriting.specs.Lpo.{LpoAll}
use Rattle.rewriting.specs.Replace.{args}
use Rattle.subterms.specs.Places.{at}
use Rattle.subterms.specs.Rows.{places, ArgumentsAt}
use Rattle.lpo.specs.Seen.{seen_at, Ready, Says, up, low}
use Rattle.lpo.specs.declared.sides.Compared.TheVariants.{Above}
use Rattle.lpo.specs.declared.sides.Sides.{Sides}
use Rattle.lpo.proofs.Lists.{told_above, above_told, all_at, each_at}
use Rattle.lpo.proofs.sides.Sides.each_argument.Goals as goal

module _ (b : Sides) (p q : ℕ) (ready : Ready b p q) (js : List ℕ) (a : ArgumentsAt (low b) q js) where
  says : (k : ℕ) → k < length js → Says (seen_at b p (get_or js k 0)) (at (up b) p) (at (low b) (get_or js k 0))
  says k l = let h = a.behind k 0 l in ready.later p (get_or js k 0) ready.in_upper h.1 (omega (arith, h.0))

  found : (r : Bool) → MatchBool r (AllWithin (λ j. seen_at b p j ≡ Above) js 0 (length js)) ((k : ℕ) × (k < length js) × HoldsAt (λ j. seen_at b p j ≡ Above → ⊥) js k) → Decides r (LpoAll (at (up b) p) (args (at (low b) q)))
  found true h = (λ _. rw (← a.terms) (all_at (low b) _ js (λ k l. told_above _ _ _ (says k l) (h k 0 (omega arith) l))), λ _. refl)
  found false h = (λ e. absurd (false≢true e), λ l. absurd (h.2 0 (above_told _ _ _ (says h.0 h.1) (each_at (low b) _ js (rw a.terms l) h.0 h.1))))

pub returns : goal.returns
returns c =
    let b = c.args.self.now in
    let js = places c.arguments.result in
    let of_lower = subst (λ k. ArgumentsAt (low b) k js) (omega arith) c.arguments.ensures in
    found b c.args.p c.args.q c.requires js of_lower _ (cases_from_all c.all.new.self _ _ (λ j. seen_at b c.args.p j ≡ Above) (λ j. seen_at b c.args.p j ≡ Above → ⊥) c.all.ensures.ran (YieldsList-from_first (λ x. x) places js refl) (λ x f k. search rules) (λ x f k. search rules))
