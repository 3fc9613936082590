use Rattle.std.proofs.Common.{◌≡◌, ◌<◌, Bool, true, false, List, length, MatchBool, Decides, get_or, ℕ, refl, arith, rules}
use Rattle.std.specs.List.{HoldsAt, AllWithin}
use Rattle.std.proofs.lemmas.Bool.{false≢true}
use Rattle.std.proofs.lemmas.Iterator.{cases_from_any}
use Rattle.std.proofs.lemmas.Iterator.Consumers.{YieldsList-from_first}
use Rattle.rewriting.specs.Lpo.{LpoSome}
use Rattle.rewriting.specs.Replace.{args}
use Rattle.subterms.specs.Places.{at}
use Rattle.subterms.specs.Rows.{places, ArgumentsAt}
use Rattle.lpo.specs.Seen.{seen_at, Ready, Says, up, low}
use Rattle.lpo.specs.declared.sides.Compared.TheVariants.{Neither}
use Rattle.lpo.specs.declared.sides.Sides.{Sides}
use Rattle.lpo.proofs.Lists.{told_some, told_none, some_at, some_nowhere}
use Rattle.lpo.proofs.sides.Sides.some_argument.Goals as goal

module _ (b : Sides) (p q : ℕ) (ready : Ready b p q) (is : List ℕ) (a : ArgumentsAt (up b) p is) where
  says : (k : ℕ) → k < length is → Says (seen_at b (get_or is k 0) q) (at (up b) (get_or is k 0)) (at (low b) q)
  says k l = let h = a.behind k 0 l in ready.later (get_or is k 0) q h.1 ready.in_lower (omega (arith, h.0))

  found : (r : Bool) → MatchBool r ((k : ℕ) × (k < length is) × HoldsAt (λ i. seen_at b i q ≡ Neither → ⊥) is k) (AllWithin (λ i. seen_at b i q ≡ Neither) is 0 (length is)) → Decides r (LpoSome (args (at (up b) p)) (at (low b) q))
  found true h = (λ _. rw (← a.terms) (some_at (up b) _ is h.0 h.1 (told_some _ _ _ (says h.0 h.1) (h.2 0))), λ _. refl)
  found false h = (λ e. absurd (false≢true e), λ l. absurd (some_nowhere (up b) _ is (λ k l. told_none _ _ _ (says k l) (h k 0 (omega arith) l)) (rw a.terms l)))

pub returns : goal.returns
returns c =
    let b = c.args.self.now in
    let is = places c.arguments.result in
    found b c.args.p c.args.q c.requires is c.arguments.ensures _ (cases_from_any c.any.new.self _ _ (λ i. seen_at b i c.args.q ≡ Neither → ⊥) (λ i. seen_at b i c.args.q ≡ Neither) c.any.ensures.ran (YieldsList-from_first (λ x. x) places is refl) (λ x f k. search rules) (λ x f k. search rules))
