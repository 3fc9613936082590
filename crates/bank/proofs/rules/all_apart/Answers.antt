use Rattle.std.proofs.Common.{◌≡◌, ℕ, ◌+◌, ◌<◌, List, length, get_or, Bool, true, false, MatchBool, Decides, refl, subst, arith, rules}
use Rattle.std.specs.List.{HoldsAt, AllWithin, enumerate_from}
use Rattle.std.proofs.lemmas.Bool.{false≢true}
use Rattle.std.proofs.lemmas.Iterator.{cases_from_all, YieldsList-from_slice}
use Rattle.std.proofs.lemmas.Iterator.Consumers.{YieldsList-from_enumerate}
use Rattle.std.proofs.lemmas.List.FromFn.{get_or-enumerate_from, length-enumerate_from}
use Rattle.bank.specs.declared.cell.Cell.{Cell}
use Rattle.bank.specs.declared.cell.Cell.TheVariants.{Var}
use Rattle.bank.specs.Rules.{Earlier, AllApart}
use Rattle.bank.proofs.rules.all_apart.Goals as goal

module _ (b : List Cell) where
  abbrev First : ℕ × Cell → Type 0
  First p = Earlier b p.0 p.1 → ⊥

  at : (P : ℕ × Cell → Type 0) (j : ℕ) → j < length b → P (get_or (enumerate_from 0 b) j (0, Var 0)) → P (j, get_or b j (Var 0))
  at P j l h = let e : 0 + j ≡ j = omega arith in rw e at (subst P (get_or-enumerate_from 0 b j (0, Var 0) l) h)

  apart : (r : Bool) → MatchBool r (AllWithin First (enumerate_from 0 b) 0 (length (enumerate_from 0 b))) ((k : ℕ) × (k < length (enumerate_from 0 b)) × HoldsAt (λ p. First p → ⊥) (enumerate_from 0 b) k) → Decides r (AllApart b)
  apart true h = (λ _ j l. at First j l (h j (0, Var 0) (omega arith) (omega (arith, length-enumerate_from 0 b))), λ _. refl)
  apart false h = (
    λ e. absurd (false≢true e),
    λ all. let l : h.0 < length b = omega (arith, length-enumerate_from 0 b) in absurd (at (λ p. First p → ⊥) h.0 l (h.2 (0, Var 0)) (all h.0 l)),
  )

pub returns : goal.returns
returns c =
    let b = c.args.cells.now in
    apart b _ (cases_from_all _ _ _ (First b) (λ p. First b p → ⊥) c.all.ensures.ran (YieldsList-from_enumerate (YieldsList-from_slice b cc) (cc)) (λ x q k. search rules) (λ x q k. search rules))
