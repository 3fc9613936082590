-- What a run does to terms.
use Rattle.std.specs.Prelude.{◌≡◌, ℕ, List, [], ◌∷◌, Some}
use Rattle.terms.specs.Term.{Term, sub}
use Rattle.terms.specs.Patterns.{term_of}
use Rattle.bank.specs.declared.cell.Cell.{Cell}
use Rattle.bank.specs.Means.{Means}
use Rattle.enter.specs.Grown.{Part}
use Rattle.trace.specs.declared.Step.{Step}
use Rattle.reduction.specs.declared.oriented.Oriented.{Oriented}
use Rattle.reduction.specs.declared.outcome.Outcome.{Outcome}
use Rattle.reduction.specs.declared.outcome.Outcome.TheVariants.{Finished}
use Rattle.reduction.specs.Redexes.{Equations}
use Rattle.reduction.specs.Replaced.{replace}

-- an instance of the higher side of equation n stands in t, and u is t with the instance of the lower side in all its places
pub record Rewrites (E : Equations) (n : ℕ) (t u : Term) : Type 0 where
  pub equation : Oriented
  pub stored : E n ≡ Some equation
  pub inst : ℕ → Term
  pub stands : Part (sub inst (term_of equation.higher)) t
  pub gives : u ≡ replace (sub inst (term_of equation.higher)) (sub inst (term_of equation.lower)) t

-- the records lead from t to u, each by the equation that it names
pub data Leads (E : Equations) : Term → List Step → Term → Type 0 where
  stays : {t : Term} → Leads E t [] t
  steps : {t u v : Term} {s : Step} {ss : List Step} → Rewrites E s.equation t u → Leads E u ss v → Leads E t (s ∷ ss) v

-- no subterm of t is an instance of a higher side
abbrev pub NormalForm : Equations → Term → Type 0
NormalForm E t = (n : ℕ) (e : Oriented) (σ : ℕ → Term) → E n ≡ Some e → Part (sub σ (term_of e.higher)) t → ⊥

-- what a side's term comes to, from the term of cell r of the bank b to that of cell r' of the bank b'
pub record Comes (E : Equations) (b : List Cell) (r : ℕ) (o : Outcome) (b' : List Cell) (r' : ℕ) (ss : List Step) (t : Term) : Type 0 where
  pub final : Term
  pub means : Means b' r' final
  pub leads : Leads E t ss final
  pub normal : o ≡ Finished → NormalForm E final
