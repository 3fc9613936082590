-- The term that a cell stands for.
use Rattle.std.specs.Prelude.{◌≡◌, ℕ, ◌<◌, List, [], ◌∷◌, ◌++◌, length, take, slice_index_or}
use Rattle.terms.specs.Term.{Term, Terms, var, app, nil, ◌▹◌}
use Rattle.terms.specs.Sig.{Sig, Over}
use Rattle.bank.specs.declared.cell.Cell.{Cell}
use Rattle.bank.specs.declared.cell.Cell.TheVariants.{Var, App}

mutual
  pub data Means (b : List Cell) : ℕ → Term → Type 0 where
    is_var : {i x : ℕ} → i < length b → slice_index_or b i (Var 0) ≡ Var x → Means b i (var x)
    is_app : {i f a : ℕ} {args : List ℕ} {ts : Terms} → i < length b → slice_index_or b i (Var 0) ≡ App f a args → MeansAll b (take a args) ts → Means b i (app f ts)

  pub data MeansAll (b : List Cell) : List ℕ → Terms → Type 0 where
    none : MeansAll b [] nil
    and : {i : ℕ} {is : List ℕ} {t : Term} {ts : Terms} → Means b i t → MeansAll b is ts → MeansAll b (i ∷ is) (t ▹ ts)

-- what holds of a bank that keeps its rules: every cell stands for exactly one term, which is over the signature,
-- one term stands in one cell only, and cells keep their terms as the bank grows
pub record Laws (S : Sig) (b : List Cell) : Type 0 where
  pub reads : (i : ℕ) → i < length b → (t : Term) × Means b i t × Over S t
  pub one : (i : ℕ) (t u : Term) → Means b i t → Means b i u → t ≡ u
  pub same : (i j : ℕ) (t : Term) → Means b i t → Means b j t → i ≡ j
  pub grows : (more : List Cell) (i : ℕ) (t : Term) → Means b i t → Means (b ++ more) i t
