-- What rebuilding does to a bank; the step's redex is the term old, at cell j, and the term new is at cell v.
use Rattle.std.specs.Prelude.{◌≡◌, ℕ, suc, ◌<◌, ◌≤◌, Bool, true, false, ◌⊎◌, List, ◌++◌, length, take, Some, None, Decides, Option, ◌≢◌, slice_index_or}
use Rattle.terms.specs.Term.{Term}
use Rattle.terms.specs.Sig.{Sig}
use Rattle.bank.specs.declared.cell.Cell.{Cell}
use Rattle.bank.specs.declared.cell.Cell.TheVariants.{Var}
use Rattle.bank.specs.Rules.{Rules}
use Rattle.bank.specs.Means.{Means}
use Rattle.enter.specs.Enter.{note}
use Rattle.enter.specs.Machine.{Gives}
use Rattle.reduction.specs.Reaches.{Reaches}
use Rattle.reduction.specs.Replaced.{replace}
use Rattle.reduction.specs.Steps.{Rebuilt, Crowded}
use Rattle.rebuild.specs.Forms.{Mapped}

-- b is the bank before the step, b₀ the bank with the new term in it
pub record Ready (S : Sig) (b b₀ : List Cell) (r j v : ℕ) (old new : Term) (marks : List Bool) : Type 0 where
  pub more : List Cell
  pub grows : b₀ ≡ b ++ more
  pub rules : Rules S b
  pub rules₀ : Rules S b₀
  pub root : r < length b
  pub there : Means b j old
  pub instead : Means b₀ v new
  pub marked : (k : ℕ) → Decides (slice_index_or marks k false) (Reaches b r k)

-- the root's changed form, with all changed forms entered
pub record Done (S : Sig) (m : ℕ) (b b₀ : List Cell) (r : ℕ) (old new : Term) (b' : List Cell) (r' : ℕ) : Type 0 where
  pub rebuilt : Rebuilt m b r old new b₀ (suc r) b'
  pub rules : Rules S b'
  pub present : (t : Term) → Means b r t → Means b' r' (replace old new t)

abbrev pub Ended : Sig → (m : ℕ) (b b₀ : List Cell) (r : ℕ) (old new : Term) → List Cell → Option ℕ → Type 0
Ended S m b b₀ r old new b' (Some r') = Done S m b b₀ r old new b' r'
Ended S m b b₀ r old new b' None = Crowded m b r old new b₀

abbrev pub Rebuilds : (cells : List Cell) (n r j v : ℕ) (marks : List Bool) (room : ℕ) (cells' : List Cell) (n' : ℕ) → Option ℕ → Type 0
Rebuilds cells n r j v marks room cells' n' answer =
    (n ≤ length cells) → (length cells ≤ 2048) → (r < length marks) → (r < room)
    → (S : Sig) (b : List Cell) (old new : Term) → Ready S b (take n cells) r j v old new marks
    → Ended S (length cells) b (take n cells) r old new (take n' cells') answer

-- one cell's form: cell k of the cells, n of which are counted
abbrev pub Formed : (cells : List Cell) (n k j v : ℕ) (marks : List Bool) (forms : List ℕ) (cells' : List Cell) (n' : ℕ) → Option ℕ → Type 0
Formed cells n k j v marks forms cells' n' answer =
    ((k ≡ j) × (cells' ≡ cells) × (n' ≡ n) × (answer ≡ Some v))
    ⊎ ((k ≢ j) × (slice_index_or marks k false ≡ false) × (cells' ≡ cells) × (n' ≡ n) × (answer ≡ Some k))
    ⊎ ((c : Cell) × (k ≢ j) × (slice_index_or marks k false ≡ true) × Mapped forms (slice_index_or cells k (Var 0)) c × (
    ((c ≡ slice_index_or cells k (Var 0)) × (cells' ≡ cells) × (n' ≡ n) × (answer ≡ Some k))
    ⊎ ((c ≢ slice_index_or cells k (Var 0)) × Gives (note (length cells) c (take n cells)) answer cells' n')))
