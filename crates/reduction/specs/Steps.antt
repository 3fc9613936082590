-- One step of a run, in a bank of m cells whose counted cells are the list b; the side's present term is that of cell r.
use Rattle.std.specs.Prelude.{◌≡◌, ℕ, zero, suc, ◌⊎◌, List, [], Some, None}
use Rattle.terms.specs.Term.{Term, sub}
use Rattle.terms.specs.Patterns.{term_of}
use Rattle.bank.specs.Means.{Means}
use Rattle.bank.specs.declared.cell.Cell.{Cell}
use Rattle.enter.specs.Enter.{enter}
use Rattle.reduction.specs.Reaches.{Reaches}
use Rattle.reduction.specs.Replaced.{replace, Inside}
use Rattle.reduction.specs.Redexes.{Equations}
use Rattle.reduction.specs.declared.oriented.Oriented.{Oriented}

-- cell k stands for t, a subterm of the present term in which s stands
pub record Changes (b : List Cell) (r : ℕ) (s : Term) (k : ℕ) (t : Term) : Type 0 where
  pub reached : Reaches b r k
  pub means : Means b k t
  pub inside : Inside s t

-- cell k's turn: its changed form is entered, if it changes
abbrev pub Turn : (m : ℕ) (b : List Cell) (r : ℕ) (s s' : Term) (k : ℕ) → List Cell → List Cell → Type 0
Turn m b r s s' k b₁ b₂ =
    (((t : Term) → Changes b r s k t → ⊥) × (b₂ ≡ b₁))
    ⊎ ((t : Term) × (i : ℕ) × Changes b r s k t × (enter m [] (replace s s' t) b₁ ≡ Some (b₂, i)))

-- the cells below k have had their turns, in the bank's order
abbrev pub Rebuilt : (m : ℕ) (b : List Cell) (r : ℕ) (s s' : Term) (b₀ : List Cell) (k : ℕ) → List Cell → Type 0
Rebuilt m b r s s' b₀ zero b₁ = b₁ ≡ b₀
Rebuilt m b r s s' b₀ (suc k) b₂ = (b₁ : List Cell) × Rebuilt m b r s s' b₀ k b₁ × Turn m b r s s' k b₁ b₂

-- some changed form finds no room
pub record Crowded (m : ℕ) (b : List Cell) (r : ℕ) (s s' : Term) (b₀ : List Cell) : Type 0 where
  pub at : ℕ
  pub before : List Cell
  pub term : Term
  pub so_far : Rebuilt m b r s s' b₀ at before
  pub changes : Changes b r s at term
  pub full : enter m [] (replace s s' term) before ≡ None

-- equation n at cell j: the redex s and what takes its place
pub record Redex (E : Equations) (b : List Cell) (j n : ℕ) (s s' : Term) : Type 0 where
  pub equation : Oriented
  pub stored : E n ≡ Some equation
  pub inst : ℕ → Term
  pub from : s ≡ sub inst (term_of equation.higher)
  pub to : s' ≡ sub inst (term_of equation.lower)
  pub means : Means b j s

-- the instance of the lower side is entered as cell v, then the changed forms; after that the present term is that of cell r'
pub record Stepped (m : ℕ) (E : Equations) (b : List Cell) (r j n v : ℕ) (b' : List Cell) (r' : ℕ) : Type 0 where
  pub old : Term
  pub new : Term
  pub redex : Redex E b j n old new
  pub first : List Cell
  pub entered : enter m [] new b ≡ Some (first, v)
  pub rebuilt : Rebuilt m b r old new first (suc r) b'
  pub present : (t : Term) → Means b r t → Means b' r' (replace old new t)

-- the bank cannot take the step's terms
pub record Blocked (m : ℕ) (E : Equations) (b : List Cell) (r j n : ℕ) : Type 0 where
  pub old : Term
  pub new : Term
  pub redex : Redex E b j n old new
  pub no_room : (enter m [] new b ≡ None) ⊎ ((first : List Cell) × (v : ℕ) × (enter m [] new b ≡ Some (first, v)) × Crowded m b r old new first)
