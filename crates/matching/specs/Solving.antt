-- Terms that have still to meet cells, under the bindings so far.
use Rattle.std.specs.Prelude.{◌≡◌, ℕ, ◌+◌, ◌<◌, true, ◌⊎◌, List, reverse, length, is_some, Some, None, Option, ◌≢◌, slice_index_or, slice_set}
use Rattle.terms.specs.Term.{Term, Terms, Occs, subs}
use Rattle.terms.specs.Sig.{Sig}
use Rattle.terms.specs.Preorder.{in_front}
use Rattle.terms.specs.declared.pattern.Node.{Node}
use Rattle.subterms.specs.Places.{arguments}
use Rattle.bank.specs.declared.cell.Cell.{Cell}
use Rattle.bank.specs.Rules.{Rules}
use Rattle.bank.specs.Means.{Means, MeansAll}
use Rattle.row.specs.Items.{items}
use Rattle.row.specs.declared.Row.{Row}

-- under σ the bound variables are the terms of their cells, and the terms ps are those of the cells js
pub record Solves (b : List Cell) (θ : List (Option ℕ)) (ps : Terms) (js : List ℕ) (σ : ℕ → Term) : Type 0 where
  pub bound : (x i : ℕ) → slice_index_or θ x None ≡ Some i → Means b i (σ x)
  pub means : MeansAll b js (subs σ ps)

abbrev pub Has : List (Option ℕ) → ℕ → Type 0
Has θ x = is_some (slice_index_or θ x None) ≡ true

abbrev pub Inside : List Cell → List (Option ℕ) → Type 0
Inside b θ = (x i : ℕ) → slice_index_or θ x None ≡ Some i → i < length b

-- from one state to another with the same solutions: no binding is lost, and a variable that is met is bound
pub record Onward (b : List Cell) (θ : List (Option ℕ)) (ps : Terms) (js : List ℕ) (θ' : List (Option ℕ)) (ps' : Terms) (js' : List ℕ) : Type 0 where
  pub on : (S : Sig) (σ : ℕ → Term) → Rules S b → Solves b θ ps js σ → Solves b θ' ps' js' σ
  pub back : (S : Sig) (σ : ℕ → Term) → Rules S b → Solves b θ' ps' js' σ → Solves b θ ps js σ
  pub keeps : (x : ℕ) → Has θ x → Has θ' x
  pub covers : (x : ℕ) → Occs x ps → Has θ' x ⊎ Occs x ps'
  pub inside : Inside b θ → Inside b θ'

abbrev pub Never : List Cell → List (Option ℕ) → Terms → List ℕ → Type 0
Never b θ ps js = (S : Sig) (σ : ℕ → Term) → Rules S b → Solves b θ ps js σ → ⊥

-- the cells to be met, the next one first
abbrev pub pending : Row ℕ 32 → List ℕ
pending r = reverse (items r)

-- a node in front of the terms ps meets the next of the cells
abbrev pub Met : List Cell → Node → List (Option ℕ) → List ℕ → List (Option ℕ) → List ℕ → Option (Unit {0}) → Type 0
Met b n θ js θ' js' None = (ps qs : Terms) → in_front n (Some ps) ≡ Some qs → Never b θ qs js
Met b n θ js θ' js' (Some _) =
    (length js' + 1 ≡ length js + arguments n)
    × ((ps qs : Terms) → in_front n (Some ps) ≡ Some qs → Onward b θ qs js θ' ps js')

-- a variable is bound to the cell, unless it is bound to another
abbrev pub Placed : List (Option ℕ) → ℕ → ℕ → List (Option ℕ) → Option (Unit {0}) → Type 0
Placed θ x j θ' (Some _) = ((slice_index_or θ x None ≡ Some j) × (θ' ≡ θ)) ⊎ ((slice_index_or θ x None ≡ None) × (θ' ≡ slice_set θ x (Some j)))
Placed θ x j θ' None = (k : ℕ) × (slice_index_or θ x None ≡ Some k) × (k ≢ j)
