-- The variables of a row of nodes.
use Rattle.std.specs.Prelude.{ℕ, ◌+◌, ◌≤◌, Bool, true, ◌&&◌, List, [], ◌∷◌, nat_le}
use Rattle.terms.specs.Term.{var}
use Rattle.terms.specs.declared.pattern.Node.{Node}
use Rattle.terms.specs.declared.pattern.Node.TheVariants.{Var, App}
use Rattle.rewriting.specs.Count.{count}

abbrev pub occurs_in : ℕ → Node → ℕ
occurs_in x (Var y) = count x (var y)
occurs_in x (App f a) = 0

-- how often the variable x stands in the row
abbrev pub occurring : ℕ → List Node → ℕ
occurring x [] = 0
occurring x (n ∷ ns) = occurs_in x n + occurring x ns

-- no variable stands oftener in the second row than in the first
abbrev pub CoversRow : List Node → List Node → Type 0
CoversRow ms ns = (x : ℕ) → occurring x ns ≤ occurring x ms

-- the node is no variable that stands oftener in ns than in ms
abbrev pub covered : List Node → List Node → Node → Bool
covered ms ns (Var x) = nat_le (occurring x ns) (occurring x ms)
covered ms ns (App f a) = true

abbrev pub every : (Node → Bool) → List Node → Bool
every p [] = true
every p (n ∷ ns) = p n && every p ns
