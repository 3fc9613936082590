-- What a row of nodes weighs, w f being the weight of the symbol f.
use Rattle.std.specs.Prelude.{ℕ, ◌+◌, List, [], ◌∷◌}
use Rattle.terms.specs.declared.pattern.Node.{Node}
use Rattle.terms.specs.declared.pattern.Node.TheVariants.{Var, App}

abbrev pub node_weight : (ℕ → ℕ) → Node → ℕ
node_weight w (Var x) = 1
node_weight w (App f a) = w f

abbrev pub row_weight : (ℕ → ℕ) → List Node → ℕ
row_weight w [] = 0
row_weight w (n ∷ ns) = node_weight w n + row_weight w ns
