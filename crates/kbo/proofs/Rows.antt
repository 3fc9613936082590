-- What a row weighs, and what the term weighs that it is the preorder of.
use Rattle.std.proofs.Common.{◌≡◌, ℕ, ◌+◌, ◌*◌, ◌≤◌, List, [], ◌∷◌, ◌++◌, length, refl, sym, ap, ◌∙◌, ap₂, arith}
use Rattle.std.specs.List.{sum_by}
use Rattle.std.proofs.lemmas.List.Recursion.{is_sum_by}
use Rattle.terms.specs.Term.{Term, Terms, var, app, nil, ◌▹◌}
use Rattle.terms.specs.Preorder.{preorder, preorders}
use Rattle.terms.specs.declared.pattern.Node.{Node}
use Rattle.terms.specs.declared.pattern.Node.TheVariants.{Var, App}
use Rattle.rewriting.specs.Count.{weigh, weighs}
use Rattle.kbo.specs.Weights.{node_weight, row_weight}

module _ (w : ℕ → ℕ) where
  pub weight_sum : (ns : List Node) → sum_by (node_weight w) ns ≡ row_weight w ns
  weight_sum ns = sym (is_sum_by (row_weight w) (node_weight w) refl (λ _ _. refl) ns)

  weight_append : (ms ns : List Node) → row_weight w (ms ++ ns) ≡ row_weight w ms + row_weight w ns
  weight_append [] ns = omega arith
  weight_append (m ∷ ms) ns = let e = weight_append ms ns in omega arith

  mutual
    pub weight_preorder : (t : Term) → row_weight w (preorder t) ≡ weigh w t
    weight_preorder (var x) = refl
    weight_preorder (app f ts) = ap (λ n. w f + n) (weight_preorders ts)

    weight_preorders : (ts : Terms) → row_weight w (preorders ts) ≡ weighs w ts
    weight_preorders nil = refl
    weight_preorders (t ▹ ts) = weight_append (preorder t) (preorders ts) ∙ ap₂ ◌+◌ (weight_preorder t) (weight_preorders ts)

  module _ (most : (f : ℕ) → w f ≤ 100) where
    node_most : (n : Node) → node_weight w n ≤ 100
    node_most (Var x) = omega arith
    node_most (App f a) = most f

    pub row_most : (ns : List Node) → row_weight w ns ≤ 100 * length ns
    row_most [] = omega arith
    row_most (n ∷ ns) = omega (arith, node_most n, row_most ns)
