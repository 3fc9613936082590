-- Two written terms as the text of one formula, its tokens and its trees.
use Rattle.std.specs.Prelude.{ℕ, ◌+◌, List, [], ◌∷◌, ◌++◌, length, codes, decimal, slice_index_or}
use Rattle.terms.specs.Term as terms
use Rattle.signature.specs.Written.{written}
use Rattle.lexer.specs.Tokens.{Lexeme}
use Rattle.lexer.specs.declared.token.Kind.{Kind}
use Rattle.lexer.specs.declared.token.Kind.TheVariants.{Word, Variable, Open, Close, Comma}
use Rattle.grammar.specs.Syntax.{Tree, Trees, leaf, node, nil, ◌▹◌}

-- cnf(q,axiom,l=r).
abbrev pub equation_text : List (List ℕ) → terms.Term → terms.Term → List ℕ
equation_text ns l r = codes "cnf(q,axiom," ++ (written ns l ++ (61 ∷ (written ns r ++ codes ").")))

abbrev pub variable_name : ℕ → List ℕ
variable_name x = 88 ∷ decimal x

abbrev pub token : Kind → List ℕ → ℕ → Lexeme
token k bs n = record { kind = k; bytes = bs; place = n }

-- the tokens of a written term from place n on
abbrev mutual
  pub spelt : List (List ℕ) → terms.Term → ℕ → List Lexeme
  spelt ns (terms.var x) n = token Variable (variable_name x) n ∷ []
  spelt ns (terms.app f ts) n = token Word (slice_index_or ns f []) n ∷ spelt_args ns ts (n + length (slice_index_or ns f []))

  pub spelt_args : List (List ℕ) → terms.Terms → ℕ → List Lexeme
  spelt_args ns terms.nil n = []
  spelt_args ns (terms.◌▹◌ t ts) n = token Open (40 ∷ []) n ∷ (spelt ns t (n + 1) ++ spelt_more ns ts (n + 1 + length (written ns t)))

  pub spelt_more : List (List ℕ) → terms.Terms → ℕ → List Lexeme
  spelt_more ns terms.nil n = token Close (41 ∷ []) n ∷ []
  spelt_more ns (terms.◌▹◌ t ts) n = token Comma (44 ∷ []) n ∷ (spelt ns t (n + 1) ++ spelt_more ns ts (n + 1 + length (written ns t)))

-- the tree that the tokens make
abbrev mutual
  pub tree : List (List ℕ) → terms.Term → ℕ → Tree
  tree ns (terms.var x) n = leaf (token Variable (variable_name x) n)
  tree ns (terms.app f ts) n = node (token Word (slice_index_or ns f []) n) (trees ns ts (n + length (slice_index_or ns f [])))

  pub trees : List (List ℕ) → terms.Terms → ℕ → Trees
  trees ns terms.nil n = nil
  trees ns (terms.◌▹◌ t ts) n = tree ns t (n + 1) ▹ trees ns ts (n + 1 + length (written ns t))
