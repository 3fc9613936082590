-- A term written out: variable k is X and k, arguments are parted by commas, without spaces.
use Rattle.std.specs.Prelude.{ℕ, List, [], ◌∷◌, ◌++◌, decimal, slice_index_or}
use Rattle.terms.specs.Term.{Term, Terms, var, app, nil, ◌▹◌}

-- 88 is 'X', 40 '(', 44 ',', 41 ')'; ns are the symbols' names by number
abbrev mutual
  pub written : List (List ℕ) → Term → List ℕ
  written ns (var x) = 88 ∷ decimal x
  written ns (app f ts) = slice_index_or ns f [] ++ written_args ns ts

  -- no argument, no parentheses
  pub written_args : List (List ℕ) → Terms → List ℕ
  written_args ns nil = []
  written_args ns (t ▹ ts) = 40 ∷ (written ns t ++ written_more ns ts)

  pub written_more : List (List ℕ) → Terms → List ℕ
  written_more ns nil = 41 ∷ []
  written_more ns (t ▹ ts) = 44 ∷ (written ns t ++ written_more ns ts)
