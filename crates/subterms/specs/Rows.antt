-- The row of nodes that a table of subterms is of, and the places of a subterm's arguments.
use Rattle.std.specs.Prelude.{◌≡◌, ℕ, zero, suc, ◌<◌, List, [], ◌∷◌, length, slice_index}
use Rattle.std.specs.List.{All}
use Rattle.terms.specs.Term.{Terms, nil, ◌▹◌}
use Rattle.terms.specs.Patterns.{nodes_of}
use Rattle.terms.specs.declared.pattern.Node.{Node}
use Rattle.rewriting.specs.Replace.{args}
use Rattle.subterms.specs.Places.{at}
use Rattle.subterms.specs.declared.Arguments.{Arguments}
use Rattle.subterms.specs.declared.Subterms.{Subterms}

abbrev pub row_of : Subterms → List Node
row_of s = nodes_of s.pattern

-- n places, the first of them i, each where what begins at the one before it ends
abbrev pub following : List ℕ → ℕ → ℕ → List ℕ
following ends i zero = []
following ends i (suc n) = i ∷ following ends (slice_index ends i) n

-- the places that are still to come
abbrev pub places : Arguments → List ℕ
places a = following a.ends.now a.next a.left

-- the subterms at some places
abbrev pub at_all : List Node → List ℕ → Terms
at_all ns [] = nil
at_all ns (i ∷ is) = at ns i ▹ at_all ns is

-- the arguments of the subterm at p begin at the places is, which stand behind p
pub record ArgumentsAt (ns : List Node) (p : ℕ) (is : List ℕ) : Type 0 where
  pub terms : at_all ns is ≡ args (at ns p)
  pub behind : All (λ i. (p < i) × (i < length ns)) is
