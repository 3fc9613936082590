-- A term as the row of its occurrences in preorder, and reading such a row back.
use Rattle.std.specs.Prelude.{◌≡◌, ℕ, zero, suc, ◌≤◌, Bool, true, false, ◌&&◌, ◌⊎◌, List, [], ◌∷◌, ◌++◌, length, is_some, Some, None, Option, nat_lt}
use Rattle.terms.specs.Term.{Term, Terms, var, app, nil, ◌▹◌, width}
use Rattle.terms.specs.declared.pattern.Node.{Node}
use Rattle.terms.specs.declared.pattern.Node.TheVariants.{Var, App}

-- the occurrences of a term: its head, then those of its arguments from left to right
abbrev mutual
  pub preorder : Term → List Node
  preorder (var x) = Var x ∷ []
  preorder (app f ts) = App f (width ts) ∷ preorders ts

  pub preorders : Terms → List Node
  preorders nil = []
  preorders (t ▹ ts) = preorder t ++ preorders ts

-- the first k of some terms, and the rest
abbrev pub split : ℕ → Terms → Option (Terms × Terms)
split zero ts = Some (nil, ts)
split (suc k) nil = None
split (suc k) (t ▹ ts) = elim (split k ts) [ None ↦ None | Some p ↦ Some (t ▹ p.0, p.1) ]

abbrev pub headed : ℕ → Option (Terms × Terms) → Option Terms
headed f None = None
headed f (Some p) = Some (app f p.0 ▹ p.1)

-- a node in front of some terms: a symbol takes its arguments from them
abbrev pub in_front : Node → Option Terms → Option Terms
in_front n None = None
in_front (Var x) (Some ts) = Some (var x ▹ ts)
in_front (App f a) (Some ts) = headed f (split a ts)

abbrev pub row : List Node → Option Terms
row [] = Some nil
row (n ∷ ns) = in_front n (row ns)

abbrev pub alone : Option Terms → Option Term
alone None = None
alone (Some nil) = None
alone (Some (t ▹ nil)) = Some t
alone (Some (t ▹ (u ▹ us))) = None

-- the one term that the row is the preorder of
abbrev pub decode : List Node → Option Term
decode ns = alone (row ns)

-- variables 0 to 15, symbol numbers 0 to 63, arities 0 to 4
abbrev pub small : Node → Bool
small (Var x) = nat_lt x 16
small (App f a) = nat_lt f 64 && nat_lt a 5

-- how many arguments follow a node
abbrev pub arguments : Node → ℕ
arguments (Var x) = 0
arguments (App f a) = a

abbrev pub all_small : List Node → Bool
all_small [] = true
all_small (n ∷ ns) = small n && all_small ns

abbrev pub Whole : List Node → Type 0
Whole ns = is_some (decode ns) ≡ true

abbrev pub Small : List Node → Type 0
Small ns = all_small ns ≡ true

-- a row that a pattern can hold
pub record Fits (ns : List Node) : Type 0 where
  pub short : length ns ≤ 32
  pub whole : Whole ns
  pub within : Small ns

-- the row is the preorder of d terms, one after another
pub record Reads (o : Option Terms) (d : ℕ) : Type 0 where
  pub terms : Terms
  pub is : o ≡ Some terms
  pub tall : width terms ≡ d

-- what a walk over the row from its end finds: how many terms it is the preorder of, if its nodes keep the limits
abbrev pub Walked : List Node → Option ℕ → Type 0
Walked ns None = (row ns ≡ None) ⊎ (all_small ns ≡ false)
Walked ns (Some d) = (all_small ns ≡ true) × Reads (row ns) d × (d ≤ length ns)
