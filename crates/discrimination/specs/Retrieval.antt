-- The numbers of the rows that a term fits.
use Rattle.std.specs.Prelude.{◌≡◌, ℕ, ◌≤◌, cond, ◌&&◌, List, [], ◌∷◌, ◌++◌, map, length, take, Some, None, Option, ◌==◌}
use Rattle.lists.specs.Members.{In, Once}
use Rattle.terms.specs.Term.{Term, Terms, var, app, nil, ◌▹◌, width}
use Rattle.terms.specs.Sig.{Sig}
use Rattle.terms.specs.Preorder.{decode}
use Rattle.terms.specs.declared.pattern.Node.{Node}
use Rattle.linear.specs.Apart.{apart}
use Rattle.linear.specs.Loose.{InstanceOf, joined}
use Rattle.bank.specs.declared.cell.Cell.{Cell}
use Rattle.bank.specs.Rules.{Rules}
use Rattle.bank.specs.Means.{Means}
use Rattle.trie.specs.declared.branch.Label.{Label}
use Rattle.trie.specs.declared.branch.Label.TheVariants.{Star, Symbol, Number}
use Rattle.trie.specs.declared.trie.Trie.{Trie}
use Rattle.trie.specs.Trees.{Tree, nil as leaf, node}
use Rattle.trie.specs.Contents.{tree_of, strings_of, label_of}

-- the terms that are left after a label: a star takes the first one whole, a symbol opens it
abbrev pub after : Label → Terms → Option Terms
after (Number n) ts = None
after Star nil = None
after Star (t ▹ ts) = Some ts
after (Symbol f a) nil = None
after (Symbol f a) (var x ▹ ts) = None
after (Symbol f a) (app g us ▹ ts) = cond (f == g && a == width us) (Some (joined us ts)) None

-- a row ends at its number, when no term is left
abbrev pub ended : Label → Terms → List ℕ
ended Star ts = []
ended (Symbol f a) ts = []
ended (Number n) nil = n ∷ []
ended (Number n) (t ▹ ts) = []

-- the numbers of the rows that the terms fit: those below a node before those right of it
abbrev pub walked : Tree → Terms → List ℕ
walked leaf ts = []
walked (node v l d r) ts = (ended l ts ++ elim (after l ts) [ None ↦ [] | Some us ↦ walked d us ]) ++ walked r ts

-- the row that the nodes and a number spell
abbrev pub spelling : List Node → ℕ → List Label
spelling ns n = map label_of ns ++ (Number n ∷ [])

-- n is the number of a row of some term p, and t is an instance of p with each variable occurrence made a variable of its own
abbrev pub Candidate : List (List Label) → Term → ℕ → Type 0
Candidate ss t n = (ns : List Node) × (p : Term) × In (spelling ns n) ss × (decode ns ≡ Some p) × InstanceOf (apart p) t

-- no two rows have one number
abbrev pub Numbered : List (List Label) → Type 0
Numbered ss = (n : ℕ) (ns ms : List Node) → In (spelling ns n) ss → In (spelling ms n) ss → map label_of ns ≡ map label_of ms

-- exactly the candidates' numbers; so the number of no term that t is an instance of is missing
pub record Retrieved (ss : List (List Label)) (t : Term) (xs : List ℕ) : Type 0 where
  pub sound : (n : ℕ) → In n xs → Candidate ss t n
  pub complete : (n : ℕ) → Candidate ss t n → In n xs
  pub instances : (n : ℕ) (ns : List Node) (p : Term) → In (spelling ns n) ss → decode ns ≡ Some p → InstanceOf p t → In n xs
  pub few : length xs ≤ length ss
  pub once : Numbered ss → Once xs

-- what the walk leaves in the first n places of ys, for the term of the cell i: the numbers found, as far as there is room
pub record Found (T : Trie) (b : List Cell) (i : ℕ) (ys : List ℕ) (n : ℕ) : Type 0 where
  pub within : n ≤ length ys
  pub numbers : (S : Sig) → Rules S b → (t : Term) → Means b i t → take n ys ≡ take (length ys) (walked (tree_of T) (t ▹ nil))
  pub all : (S : Sig) → Rules S b → (t : Term) → Means b i t → 64 ≤ length ys → Retrieved (strings_of T) t (take n ys)
