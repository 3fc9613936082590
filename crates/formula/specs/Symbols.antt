-- What a word means in a signature.
use Rattle.std.specs.Prelude.{ℕ, ◌+◌, cond, List, [], ◌∷◌, Some, None, Option, nat_lt}
use Rattle.terms.specs.declared.pattern.Node.{Node}
use Rattle.terms.specs.declared.pattern.Node.TheVariants.{App}
use Rattle.signature.specs.Signatures.{sig_of, names_of}
use Rattle.signature.specs.declared.signature.Signature.{Signature}
use Rattle.grammar.specs.Kinds.{same_bytes}

-- the number of the first of some names that is w, or how many there are
abbrev pub index_of : List ℕ → List (List ℕ) → ℕ
index_of w [] = 0
index_of w (n ∷ ns) = cond (same_bytes n w) 0 (1 + index_of w ns)

abbrev pub number_in : Signature → List ℕ → ℕ
number_in s w = index_of w (names_of s)

-- the symbol of a name, with its arity
abbrev pub symbol_of : Signature → List ℕ → Option Node
symbol_of s w = cond (nat_lt (number_in s w) (sig_of s).symbols) (Some (App (number_in s w) ((sig_of s).arity (number_in s w)))) None
