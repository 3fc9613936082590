-- Which nodes are a signature's.
use Rattle.std.specs.Prelude.{Bool, true, ◌&&◌, ◌==◌, nat_lt}
use Rattle.terms.specs.Sig.{Sig}
use Rattle.terms.specs.declared.pattern.Node.{Node}
use Rattle.terms.specs.declared.pattern.Node.TheVariants.{Var, App}

-- a variable, or a symbol of the signature with as many arguments as its arity
abbrev pub known : Sig → Node → Bool
known S (Var x) = true
known S (App f a) = nat_lt f S.symbols && a == S.arity f
