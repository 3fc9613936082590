-- What a verdict says of two terms.
use Rattle.std.specs.Prelude.{◌≡◌, ℕ, cond, ◌&&◌, ◌==◌, nat_lt}
use Rattle.terms.specs.Term.{Term, var, app, width}
use Rattle.terms.specs.declared.pattern.Node.{Node}
use Rattle.terms.specs.declared.pattern.Node.TheVariants.{Var, App}
use Rattle.rewriting.specs.Count.{Covers, weigh}
use Rattle.rewriting.specs.Kbo.{Kbo}
use Rattle.kbo.specs.declared.heads.Verdict.{Verdict}
use Rattle.kbo.specs.declared.heads.Verdict.TheVariants.{Above, NotAbove, ByArguments}

-- the same symbol, with as many arguments
abbrev pub SameHead : Term → Term → Type 0
SameHead (var x) t = ⊥
SameHead (app f ss) (var y) = ⊥
SameHead (app f ss) (app g ts) = (f ≡ g) × (width ss ≡ width ts)

abbrev pub Says : (ℕ → ℕ) → Verdict → Term → Term → Type 0
Says w Above s t = Kbo w s t
Says w NotAbove s t = Kbo w s t → ⊥
Says w ByArguments s t = Covers s t × (weigh w t ≡ weigh w s) × SameHead s t

-- what the heads of two terms of equal weights say
abbrev pub by_heads : Node → Node → Verdict
by_heads (Var x) n = NotAbove
by_heads (App f a) (Var y) = NotAbove
by_heads (App f a) (App g b) = cond (nat_lt g f) Above (cond (f == g && a == b) ByArguments NotAbove)
