-- Roles and signs in words.
use Rattle.std.specs.Prelude.{ℕ, List, codes}
use Rattle.formula.specs.declared.equation.Role.{Role}
use Rattle.formula.specs.declared.equation.Role.TheVariants.{Axiom, Hypothesis, NegatedConjecture, Other}
use Rattle.formula.specs.declared.equation.Sign.{Sign}
use Rattle.formula.specs.declared.equation.Sign.TheVariants.{Equal, Unequal}

abbrev pub role_word : Role → List ℕ
role_word Axiom = codes "axiom"
role_word Hypothesis = codes "hypothesis"
role_word NegatedConjecture = codes "negated conjecture"
role_word Other = codes "another role"

abbrev pub sign_word : Sign → List ℕ
sign_word Equal = codes "="
sign_word Unequal = codes "!="
