-- Roles and signs.
use Rattle.std.specs.Prelude.{ℕ, Bool, true, false, cond, List, [], ◌∷◌, codes}
use Rattle.lexer.specs.Tokens.{Lexeme}
use Rattle.lexer.specs.declared.token.Kind.{Kind}
use Rattle.lexer.specs.declared.token.Kind.TheVariants.{Equal}
use Rattle.grammar.specs.Kinds.{same_bytes, same_kind}
use Rattle.formula.specs.declared.equation.Role.{Role}
use Rattle.formula.specs.declared.equation.Role.TheVariants.{Axiom, Hypothesis, NegatedConjecture, Other}
use Rattle.formula.specs.declared.equation.Sign.{Sign}
use Rattle.formula.specs.declared.equation.Sign.TheVariants as sign

-- any other word is a role without a meaning
abbrev pub role_named : List ℕ → Role
role_named w = cond (same_bytes w (codes "axiom")) Axiom (cond (same_bytes w (codes "hypothesis")) Hypothesis (cond (same_bytes w (codes "negated_conjecture")) NegatedConjecture Other))

abbrev pub sign_of : Kind → Sign
sign_of k = cond (same_kind k Equal) sign.Equal sign.Unequal

-- of the first of some tokens
abbrev pub role_first : List Lexeme → Role
role_first [] = Other
role_first (t ∷ ts) = role_named t.bytes

abbrev pub sign_first : List Lexeme → Sign
sign_first [] = sign.Unequal
sign_first (t ∷ ts) = sign_of t.kind

-- axioms and hypotheses with = are rules
abbrev pub rule : Role → Sign → Bool
rule Axiom sign.Equal = true
rule Hypothesis sign.Equal = true
rule NegatedConjecture sign.Equal = false
rule Other sign.Equal = false
rule r sign.Unequal = false

-- negated conjectures with != are goals
abbrev pub goal : Role → Sign → Bool
goal Axiom sign.Unequal = false
goal Hypothesis sign.Unequal = false
goal NegatedConjecture sign.Unequal = true
goal Other sign.Unequal = false
goal r sign.Equal = false
