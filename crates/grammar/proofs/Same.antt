-- The test on kinds decides equality.
use Rattle.std.proofs.Common.{◌≡◌, ℕ, zero, suc, true, sym, refl, ap, ◌∙◌}
use Rattle.std.proofs.lemmas.Bool.{eqb-true}
use Rattle.lexer.specs.declared.token.Kind.{Kind}
use Rattle.lexer.specs.declared.token.Kind.TheVariants.{Word, Variable, Open, Close, Comma, Dot, Equal, Unequal, Stray}
use Rattle.grammar.specs.Kinds.{code, same_kind}

kind_of : ℕ → Kind
kind_of zero = Word
kind_of (suc zero) = Variable
kind_of (suc (suc zero)) = Open
kind_of (suc (suc (suc zero))) = Close
kind_of (suc (suc (suc (suc zero)))) = Comma
kind_of (suc (suc (suc (suc (suc zero))))) = Dot
kind_of (suc (suc (suc (suc (suc (suc zero)))))) = Equal
kind_of (suc (suc (suc (suc (suc (suc (suc zero))))))) = Unequal
kind_of (suc (suc (suc (suc (suc (suc (suc (suc n)))))))) = Stray

kind_code : (k : Kind) → kind_of (code k) ≡ k
unfolding kind_of
kind_code Word = refl
kind_code Variable = refl
kind_code Open = refl
kind_code Close = refl
kind_code Comma = refl
kind_code Dot = refl
kind_code Equal = refl
kind_code Unequal = refl
kind_code Stray = refl

pub same_kind_true : (a b : Kind) → same_kind a b ≡ true → a ≡ b
same_kind_true a b e = sym (kind_code a) ∙ ap kind_of (eqb-true (code a) (code b) e) ∙ kind_code b
