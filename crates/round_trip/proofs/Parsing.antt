-- The written tokens make the written tree.
use Rattle.std.proofs.Common.{ℕ, ◌+◌, List, [], ◌∷◌, ◌++◌, length, get_or, sym, refl, subst, append_assoc}
use Rattle.terms.specs.Term as terms
use Rattle.signature.specs.Written.{written}
use Rattle.lexer.specs.Tokens.{Lexeme}
use Rattle.lexer.specs.declared.token.Kind.TheVariants.{Word, Close}
use Rattle.grammar.specs.Syntax.{Tree, node, ◌▹◌, Term, Args, variable, constant, applied, last, more}
use Rattle.round_trip.specs.Texts.{token, spelt, spelt_args, spelt_more, tree, trees}

module _ (ns : List (List ℕ)) where
  mutual
    pub parse_term : (t : terms.Term) (n : ℕ) (us : List Lexeme) → Term (spelt ns t n ++ us) (tree ns t n) us
    parse_term (terms.var x) n us = variable refl
    parse_term (terms.app f ts) n us = parse_args f ts n (n + length (get_or ns f [])) us

    -- a symbol with its arguments, if it has any
    parse_args : (f : ℕ) (ts : terms.Terms) (n m : ℕ) (us : List Lexeme) → Term (token Word (get_or ns f []) n ∷ (spelt_args ns ts m ++ us)) (node (token Word (get_or ns f []) n) (trees ns ts m)) us
    parse_args f terms.nil n m us = constant refl
    parse_args f (terms.◌▹◌ t ts) n m us =
        applied refl refl (subst (λ (zs : List Lexeme). Args zs (trees ns (terms.◌▹◌ t ts) m) us) (sym (append_assoc (spelt ns t (m + 1)) (spelt_more ns ts (m + 1 + length (written ns t))) us)) (parse_more ts (spelt ns t (m + 1)) (tree ns t (m + 1)) (λ vs. parse_term t (m + 1) vs) (m + 1 + length (written ns t)) us))

    -- an argument that is read, and those behind it
    parse_more : (ts : terms.Terms) (front : List Lexeme) (x : Tree) → ((vs : List Lexeme) → Term (front ++ vs) x vs) → (n : ℕ) (us : List Lexeme) → Args (front ++ (spelt_more ns ts n ++ us)) (x ▹ trees ns ts n) us
    parse_more terms.nil front x read n us = last (read (token Close (41 ∷ []) n ∷ us)) refl
    parse_more (terms.◌▹◌ t ts) front x read n us =
        more (read _) refl (subst (λ (zs : List Lexeme). Args zs (trees ns (terms.◌▹◌ t ts) n) us) (sym (append_assoc (spelt ns t (n + 1)) (spelt_more ns ts (n + 1 + length (written ns t))) us)) (parse_more ts (spelt ns t (n + 1)) (tree ns t (n + 1)) (λ vs. parse_term t (n + 1) vs) (n + 1 + length (written ns t)) us))
