-- What is written of two terms within the reader's limits reads back as them.
use Rattle.std.proofs.Common.{◌≡◌, ℕ, zero, suc, ◌+◌, ◌<◌, true, ◌⊎◌, List, [], ◌∷◌, ◌++◌, length, get_or, Ok, Err, codes, Result, sym, refl, ap, ◌∙◌, subst, inl, inr, arith}
use Rattle.std.proofs.lemmas.Bool.{both_ways}
use Rattle.refusal.specs.declared.Refusal.{Refusal}
use Rattle.terms.specs.Term as terms
use Rattle.terms.specs.declared.pattern.Node.{Node}
use Rattle.signature.specs.Words.{is_word}
use Rattle.signature.specs.Lines.{names}
use Rattle.signature.specs.Signatures.{sig_of, names_of, symbols_of}
use Rattle.signature.specs.Written.{written}
use Rattle.signature.specs.declared.symbol.Symbol.{Symbol}
use Rattle.signature.specs.declared.signature.Signature.{Signature}
use Rattle.lexer.specs.Tokens.{Lexeme, tokens, tokens_from}
use Rattle.lexer.specs.declared.token.Kind.TheVariants.{Word, Open, Close, Comma, Dot, Equal}
use Rattle.lexer.proofs.Lexing.{tokens_none}
use Rattle.grammar.specs.Syntax.{Parsed, Formula, formula, bare, sides}
use Rattle.grammar.specs.Outcomes.{too_long, misfit}
use Rattle.grammar.proofs.Unique.{formula_once, complete_fits}
use Rattle.formula.specs.Symbols.{index_of}
use Rattle.formula.specs.Uses.{uses, NoneMisused, FirstMisused}
use Rattle.formula.specs.Numbering.{Sides, both_laid, with_left, with_right, cells, resolved}
use Rattle.formula.specs.Outcomes.{Outcome, ungrammatical, unknown, too_large, read, Read, all_uses}
use Rattle.formula.specs.declared.equation.Equation.{Equation}
use Rattle.formula.proofs.Resolving.{ok_same, err_ok}
use Rattle.round_trip.specs.Variables.{met, Low, Lows, at}
use Rattle.round_trip.specs.Texts.{equation_text, variable_name, token, spelt, tree}
use Rattle.round_trip.specs.RoundTrip.{Readable, ReadBack, RoundTrip}
use Rattle.round_trip.proofs.Spelling.{Words, lex_term, piece}
use Rattle.round_trip.proofs.Parsing.{parse_term}
use Rattle.round_trip.proofs.Counting.{Each, named, at_name, none_misused, resolves, lays, each_met, occurs_met, stays, longer_met, longer_length, at_apart, listed_append}

words_at : (ss : List Symbol) (f : ℕ) → f < length ss → is_word (get_or (names ss) f []) ≡ true
words_at [] f h = absurd (omega arith)
words_at (y ∷ ys) zero h = y.name.word
words_at (y ∷ ys) (suc f) h = words_at ys f (omega arith)

words_of : (s : Signature) → Words (sig_of s) (names_of s)
words_of s f h = words_at (symbols_of s) f h

mutual
  occurs_low : (x : ℕ) (t : terms.Term) → Low t → terms.Occ x t → x < 32
  occurs_low x (terms.var y) h o = omega (arith, o)
  occurs_low x (terms.app f ts) h o = all_low x ts h o

  all_low : (x : ℕ) (ts : terms.Terms) → Lows ts → terms.Occs x ts → x < 32
  all_low x terms.nil h o = absurd o
  all_low x (terms.◌▹◌ t ts) h (inl o) = occurs_low x t h.0 o
  all_low x (terms.◌▹◌ t ts) h (inr o) = all_low x ts h.1 o

module _ (s : Signature) (l r : terms.Term) (ok : Readable s l r) where
  abbrev ns : List (List ℕ)
  ns = names_of s

  abbrev sign_at : ℕ
  sign_at = 12 + length (written ns l)

  abbrev right_at : ℕ
  right_at = sign_at + 1

  abbrev end_at : ℕ
  end_at = right_at + length (written ns r)

  abbrev body : List Lexeme
  body = spelt ns l 12 ++ token Equal (61 ∷ []) sign_at ∷ (spelt ns r right_at ++ token Close (41 ∷ []) end_at ∷ (token Dot (46 ∷ []) (end_at + 1) ∷ []))

  abbrev parsed : Parsed
  parsed = record { name = token Word (codes "q") 4; role = token Word (codes "axiom") 6; body = record { left = tree ns l 12; sign = token Equal (61 ∷ []) sign_at; right = tree ns r right_at } }

  closing : tokens_from (codes ").") end_at ≡ token Close (41 ∷ []) end_at ∷ (token Dot (46 ∷ []) (end_at + 1) ∷ [])
  closing = piece (41 ∷ []) (46 ∷ []) end_at Close refl ∙ ap (λ ts. token Close (41 ∷ []) end_at ∷ ts) (piece (46 ∷ []) [] (end_at + 1) Dot refl ∙ ap (λ ts. token Dot (46 ∷ []) (end_at + 1) ∷ ts) (tokens_none (end_at + 1 + 1)))

  sides_lexed : tokens_from (written ns l ++ (61 ∷ (written ns r ++ codes ")."))) 12 ≡ body
  sides_lexed =
      lex_term (sig_of s) ns (words_of s) l ok.left_over ok.left_low (61 ∷ (written ns r ++ codes ").")) 12 refl
      ∙ ap (λ ts. spelt ns l 12 ++ ts) (piece (61 ∷ []) (written ns r ++ codes ").") sign_at Equal refl ∙ ap (λ ts. token Equal (61 ∷ []) sign_at ∷ ts) (lex_term (sig_of s) ns (words_of s) r ok.right_over ok.right_low (codes ").") right_at refl ∙ ap (λ ts. spelt ns r right_at ++ ts) closing))

  abbrev header : List Lexeme → List Lexeme
  header ts = token Word (codes "cnf") 0 ∷ (token Open (40 ∷ []) 3 ∷ (token Word (codes "q") 4 ∷ (token Comma (44 ∷ []) 5 ∷ (token Word (codes "axiom") 6 ∷ (token Comma (44 ∷ []) 11 ∷ ts)))))

  header_lexed : (rest : List ℕ) → tokens_from (codes "cnf(q,axiom," ++ rest) 0 ≡ header (tokens_from rest 12)
  header_lexed rest =
      piece (codes "cnf") (codes "(q,axiom," ++ rest) 0 Word refl
      ∙ ap (λ ts. token Word (codes "cnf") 0 ∷ ts) (piece (40 ∷ []) (codes "q,axiom," ++ rest) 3 Open refl
      ∙ ap (λ ts. token Open (40 ∷ []) 3 ∷ ts) (piece (codes "q") (codes ",axiom," ++ rest) 4 Word refl
      ∙ ap (λ ts. token Word (codes "q") 4 ∷ ts) (piece (44 ∷ []) (codes "axiom," ++ rest) 5 Comma refl
      ∙ ap (λ ts. token Comma (44 ∷ []) 5 ∷ ts) (piece (codes "axiom") (codes "," ++ rest) 6 Word refl
      ∙ ap (λ ts. token Word (codes "axiom") 6 ∷ ts) (piece (44 ∷ []) rest 11 Comma refl)))))

  all_lexed : tokens (equation_text ns l r) ≡ header body
  all_lexed = header_lexed (written ns l ++ (61 ∷ (written ns r ++ codes ")."))) ∙ ap header sides_lexed

  is_formula : Formula (tokens (equation_text ns l r)) parsed []
  is_formula = subst (λ (ts : List Lexeme). Formula ts parsed []) (sym all_lexed) (formula refl refl refl refl refl refl refl (bare (sides (parse_term ns l 12 _) (inl refl) (parse_term ns r right_at _))) refl refl)

  only : (x : Parsed) → Formula (tokens (equation_text ns l r)) x [] → x ≡ parsed
  only x f = formula_once f is_formula

  known : NoneMisused s (all_uses parsed.body)
  known = listed_append s (uses (tree ns l 12)) (uses (tree ns r right_at)) (none_misused s l 12 ok.left_over) (none_misused s r right_at ok.right_over)

  abbrev ks : List ℕ
  ks = met r (met l [])

  record Both : Type 0 where
    left_nodes : List Node
    right_nodes : List Node
    are : both_laid s (tree ns l 12) (tree ns r right_at) ≡ Ok (record { variables = named ks; left = left_nodes; right = right_nodes })

  both : Both
  both =
      let a = lays s l 12 [] [] ok.left_over ok.left_low tt (omega (arith, ok.left_small)) (omega (arith, longer_length (met l []) ks (longer_met r (met l [])), ok.few)) in
      let b = lays s r right_at (met l []) [] ok.right_over ok.right_low (each_met l [] ok.left_low tt) (omega (arith, ok.right_small)) ok.few in
      record { left_nodes = a.nodes; right_nodes = b.nodes; are = ap (with_left s (cells (tree ns r right_at))) a.is ∙ ap (with_right a.nodes) b.is }

  abbrev number : ℕ → ℕ
  number x = index_of (variable_name x) (named ks)

  each : Each ks
  each = each_met r (met l []) ok.right_low (each_met l [] ok.left_low tt)

  low : (x : ℕ) → terms.Occ x l ⊎ terms.Occ x r → x < 32
  low x (inl o) = occurs_low x l ok.left_low o
  low x (inr o) = occurs_low x r ok.right_low o

  placed : (x : ℕ) → terms.Occ x l ⊎ terms.Occ x r → at x ks < length ks
  placed x (inl o) = stays x (met l []) ks (longer_met r (met l [])) (occurs_met x l [] o)
  placed x (inr o) = occurs_met x r (met l []) o

  apart : (x y : ℕ) → terms.Occ x l ⊎ terms.Occ x r → terms.Occ y l ⊎ terms.Occ y r → number x ≡ number y → x ≡ y
  apart x y a b e = at_apart x y ks (placed x a) (sym (at_name ks x each (low x a)) ∙ e ∙ at_name ks y each (low y b))

  read_back : (e : Equation) → Read s parsed e → ReadBack l r (Ok e)
  read_back e h =
      let same : h.sides.variables ≡ named ks = ap (λ (d : Sides). d.variables) (ok_same (sym h.laid ∙ both.are)) in
      record {
        equation = e;
        is = refl;
        number = number;
        left = h.left ∙ ap (λ vs. resolved s vs (tree ns l 12)) same ∙ resolves s (named ks) l 12 ok.left_over;
        right = h.right ∙ ap (λ vs. resolved s vs (tree ns r right_at)) same ∙ resolves s (named ks) r right_at ok.right_over;
        apart = apart;
      }

  never_misused : {A : Type 0} {p : ℕ} → FirstMisused s (all_uses parsed.body) p → A
  never_misused m = absurd (both_ways _ (known m.culprit m.among) m.bad)

  back : (q : Result Equation Refusal) → Outcome s (equation_text ns l r) q → ReadBack l r q
  back _ (ungrammatical (too_long h)) = absurd (omega (arith, h, ok.short))
  back _ (ungrammatical (misfit h m)) = absurd (complete_fits _ _ _ (parsed, is_formula) m)
  back _ (unknown {p = p} x c f m) = never_misused (subst (λ (y : Parsed). FirstMisused s (all_uses y.body) p) (only x f) m)
  back _ (too_large {p = p} x c f n e) = err_ok (sym (subst (λ (y : Parsed). both_laid s y.body.left y.body.right ≡ Err p) (only x f) e) ∙ both.are)
  back _ (read {e = e} x c f n h) = read_back e (subst (λ (y : Parsed). Read s y e) (only x f) h)

pub round_trip : (s : Signature) → RoundTrip s
round_trip s l r ok q h = back s l r ok q h
