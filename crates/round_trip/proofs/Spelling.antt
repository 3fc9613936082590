-- The tokens of what is written.
use Rattle.std.proofs.Common.{◌≡◌, ℕ, ◌+◌, ◌/◌, ◌%◌, ◌<◌, ◌≤◌, true, false, leb, ◌⊎◌, List, [], ◌∷◌, ◌++◌, length, get_or, decimal, Some, sym, refl, ap, ◌∙◌, ap₂, inl, inr, append_assoc, arith, length-append}
use Rattle.std.specs.List.{prefix_len}
use Rattle.std.proofs.lemmas.Fmt.{decimal_digit, decimal_step}
use Rattle.std.proofs.lemmas.List.{take_at, drop_at, take_rest}
use Rattle.std.proofs.lemmas.Bool.{cond-true, cond-false, and_parts, and_from, leb-true, cases_lt}
use Rattle.std.proofs.lemmas.Bool.Decides.{nat_tests}
use Rattle.terms.specs.Term as terms
use Rattle.terms.specs.Sig.{Sig, Over, AllOver}
use Rattle.signature.specs.Words.{lower, wordly, each_wordly, is_word}
use Rattle.signature.specs.Written.{written, written_args, written_more}
use Rattle.lexer.specs.Tokens.{Lexeme, first, tokens_from}
use Rattle.lexer.specs.declared.token.Kind.{Kind}
use Rattle.lexer.specs.declared.token.Kind.TheVariants.{Word, Variable, Open, Close, Comma}
use Rattle.lexer.specs.declared.token.Front.TheVariants.{Piece}
use Rattle.lexer.proofs.Heads.{first_word, first_variable}
use Rattle.lexer.proofs.Lexing.{tokens_piece}
use Rattle.round_trip.specs.Variables.{Low, Lows}
use Rattle.round_trip.specs.Texts.{variable_name, token, spelt, spelt_args, spelt_more}

-- a word ends there
abbrev pub Stops : List ℕ → Type 0
Stops [] = Unit {0}
Stops (b ∷ bs) = wordly b ≡ false

stretch : (bs rest : List ℕ) → each_wordly bs ≡ true → Stops rest → prefix_len wordly (bs ++ rest) ≡ length bs
stretch [] [] h e = refl
stretch [] (b ∷ rest) h e = cond-false _ _ _ e
stretch (b ∷ bs) rest h e =
    let both = and_parts (wordly b) (each_wordly bs) h in
    cond-true _ _ _ both.0 ∙ ap (λ k. 1 + k) (stretch bs rest both.1 e) ∙ omega arith

-- one token, and what is behind it
pub piece : (bs rest : List ℕ) (n : ℕ) (k : Kind) → first (bs ++ rest) ≡ Some (Piece k (length bs)) → tokens_from (bs ++ rest) n ≡ token k bs n ∷ tokens_from rest (n + length bs)
piece bs rest n k e =
    tokens_piece (bs ++ rest) n k (length bs) e ∙ ap₂ (λ (a b : List ℕ). token k a n ∷ tokens_from b (n + length bs)) (take_at bs rest (length bs) refl) (drop_at bs rest (length bs) refl)

word_first : (w rest : List ℕ) → is_word w ≡ true → Stops rest → first (w ++ rest) ≡ Some (Piece Word (length w))
word_first [] rest h e = absurd_word h
  where
    absurd_word : {A : Type 0} → false ≡ true → A
    absurd_word e = let z : ◌≡◌ {A = ℕ} 0 1 = cc in absurd (omega arith)
word_first (b ∷ bs) rest h e =
    let both = and_parts (lower b) (each_wordly bs) h in
    let range = and_parts (leb 97 b) (leb b 122) both.0 in
    first_word (b ∷ (bs ++ rest)) (omega arith) (leb-true 97 b range.0) (leb-true b 122 range.1) ∙ ap (λ xs. Some (Piece Word (1 + prefix_len wordly xs))) (take_rest (b ∷ (bs ++ rest)) 1) ∙ ap (λ k. Some (Piece Word (1 + k))) (stretch bs rest both.1 e) ∙ ap (λ k. Some (Piece Word k)) (omega arith)

digit_wordly : (n : ℕ) → n < 10 → wordly (48 + n) ≡ true
digit_wordly n h = grind (arith, nat_tests)

decimal_wordly : (x : ℕ) → x < 32 → each_wordly (decimal x) ≡ true
decimal_wordly x h = by (cases_lt x 10)
  where
    by : (x < 10) ⊎ (10 ≤ x) → each_wordly (decimal x) ≡ true
    by (inl k) = ap each_wordly (decimal_digit x k) ∙ and_from (wordly (48 + x)) true (digit_wordly x k) refl
    by (inr k) =
        let high : x / 10 < 10 = omega arith in
        let low : x % 10 < 10 = omega arith in
        ap each_wordly (decimal_step x k (omega arith) ∙ ap (λ ds. ds ++ ((48 + x % 10) ∷ [])) (decimal_digit (x / 10) high)) ∙ and_from (wordly (48 + x / 10)) _ (digit_wordly (x / 10) high) (and_from (wordly (48 + x % 10)) true (digit_wordly (x % 10) low) refl)

variable_first : (x : ℕ) (rest : List ℕ) → x < 32 → Stops rest → first (variable_name x ++ rest) ≡ Some (Piece Variable (length (variable_name x)))
variable_first x rest h e =
    first_variable (88 ∷ (decimal x ++ rest)) (omega arith) (omega arith) (omega arith) ∙ ap (λ xs. Some (Piece Variable (1 + prefix_len wordly xs))) (take_rest (88 ∷ (decimal x ++ rest)) 1) ∙ ap (λ k. Some (Piece Variable (1 + k))) (stretch (decimal x) rest (decimal_wordly x h) e) ∙ ap (λ k. Some (Piece Variable k)) (omega arith)

-- every name of the signature is a word
abbrev pub Words : Sig → List (List ℕ) → Type 0
Words S ns = (f : ℕ) → f < S.symbols → is_word (get_or ns f []) ≡ true

-- a mark, a term and what follows it
marked : (b : ℕ) (k : Kind) (wt wm : List ℕ) (st sm : List Lexeme) (rest : List ℕ) (n : ℕ) → first (b ∷ (wt ++ (wm ++ rest))) ≡ Some (Piece k 1) → tokens_from (wt ++ (wm ++ rest)) (n + 1) ≡ st ++ tokens_from (wm ++ rest) (n + 1 + length wt) → tokens_from (wm ++ rest) (n + 1 + length wt) ≡ sm ++ tokens_from rest (n + 1 + length wt + length wm) → tokens_from ((b ∷ (wt ++ wm)) ++ rest) n ≡ (token k (b ∷ []) n ∷ (st ++ sm)) ++ tokens_from rest (n + length (b ∷ (wt ++ wm)))
marked b k wt wm st sm rest n e a c =
    let sum : n + 1 + length wt + length wm ≡ n + length (b ∷ (wt ++ wm)) = omega (arith, length-append wt wm) in
    ap (λ bs. tokens_from (b ∷ bs) n) (append_assoc wt wm rest) ∙ piece (b ∷ []) (wt ++ (wm ++ rest)) n k e ∙ ap (λ us. token k (b ∷ []) n ∷ us) (a ∙ ap (λ us. st ++ us) c ∙ sym (append_assoc st sm (tokens_from rest (n + 1 + length wt + length wm))) ∙ ap (λ m. (st ++ sm) ++ tokens_from rest m) sum)

args_stop : (ns : List (List ℕ)) (ts : terms.Terms) (rest : List ℕ) → Stops rest → Stops (written_args ns ts ++ rest)
args_stop ns terms.nil rest e = e
args_stop ns (terms.◌▹◌ t ts) rest e = refl

more_stop : (ns : List (List ℕ)) (ts : terms.Terms) (rest : List ℕ) → Stops (written_more ns ts ++ rest)
more_stop ns terms.nil rest = refl
more_stop ns (terms.◌▹◌ t ts) rest = refl

module _ (S : Sig) (ns : List (List ℕ)) (words : Words S ns) where
  mutual
    pub lex_term : (t : terms.Term) → Over S t → Low t → (rest : List ℕ) (n : ℕ) → Stops rest → tokens_from (written ns t ++ rest) n ≡ spelt ns t n ++ tokens_from rest (n + length (written ns t))
    lex_term (terms.var x) o w rest n e = piece (variable_name x) rest n Variable (variable_first x rest w e)
    lex_term (terms.app f ts) o w rest n e =
        let name = get_or ns f [] in
        let behind = lex_args ts o.2 w rest (n + length name) e in
        let sum : n + length name + length (written_args ns ts) ≡ n + length (name ++ written_args ns ts) = omega (arith, length-append name (written_args ns ts)) in
        ap (λ bs. tokens_from bs n) (append_assoc name (written_args ns ts) rest) ∙ piece name (written_args ns ts ++ rest) n Word (word_first name (written_args ns ts ++ rest) (words f o.0) (args_stop ns ts rest e)) ∙ ap (λ us. token Word name n ∷ us) (behind ∙ ap (λ m. spelt_args ns ts (n + length name) ++ tokens_from rest m) sum)

    lex_args : (ts : terms.Terms) → AllOver S ts → Lows ts → (rest : List ℕ) (n : ℕ) → Stops rest → tokens_from (written_args ns ts ++ rest) n ≡ spelt_args ns ts n ++ tokens_from rest (n + length (written_args ns ts))
    lex_args terms.nil o w rest n e = let same : n ≡ n + 0 = omega arith in ap (tokens_from rest) same
    lex_args (terms.◌▹◌ t ts) o w rest n e =
        marked 40 Open (written ns t) (written_more ns ts) (spelt ns t (n + 1)) (spelt_more ns ts (n + 1 + length (written ns t))) rest n refl (lex_term t o.0 w.0 (written_more ns ts ++ rest) (n + 1) (more_stop ns ts rest)) (lex_more ts o.1 w.1 rest (n + 1 + length (written ns t)) e)

    lex_more : (ts : terms.Terms) → AllOver S ts → Lows ts → (rest : List ℕ) (n : ℕ) → Stops rest → tokens_from (written_more ns ts ++ rest) n ≡ spelt_more ns ts n ++ tokens_from rest (n + length (written_more ns ts))
    lex_more terms.nil o w rest n e = piece (41 ∷ []) rest n Close refl
    lex_more (terms.◌▹◌ t ts) o w rest n e =
        marked 44 Comma (written ns t) (written_more ns ts) (spelt ns t (n + 1)) (spelt_more ns ts (n + 1 + length (written ns t))) rest n refl (lex_term t o.0 w.0 (written_more ns ts ++ rest) (n + 1) (more_stop ns ts rest)) (lex_more ts o.1 w.1 rest (n + 1 + length (written ns t)) e)
