-- A formula cut out of a text, from its first byte to its dot, has the same tokens alone.
use Rattle.std.proofs.Common.{◌≡◌, ℕ, zero, suc, ◌+◌, ◌-◌, ◌<◌, ◌≤◌, Bool, true, false, cond, ◌&&◌, eqb, ltb, ◌⊎◌, List, [], ◌∷◌, ◌++◌, length, take, drop, IfSome, Some, None, Option, sym, refl, ap, ◌∙◌, subst, ap₂, inl, inr, arith, length-drop}
use mathlib.Core.Bool.{false≢true}
use Rattle.std.specs.List.{prefix_len}
use Rattle.std.proofs.lemmas.List.{drop-take, take-take, length-take-le}
use Rattle.std.proofs.lemmas.Bool.{cases_Bool, cond-true, cond-false, cond_both, and_right}
use Rattle.signature.specs.Words.{lower, upper, wordly}
use Rattle.lexer.specs.Tokens.{Lexeme, front, first, length_of_block, block, blank, starts, mark, tokens, tokens_from}
use Rattle.lexer.specs.Next.{end_of}
use Rattle.lexer.specs.declared.token.Kind.{Kind}
use Rattle.lexer.specs.declared.token.Kind.TheVariants.{Word, Variable, Open, Close, Comma, Dot, Unequal, Stray}
use Rattle.lexer.specs.declared.token.Front.{Front}
use Rattle.lexer.specs.declared.token.Front.TheVariants.{Gap, Piece}
use Rattle.lexer.proofs.Lexing.{Moves, front_moves, tokens_gap, tokens_piece, tokens_none}
use Rattle.lexer.proofs.Cuts.{reach, first_cut}
use Rattle.grammar.specs.Kinds.{code, same_kind}
use Rattle.grammar.specs.Fits.{Complete}
use Rattle.grammar.specs.Machine.{is_right, next, is_done, expect, spot, term_start, inside, outside, behind}
use Rattle.grammar.specs.Outcomes.{end_behind}
use Rattle.terms.specs.declared.side.Side.TheVariants.{Left, Right}
use Rattle.grammar.specs.declared.machine.Spot.{Spot}
use Rattle.grammar.specs.declared.machine.State.{State}
use Rattle.grammar.specs.declared.machine.State.TheVariants as state
use Rattle.grammar.proofs.Steps.{none_some, bind, run, kind_met}
use Rattle.grammar.proofs.Prefixes.{run_complete}

-- the last token is a dot
pub data Dotted : List Lexeme → Type 0 where
  dot : {t : Lexeme} → t.kind ≡ Dot → Dotted (t ∷ [])
  before : {t u : Lexeme} {ts : List Lexeme} → Dotted (u ∷ ts) → Dotted (t ∷ (u ∷ ts))

data Split (t : Lexeme) (ts : List Lexeme) : Type 0 where
  ended : ts ≡ [] → t.kind ≡ Dot → Split t ts
  goes_on : (u : Lexeme) (us : List Lexeme) → ts ≡ u ∷ us → Dotted (u ∷ us) → Split t ts

split : {t : Lexeme} {ts : List Lexeme} → Dotted (t ∷ ts) → Split t ts
split (dot k) = ended refl k
split (before {u = u} {ts = us} d) = goes_on u us refl d

nil_cons : {A : Type 0} {t : Lexeme} {ts : List Lexeme} → [] ≡ t ∷ ts → A
nil_cons e = let z : ◌≡◌ {A = ℕ} 0 1 = cc in absurd (omega arith)

head_same : {t u : Lexeme} {ts us : List Lexeme} → t ∷ ts ≡ u ∷ us → t ≡ u
head_same e = cc

tail_same : {t u : Lexeme} {ts us : List Lexeme} → t ∷ ts ≡ u ∷ us → ts ≡ us
tail_same e = cc

-- tokens end behind the place from which they are read
module _ (bs : List ℕ) (n : ℕ) (t : Lexeme) (ts rest : List Lexeme) (start : ℕ) (is : tokens_from bs n ≡ t ∷ (ts ++ rest)) where
  from_piece : (kind : Kind) (m : ℕ) → first bs ≡ Some (Piece kind m) → 1 ≤ m → m ≤ length bs → ((u : Lexeme) (us : List Lexeme) → tokens_from (drop m bs) (n + m) ≡ u ∷ (us ++ rest) → n + m < end_behind (end_of t) (u ∷ us)) → n < end_behind start (t ∷ ts)
  from_piece kind m e some within ih = by ts refl
    where
      all : record { kind = kind; bytes = take m bs; place = n } ∷ tokens_from (drop m bs) (n + m) ≡ t ∷ (ts ++ rest)
      all = sym (tokens_piece bs n kind m e) ∙ is

      end : end_of t ≡ n + m
      end = ap end_of (sym (head_same all)) ∙ ap (λ k. n + k) (length-take-le m bs within)

      by : (us : List Lexeme) → ts ≡ us → n < end_behind (end_of t) us
      by [] e = omega (arith, end)
      by (u ∷ us) e = let k = ih u us (tail_same all ∙ ap (λ xs. xs ++ rest) e) in omega (arith, k)

ends_after : (fuel : ℕ) (bs : List ℕ) (n : ℕ) (t : Lexeme) (ts rest : List Lexeme) (start : ℕ) → length bs < fuel → tokens_from bs n ≡ t ∷ (ts ++ rest) → n < end_behind start (t ∷ ts)
ends_after zero bs n t ts rest start h is = absurd (omega arith)
ends_after (suc fuel) [] n t ts rest start h is = nil_cons (sym (tokens_none n) ∙ is)
ends_after (suc fuel) (b ∷ bs) n t ts rest start h is = by (front b bs) refl (front_moves b bs) (λ cs m u us e. ends_after fuel cs m u us rest e)
  where
    by : (f : Front) → front b bs ≡ f → Moves (length (b ∷ bs)) f → ((cs : List ℕ) (m : ℕ) (u : Lexeme) (us : List Lexeme) (e : ℕ) → length cs < fuel → tokens_from cs m ≡ u ∷ (us ++ rest) → m < end_behind e (u ∷ us)) → n < end_behind start (t ∷ ts)
    by (Gap k) e m ih =
        let r = ih (drop k (b ∷ bs)) (n + k) t ts start (omega (arith, length-drop k (b ∷ bs), m.0, m.1)) (sym (tokens_gap (b ∷ bs) n k (ap Some e)) ∙ is) in
        omega (arith, r)
    by (Piece kind k) e m ih = from_piece (b ∷ bs) n t ts rest start is kind k (ap Some e) m.0 m.1 (λ u us i. ih (drop k (b ∷ bs)) (n + k) u us (end_of t) (omega (arith, length-drop k (b ∷ bs), m.0, m.1)) i)

-- a dot is one byte, and stands alone as well
gap_piece : {A : Type 0} {n m : ℕ} {k : Kind} → Gap n ≡ Piece k m → A
gap_piece e = let z : ◌≡◌ {A = ℕ} 0 1 = cc in absurd (omega arith)

piece_kind : {n m : ℕ} {k l : Kind} → Piece k n ≡ Piece l m → k ≡ l
piece_kind e = cc

piece_size : {n m : ℕ} {k l : Kind} → Piece k n ≡ Piece l m → n ≡ m
piece_size e = cc

block_dot : {A : Type 0} (o : Option ℕ) (m : ℕ) → block o ≡ Piece Dot m → A
block_dot None m e = let z : Stray ≡ Dot = piece_kind e in let y : ◌≡◌ {A = ℕ} 8 5 = ap code z in absurd (omega arith)
block_dot (Some k) m e = gap_piece e

other_kind : {A : Type 0} (k : Kind) (n m : ℕ) → Piece k n ≡ Piece Dot m → (code k ≡ 5 → ⊥) → A
other_kind k n m e h = absurd (h (ap code (piece_kind e)))

record OneDot (b m : ℕ) : Type 0 where
  one : m ≡ 1
  alone : front b [] ≡ Piece Dot 1

dot_alone : (b : ℕ) (bs : List ℕ) (m : ℕ) → front b bs ≡ Piece Dot m → OneDot b m
dot_alone b bs m e0 = at_blank (cases_Bool (blank b))
  where
    at_upper : blank b ≡ false → eqb b 37 ≡ false → lower b ≡ false → (upper b ≡ true) ⊎ (upper b ≡ false) → cond (upper b) (Piece Variable (1 + prefix_len wordly bs)) (Piece (mark b) 1) ≡ Piece Dot m → OneDot b m
    at_upper x y l (inl t) e = other_kind Variable _ m (sym (cond-true _ _ _ t) ∙ e) (λ z. omega arith)
    at_upper x y l (inr t) e =
        let here : Piece (mark b) 1 ≡ Piece Dot m = sym (cond-false _ _ _ t) ∙ e in
        record {
          one = sym (piece_size here);
          alone = cond-false _ _ _ x ∙ cond-false _ _ _ y ∙ cond-false _ _ _ (and_right (eqb b 47) false refl) ∙ cond-false _ _ _ (and_right (eqb b 33) false refl) ∙ cond-false _ _ _ l ∙ cond-false _ _ _ t ∙ ap (λ k. Piece k 1) (piece_kind here);
        }

    at_lower : blank b ≡ false → eqb b 37 ≡ false → (lower b ≡ true) ⊎ (lower b ≡ false) → cond (lower b) (Piece Word (1 + prefix_len wordly bs)) (cond (upper b) (Piece Variable (1 + prefix_len wordly bs)) (Piece (mark b) 1)) ≡ Piece Dot m → OneDot b m
    at_lower x y (inl t) e = other_kind Word _ m (sym (cond-true _ _ _ t) ∙ e) (λ z. omega arith)
    at_lower x y (inr t) e = at_upper x y t (cases_Bool (upper b)) (sym (cond-false _ _ _ t) ∙ e)

    at_unequal : blank b ≡ false → eqb b 37 ≡ false → ((eqb b 33 && starts 61 bs) ≡ true) ⊎ ((eqb b 33 && starts 61 bs) ≡ false) → cond (eqb b 33 && starts 61 bs) (Piece Unequal 2) (cond (lower b) (Piece Word (1 + prefix_len wordly bs)) (cond (upper b) (Piece Variable (1 + prefix_len wordly bs)) (Piece (mark b) 1))) ≡ Piece Dot m → OneDot b m
    at_unequal x y (inl t) e = other_kind Unequal _ m (sym (cond-true _ _ _ t) ∙ e) (λ z. omega arith)
    at_unequal x y (inr t) e = at_lower x y (cases_Bool (lower b)) (sym (cond-false _ _ _ t) ∙ e)

    at_block : blank b ≡ false → eqb b 37 ≡ false → ((eqb b 47 && starts 42 bs) ≡ true) ⊎ ((eqb b 47 && starts 42 bs) ≡ false) → cond (eqb b 47 && starts 42 bs) (block (length_of_block (drop 1 bs))) (cond (eqb b 33 && starts 61 bs) (Piece Unequal 2) (cond (lower b) (Piece Word (1 + prefix_len wordly bs)) (cond (upper b) (Piece Variable (1 + prefix_len wordly bs)) (Piece (mark b) 1)))) ≡ Piece Dot m → OneDot b m
    at_block x y (inl t) e = block_dot (length_of_block (drop 1 bs)) m (sym (cond-true _ _ _ t) ∙ e)
    at_block x y (inr t) e = at_unequal x y (cases_Bool (eqb b 33 && starts 61 bs)) (sym (cond-false _ _ _ t) ∙ e)

    at_comment : blank b ≡ false → (eqb b 37 ≡ true) ⊎ (eqb b 37 ≡ false) → OneDot b m
    at_comment x (inl t) = gap_piece (sym (cond-false _ _ _ x ∙ cond-true _ _ _ t) ∙ e0)
    at_comment x (inr t) = at_block x t (cases_Bool (eqb b 47 && starts 42 bs)) (sym (cond-false _ _ _ x ∙ cond-false _ _ _ t) ∙ e0)

    at_blank : (blank b ≡ true) ⊎ (blank b ≡ false) → OneDot b m
    at_blank (inl t) = gap_piece (sym (cond-true _ _ _ t) ∙ e0)
    at_blank (inr t) = at_comment t (cases_Bool (eqb b 37))

-- the tokens of a front that ends with a dot
module _ (fuel b : ℕ) (bs : List ℕ) (n k : ℕ) (t : Lexeme) (ts rest : List Lexeme) (is : tokens_from (b ∷ bs) n ≡ t ∷ (ts ++ rest)) (ends : end_behind n (t ∷ ts) ≡ n + k) where
  abbrev xs : List ℕ
  xs = b ∷ bs

  cut_list : (m : ℕ) → m ≤ k → drop m (take k xs) ≡ take (k - m) (drop m xs)
  cut_list m h = let size : m + (k - m) ≡ k = omega arith in ap (λ i. drop m (take i xs)) (sym size) ∙ drop-take m (k - m) xs

  same_first : (m : ℕ) (f : Front) → front b bs ≡ f → reach f ≡ m → 1 ≤ m → m < k → first (take k xs) ≡ Some f
  same_first m f e r some less = at_size k refl
    where
      at_size : (i : ℕ) → k ≡ i → first (take k xs) ≡ Some f
      at_size zero z = absurd (omega arith)
      at_size (suc j) z = ap (λ i. first (take i xs)) z ∙ first_cut b bs j (omega arith) (subst (λ g. reach g ≤ j) (sym e) (omega arith)) ∙ ap Some e

  at_gap : (m : ℕ) → front b bs ≡ Gap m → 1 ≤ m → m < k → (tokens_from (take (k - m) (drop m xs)) (n + m) ≡ t ∷ ts) → tokens_from (take k xs) n ≡ t ∷ ts
  at_gap m e some less ih = tokens_gap (take k xs) n m (same_first m (Gap m) e refl some less) ∙ ap (λ cs. tokens_from cs (n + m)) (cut_list m (omega arith)) ∙ ih

  at_last : (kind : Kind) (m : ℕ) → front b bs ≡ Piece kind m → 1 ≤ m → m ≤ length xs → ts ≡ [] → t.kind ≡ Dot → tokens_from (take k xs) n ≡ t ∷ ts
  at_last kind m e some within none dotted =
      let all : record { kind = kind; bytes = take m xs; place = n } ∷ tokens_from (drop m xs) (n + m) ≡ t ∷ (ts ++ rest) = sym (tokens_piece xs n kind m (ap Some e)) ∙ is in
      let is-dot : kind ≡ Dot = ap (λ u. u.kind) (head_same all) ∙ dotted in
      let one = dot_alone b bs m (e ∙ ap (λ i. Piece i m) is-dot) in
      let end : end_of t ≡ n + m = ap end_of (sym (head_same all)) ∙ ap (λ i. n + i) (length-take-le m xs within) in
      let size : k ≡ 1 = omega (arith, ends_none none, end, one.one) in
      ap (λ i. tokens_from (take i xs) n) size ∙ tokens_piece (b ∷ []) n Dot 1 (ap Some one.alone) ∙ ap₂ ◌∷◌ (ap₂ (λ (i : Kind) (j : ℕ). record { kind = i; bytes = take j xs; place = n }) (sym is-dot) (sym one.one) ∙ head_same all) (tokens_none (n + 1) ∙ sym none)
    where
      ends_none : ts ≡ [] → end_of t ≡ n + k
      ends_none z = ap (end_behind (end_of t)) (sym z) ∙ ends

  at_piece : (kind : Kind) (m : ℕ) → front b bs ≡ Piece kind m → 1 ≤ m → m < k → (tokens_from (drop m xs) (n + m) ≡ ts ++ rest → tokens_from (take (k - m) (drop m xs)) (n + m) ≡ ts) → tokens_from (take k xs) n ≡ t ∷ ts
  at_piece kind m e some less ih =
      let all : record { kind = kind; bytes = take m xs; place = n } ∷ tokens_from (drop m xs) (n + m) ≡ t ∷ (ts ++ rest) = sym (tokens_piece xs n kind m (ap Some e)) ∙ is in
      tokens_piece (take k xs) n kind m (same_first m (Piece kind m) e refl some less) ∙ ap₂ ◌∷◌ (ap (λ cs. record { kind = kind; bytes = cs; place = n }) (take-take m k xs (omega arith)) ∙ head_same all) (ap (λ cs. tokens_from cs (n + m)) (cut_list m (omega arith)) ∙ ih (tail_same all))

pub cut_tokens : (fuel : ℕ) (bs : List ℕ) (n k : ℕ) (t : Lexeme) (ts rest : List Lexeme) → length bs < fuel → Dotted (t ∷ ts) → tokens_from bs n ≡ t ∷ (ts ++ rest) → end_behind n (t ∷ ts) ≡ n + k → tokens_from (take k bs) n ≡ t ∷ ts
cut_tokens zero bs n k t ts rest h d is ends = absurd (omega arith)
cut_tokens (suc fuel) [] n k t ts rest h d is ends = nil_cons (sym (tokens_none n) ∙ is)
cut_tokens (suc fuel) (b ∷ bs) n k t ts rest h d is ends = by (front b bs) refl (front_moves b bs) d (λ cs m i u us. cut_tokens fuel cs m i u us rest)
  where
    shorter : (m : ℕ) → 1 ≤ m → m ≤ length (b ∷ bs) → length (drop m (b ∷ bs)) < fuel
    shorter m some within = omega (arith, length-drop m (b ∷ bs))

    by : (f : Front) → front b bs ≡ f → Moves (length (b ∷ bs)) f → Dotted (t ∷ ts) → ((cs : List ℕ) (m i : ℕ) (u : Lexeme) (us : List Lexeme) → length cs < fuel → Dotted (u ∷ us) → tokens_from cs m ≡ u ∷ (us ++ rest) → end_behind m (u ∷ us) ≡ m + i → tokens_from (take i cs) m ≡ u ∷ us) → tokens_from (take k (b ∷ bs)) n ≡ t ∷ ts
    by (Gap i) e m d ih =
        let on = sym (tokens_gap (b ∷ bs) n i (ap Some e)) ∙ is in
        let less : i < k = omega (arith, ends_after (suc (length (drop i (b ∷ bs)))) (drop i (b ∷ bs)) (n + i) t ts rest n (omega arith) on, ends) in
        at_gap fuel b bs n k t ts rest is ends i e m.0 less (ih (drop i (b ∷ bs)) (n + i) (k - i) t ts (shorter i m.0 m.1) d on (ends ∙ omega arith))
    by (Piece kind i) e m d ih = piece (split d)
      where
        piece : Split t ts → tokens_from (take k (b ∷ bs)) n ≡ t ∷ ts
        piece (ended none dotted) = at_last fuel b bs n k t ts rest is ends kind i e m.0 m.1 none dotted
        piece (goes_on u us some more) =
            let on = tail_same (sym (tokens_piece (b ∷ bs) n kind i (ap Some e)) ∙ is) ∙ ap (λ vs. vs ++ rest) some in
            let behind : end_behind (n + i) (u ∷ us) ≡ n + k = ap (end_behind (end_of t)) (sym some) ∙ ends in
            let less : i < k = omega (arith, ends_after (suc (length (drop i (b ∷ bs)))) (drop i (b ∷ bs)) (n + i) u us rest (end_of t) (omega arith) on, behind) in
            at_piece fuel b bs n k t ts rest is ends kind i e m.0 less (λ z. ih (drop i (b ∷ bs)) (n + i) (k - i) u us (shorter i m.0 m.1) more on (behind ∙ omega arith) ∙ sym some)

-- where a formula stands does not matter to the machine
next_anywhere : (q : State) (k : Kind) (bs : List ℕ) (n m : ℕ) → next q (record { kind = k; bytes = bs; place = n }) ≡ next q (record { kind = k; bytes = bs; place = m })
next_anywhere state.Start k bs n m = refl
next_anywhere state.Opening k bs n m = refl
next_anywhere state.Name k bs n m = refl
next_anywhere state.NameComma k bs n m = refl
next_anywhere state.Role k bs n m = refl
next_anywhere state.RoleComma k bs n m = refl
next_anywhere state.Body k bs n m = refl
next_anywhere (state.Term s) k bs n m = refl
next_anywhere (state.Named s) k bs n m = refl
next_anywhere (state.Closed s) k bs n m = refl
next_anywhere state.Unwrapped k bs n m = refl
next_anywhere state.Ended k bs n m = refl
next_anywhere state.Done k bs n m = refl

bind_same : (o : Option State) (ts us : List Lexeme) → ((p : State) → run p ts ≡ run p us) → bind o (λ p. run p ts) ≡ bind o (λ p. run p us)
bind_same None ts us h = refl
bind_same (Some p) ts us h = h p

run_anywhere : (fuel : ℕ) (bs : List ℕ) (n m : ℕ) (q : State) → length bs < fuel → run q (tokens_from bs n) ≡ run q (tokens_from bs m)
run_anywhere zero bs n m q h = absurd (omega arith)
run_anywhere (suc fuel) [] n m q h = ap (run q) (tokens_none n ∙ sym (tokens_none m))
run_anywhere (suc fuel) (b ∷ bs) n m q h = by (front b bs) refl (front_moves b bs) (λ cs i j p. run_anywhere fuel cs i j p)
  where
    by : (f : Front) → front b bs ≡ f → Moves (length (b ∷ bs)) f → ((cs : List ℕ) (i j : ℕ) (p : State) → length cs < fuel → run p (tokens_from cs i) ≡ run p (tokens_from cs j)) → run q (tokens_from (b ∷ bs) n) ≡ run q (tokens_from (b ∷ bs) m)
    by (Gap k) e w ih = ap (run q) (tokens_gap (b ∷ bs) n k (ap Some e)) ∙ ih (drop k (b ∷ bs)) (n + k) (m + k) q (omega (arith, length-drop k (b ∷ bs), w.0, w.1)) ∙ ap (run q) (sym (tokens_gap (b ∷ bs) m k (ap Some e)))
    by (Piece kind k) e w ih =
        let short : length (drop k (b ∷ bs)) < fuel = omega (arith, length-drop k (b ∷ bs), w.0, w.1) in
        ap (run q) (tokens_piece (b ∷ bs) n kind k (ap Some e))
        ∙ ap (λ o. bind o (λ p. run p (tokens_from (drop k (b ∷ bs)) (n + k)))) (next_anywhere q kind (take k (b ∷ bs)) n m)
        ∙ bind_same (next q (record { kind = kind; bytes = take k (b ∷ bs); place = m })) _ _ (λ p. ih (drop k (b ∷ bs)) (n + k) (m + k) p short)
        ∙ ap (run q) (sym (tokens_piece (b ∷ bs) m kind k (ap Some e)))

-- the machine is done behind a dot only
abbrev Undone : Option State → Type 0
Undone o = IfSome o (λ p. is_done p ≡ false)

expect_undone : (b : Bool) (p : State) → is_done p ≡ false → Undone (expect b p)
expect_undone b p h = cond_both b (Some p) None Undone (λ _. h) (λ _. tt)

start_undone : (s : Spot) (k : Kind) → Undone (term_start s k)
start_undone s k = cond_both (same_kind k Variable) (Some (state.Closed s)) _ Undone (λ _. refl) (λ _. expect_undone (same_kind k Word) (state.Named s) refl)

behind_undone : (s : Spot) (k : Kind) → Undone (behind s k)
behind_undone s k =
    cond_both (ltb 0 s.depth) (inside s k) (outside s k) Undone
    (λ _. cond_both (same_kind k Comma) (Some (state.Term s)) _ Undone (λ _. refl) (λ _. expect_undone (same_kind k Close) (state.Closed (spot (s.depth - 1) s.side s.wrapped)) refl))
    (λ _. cond_both (is_right s.side) _ _ Undone (λ _. expect_undone (same_kind k Close) _ (cond_both s.wrapped state.Unwrapped state.Ended (λ p. is_done p ≡ false) (λ _. refl) (λ _. refl))) (λ _. expect_undone _ (state.Term (spot 0 Right s.wrapped)) refl))

undone_not : {A : Type 0} (o : Option State) → Undone o → o ≡ Some state.Done → A
undone_not o u e = let P : Option State → Type 0 = Undone in absurd (false≢true (sym (subst P e u)))

done_dot : (q : State) (t : Lexeme) → next q t ≡ Some state.Done → t.kind ≡ Dot
done_dot state.Start t e = undone_not _ (expect_undone _ state.Opening refl) e
done_dot state.Opening t e = undone_not _ (expect_undone _ state.Name refl) e
done_dot state.Name t e = undone_not _ (expect_undone _ state.NameComma refl) e
done_dot state.NameComma t e = undone_not _ (expect_undone _ state.Role refl) e
done_dot state.Role t e = undone_not _ (expect_undone _ state.RoleComma refl) e
done_dot state.RoleComma t e = undone_not _ (expect_undone _ state.Body refl) e
done_dot state.Body t e = undone_not _ (cond_both (same_kind t.kind Open) (Some (state.Term (spot 0 Left true))) _ Undone (λ _. refl) (λ _. start_undone (spot 0 Left false) t.kind)) e
done_dot (state.Term s) t e = undone_not _ (start_undone s t.kind) e
done_dot (state.Named s) t e = undone_not _ (cond_both (same_kind t.kind Open) (Some (state.Term (spot (s.depth + 1) s.side s.wrapped))) _ Undone (λ _. refl) (λ _. behind_undone s t.kind)) e
done_dot (state.Closed s) t e = undone_not _ (behind_undone s t.kind) e
done_dot state.Unwrapped t e = undone_not _ (expect_undone _ state.Ended refl) e
done_dot state.Ended t e = (kind_met t Dot state.Done (λ p. Some p) state.Done (bound _ e)).0
  where
    bound : (o : Option State) → o ≡ Some state.Done → bind o (λ p. Some p) ≡ Some state.Done
    bound None h = h
    bound (Some p) h = h
done_dot state.Done t e = none_some e

run_dotted : (q : State) (t : Lexeme) (ts : List Lexeme) → run q (t ∷ ts) ≡ Some state.Done → Dotted (t ∷ ts)
run_dotted q t [] h = dot (done_dot q t (last_step (next q t) h))
  where
    last_step : (o : Option State) → bind o (λ p. run p []) ≡ Some state.Done → o ≡ Some state.Done
    last_step None e = none_some e
    last_step (Some p) e = e
run_dotted q t (u ∷ us) h = later (next q t) h (λ p. run_dotted p u us)
  where
    later : (o : Option State) → bind o (λ p. run p (u ∷ us)) ≡ Some state.Done → ((p : State) → run p (u ∷ us) ≡ Some state.Done → Dotted (u ∷ us)) → Dotted (t ∷ (u ∷ us))
    later None e ih = none_some e
    later (Some p) e ih = before (ih p e)

-- so the part that is handed out is one formula alone
pub alone : (bs : List ℕ) (n k : ℕ) (t : Lexeme) (ts rest : List Lexeme) → tokens_from bs n ≡ t ∷ (ts ++ rest) → run state.Start (t ∷ ts) ≡ Some state.Done → end_behind n (t ∷ ts) ≡ n + k → Complete (tokens (take k bs))
alone bs n k t ts rest is runs ends =
    let same = cut_tokens (suc (length bs)) bs n k t ts rest (omega arith) (run_dotted state.Start t ts runs) is ends in
    run_complete (tokens (take k bs)) (run_anywhere (suc (length (take k bs))) (take k bs) 0 n state.Start (omega arith) ∙ ap (run state.Start) same ∙ runs)
