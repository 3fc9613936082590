-- The grammar is unambiguous: tokens are one formula in one way.
use Rattle.std.proofs.Common.{◌≡◌, ℕ, ◌⊎◌, List, [], ◌∷◌, sym, refl, ap, ◌∙◌, subst, ap₂, inl, inr, append_assoc, arith}
use Rattle.lexer.specs.Tokens.{Lexeme}
use Rattle.lexer.specs.declared.token.Kind.{Kind}
use Rattle.lexer.specs.declared.token.Kind.TheVariants.{Word, Variable, Open, Close, Comma, Equal, Unequal}
use Rattle.grammar.specs.Fits.{Complete, Misfit, at_token, at_end}
use Rattle.grammar.specs.Syntax.{Tree, Trees, node, nil, ◌▹◌, Term, Args, variable, constant, applied, last, more, Literal, Sides, sides, Body, bare, wrapped, Parsed, Formula, formula, Is}

-- no parenthesis opens there
abbrev pub Still : List Lexeme → Type 0
Still [] = Unit {0}
Still (t ∷ ts) = t.kind ≡ Open → ⊥

clash : {A : Type 0} (t : Lexeme) (j k : Kind) → Is j t → Is k t → (j ≡ k → ⊥) → A
clash t j k a b h = absurd (h (sym a ∙ b))

variable_word : Variable ≡ Word → ⊥
variable_word e = let z : ◌≡◌ {A = ℕ} 0 1 = cc in omega arith

close_comma : Close ≡ Comma → ⊥
close_comma e = let z : ◌≡◌ {A = ℕ} 0 1 = cc in omega arith

close_open : Close ≡ Open → ⊥
close_open e = let z : ◌≡◌ {A = ℕ} 0 1 = cc in omega arith

comma_open : Comma ≡ Open → ⊥
comma_open e = let z : ◌≡◌ {A = ℕ} 0 1 = cc in omega arith

equal_open : Equal ≡ Open → ⊥
equal_open e = let z : ◌≡◌ {A = ℕ} 0 1 = cc in omega arith

unequal_open : Unequal ≡ Open → ⊥
unequal_open e = let z : ◌≡◌ {A = ℕ} 0 1 = cc in omega arith

open_word : Open ≡ Word → ⊥
open_word e = let z : ◌≡◌ {A = ℕ} 0 1 = cc in omega arith

open_variable : Open ≡ Variable → ⊥
open_variable e = let z : ◌≡◌ {A = ℕ} 0 1 = cc in omega arith

still : (t : Lexeme) (k : Kind) → Is k t → (k ≡ Open → ⊥) → Is Open t → ⊥
still t k a h e = h (sym a ∙ e)

head_same : {t u : Lexeme} {ts us : List Lexeme} → t ∷ ts ≡ u ∷ us → t ≡ u
head_same e = cc

tail_same : {t u : Lexeme} {ts us : List Lexeme} → t ∷ ts ≡ u ∷ us → ts ≡ us
tail_same e = cc

mutual
  pub term_once : {ts us vs : List Lexeme} {x y : Tree} → Term ts x us → Term ts y vs → Still us → Still vs → (x ≡ y) × (us ≡ vs)
  term_once (variable k) (variable j) s r = (refl, refl)
  term_once (variable {v = v} k) (constant j) s r = clash v Variable Word k j variable_word
  term_once (variable {v = v} k) (applied j o a) s r = clash v Variable Word k j variable_word
  term_once (constant {w = w} k) (variable j) s r = clash w Variable Word j k variable_word
  term_once (constant k) (constant j) s r = (refl, refl)
  term_once (constant k) (applied j o a) s r = absurd (s o)
  term_once (applied {w = w} k o a) (variable j) s r = clash w Variable Word j k variable_word
  term_once (applied k o a) (constant j) s r = absurd (r o)
  term_once (applied {w = w} k o a) (applied j p b) s r = let e = args_once a b in (ap (node w) e.0, e.1)

  pub args_once : {ts us vs : List Lexeme} {xs ys : Trees} → Args ts xs us → Args ts ys vs → (xs ≡ ys) × (us ≡ vs)
  args_once (last {c = c} a k) (last {c = d} b j) =
      let e = term_once a b (still c Close k close_open) (still d Close j close_open) in
      (ap (λ t. t ▹ nil) e.0, tail_same e.1)
  args_once (last {c = c} a k) (more {m = m} b j bs) =
      let e = term_once a b (still c Close k close_open) (still m Comma j comma_open) in
      absurd (close_comma (sym k ∙ ap (λ t. t.kind) (head_same e.1) ∙ j))
  args_once (more {m = m} a k args) (last {c = c} b j) =
      let e = term_once a b (still m Comma k comma_open) (still c Close j close_open) in
      absurd (close_comma (sym j ∙ sym (ap (λ t. t.kind) (head_same e.1)) ∙ k))
  args_once (more {m = m} {rest = us} {more_trees = xs} a k args) (more {m = n} {us = ns} {rest = vs} {more_trees = ys} b j bs) =
      let e = term_once a b (still m Comma k comma_open) (still n Comma j comma_open) in
      let f = args_once args (subst (λ (zs : List Lexeme). Args zs ys vs) (sym (tail_same e.1)) bs) in
      (ap₂ ◌▹◌ e.0 f.0, f.1)

sign_still : (t : Lexeme) (ts : List Lexeme) → Is Equal t ⊎ Is Unequal t → Still (t ∷ ts)
sign_still t ts (inl k) = still t Equal k equal_open
sign_still t ts (inr k) = still t Unequal k unequal_open

sides_once : {ts us vs : List Lexeme} {x y : Literal} → Sides ts x us → Sides ts y vs → Still us → Still vs → (x ≡ y) × (us ≡ vs)
sides_once (sides {us = ms} {rest = us} {l = l} {r = r} {s = t} a k b) (sides {us = ns} {rest = vs} {l = m} {r = q} {s = u} c j d) s p =
    let e = term_once a c (sign_still t ms k) (sign_still u ns j) in
    let f = term_once b (subst (λ (zs : List Lexeme). Term zs q vs) (sym (tail_same e.1)) d) s p in
    (literal l m r q t u e.0 (head_same e.1) f.0, f.1)
  where
    literal : (l m r q : Tree) (t u : Lexeme) → l ≡ m → t ≡ u → r ≡ q → ◌≡◌ {A = Literal} (record { left = l; sign = t; right = r }) (record { left = m; sign = u; right = q })
    literal l m r q t u e f g = cc

-- no side begins with a parenthesis
sides_start : {A : Type 0} {o : Lexeme} {ts us : List Lexeme} {x : Literal} → Sides (o ∷ ts) x us → Is Open o → A
sides_start {o = o} (sides (variable j) k b) i = clash o Open Variable i j open_variable
sides_start {o = o} (sides (constant j) k b) i = clash o Open Word i j open_word
sides_start {o = o} (sides (applied j p a) k b) i = clash o Open Word i j open_word

body_once : {ts us vs : List Lexeme} {c d : Lexeme} {x y : Literal} → Body ts x (c ∷ us) → Body ts y (d ∷ vs) → Is Close c → Is Close d → (x ≡ y) × (c ∷ us ≡ d ∷ vs)
body_once {c = c} {d = d} (bare a) (bare b) k j = sides_once a b (still c Close k close_open) (still d Close j close_open)
body_once (bare a) (wrapped o b i) k j = sides_start a o
body_once (wrapped o a i) (bare b) k j = sides_start b o
body_once (wrapped {c = c} o a i) (wrapped {c = d} p b h) k j =
    let e = sides_once a b (still c Close i close_open) (still d Close h close_open) in
    (e.0, tail_same e.1)

pub formula_once : {ts us vs : List Lexeme} {x y : Parsed} → Formula ts x us → Formula ts y vs → x ≡ y
formula_once (formula {n = n} {r = r} {x = a} kw cw ko kn km kr kk b kc kd) (formula {x = c} jw dw jo jn jm jr jk d jc jd) = parsed a c (body_once b d kc jc).0
  where
    parsed : (a c : Literal) → a ≡ c → ◌≡◌ {A = Parsed} (record { name = n; role = r; body = a }) (record { name = n; role = r; body = c })
    parsed a c e = cc

-- what is one formula breaks the grammar nowhere
pub complete_fits : (ts : List Lexeme) (len p : ℕ) → Complete ts → Misfit ts len p → ⊥
complete_fits ts len p c (at_token t before after is b never) =
    let P : List Lexeme → Type 0 = Complete in
    never (after, subst P (is ∙ sym (append_assoc before (t ∷ []) after)) c)
complete_fits ts len p c (at_end b never) = never c
