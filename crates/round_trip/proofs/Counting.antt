-- Written variables are numbered as they are met, and what is within the limits is laid out.
use Rattle.std.proofs.Common.{◌≡◌, ℕ, ◌+◌, ◌<◌, ◌≤◌, Bool, true, false, cond, not, eqb, ltb, ◌⊎◌, List, [], ◌∷◌, ◌++◌, map, length, get_or, Some, Ok, sym, refl, ap, ◌∙◌, ap₂, inl, inr, append_assoc, append-nil, arith, length-append}
use lib.ListN.{length-map}
use Rattle.std.specs.Str.Parse.{digits_value}
use Rattle.std.proofs.lemmas.Fmt.{decimal_is_IsNumeral}
use Rattle.std.proofs.lemmas.List.{map-append}
use Rattle.std.proofs.lemmas.Bool.{cond-true, cond-false, cond_both, lt-ltb, le-ltb, eq-eqb, eqb-true, cases_lt, cases_Bool}
use Rattle.std.proofs.lemmas.Bool.Decides.{same_from_decides, Decides-eqb, Decides-like}
use Rattle.terms.specs.Term as terms
use Rattle.terms.specs.Sig.{Over, AllOver}
use Rattle.terms.specs.declared.pattern.Node.{Node}
use Rattle.terms.specs.declared.pattern.Node.TheVariants.{Var, App}
use Rattle.signature.specs.Signatures.{sig_of, names_of}
use Rattle.signature.specs.declared.signature.Signature.{Signature}
use Rattle.lexer.specs.Tokens.{Lexeme}
use Rattle.lexer.specs.declared.token.Kind.TheVariants.{Word}
use Rattle.grammar.specs.Kinds.{same_bytes}
use Rattle.std.proofs.lemmas.Slice.Eq.{bytes_eq-Decides}
use Rattle.formula.specs.Symbols.{index_of, symbol_of}
use Rattle.formula.specs.Uses.{Use, uses, usess, count, misused, Listed, here, later, NoneMisused}
use Rattle.formula.specs.Numbering.{cells, cellss, laid, with_name, resolved, resolveds}
use Rattle.formula.proofs.Named.{symbol_found, number_is}
use Rattle.formula.proofs.Laying.{on, laid_append}
use Rattle.signature.specs.Written.{written}
use Rattle.round_trip.specs.Variables.{at, with_variable, met, mets, Low, Lows}
use Rattle.round_trip.specs.Texts.{variable_name, token, tree, trees}

tail_same : {x y : ℕ} {xs ys : List ℕ} → x ∷ xs ≡ y ∷ ys → xs ≡ ys
tail_same e = cc

name_apart : (x y : ℕ) → x < 32 → y < 32 → variable_name x ≡ variable_name y → x ≡ y
name_apart x y h k e = sym (decimal_is_IsNumeral x (omega arith)).1 ∙ ap (digits_value 10) (tail_same e) ∙ (decimal_is_IsNumeral y (omega arith)).1

name_test : (x y : ℕ) → x < 32 → y < 32 → same_bytes (variable_name x) (variable_name y) ≡ eqb x y
name_test x y h k = same_from_decides _ _ (bytes_eq-Decides (variable_name x) (variable_name y)) (Decides-like (eqb x y) (ap variable_name) (name_apart x y h k) (Decides-eqb x y))

abbrev pub Each : List ℕ → Type 0
Each [] = Unit {0}
Each (k ∷ ks) = (k < 32) × Each ks

abbrev pub named : List ℕ → List (List ℕ)
named ks = map variable_name ks

pub at_name : (ks : List ℕ) (x : ℕ) → Each ks → x < 32 → index_of (variable_name x) (named ks) ≡ at x ks
at_name [] x e h = refl
at_name (k ∷ ks) x e h = ap₂ (λ (b : Bool) (n : ℕ). cond b 0 (1 + n)) (name_test k x e.0 h) (at_name ks x e.1 h)

pub with_named : (ks : List ℕ) (x : ℕ) → Each ks → x < 32 → with_name (named ks) (variable_name x) ≡ named (with_variable ks x)
with_named ks x e h = by (cases_lt (at x ks) (length ks))
  where
    size : length (named ks) ≡ length ks
    size = length-map ks variable_name

    by : (at x ks < length ks) ⊎ (length ks ≤ at x ks) → with_name (named ks) (variable_name x) ≡ named (with_variable ks x)
    by (inl k) = cond-true _ _ _ (lt-ltb (index_of (variable_name x) (named ks)) (length (named ks)) (omega (arith, at_name ks x e h, size))) ∙ ap named (sym (cond-true _ _ _ (lt-ltb (at x ks) (length ks) k)))
    by (inr k) = cond-false _ _ _ (le-ltb (index_of (variable_name x) (named ks)) (length (named ks)) (omega (arith, at_name ks x e h, size))) ∙ sym (map-append variable_name ks (x ∷ [])) ∙ ap named (sym (cond-false _ _ _ (le-ltb (at x ks) (length ks) k)))

each_more : (ks : List ℕ) (x : ℕ) → Each ks → x < 32 → Each (ks ++ x ∷ [])
each_more [] x e h = (h, tt)
each_more (k ∷ ks) x e h = (e.0, each_more ks x e.1 h)

each_with : (ks : List ℕ) (x : ℕ) → Each ks → x < 32 → Each (with_variable ks x)
each_with ks x e h = cond_both (ltb (at x ks) (length ks)) ks (ks ++ x ∷ []) Each (λ _. e) (λ _. each_more ks x e h)

-- a number that is there has a place, and keeps it
at_more : (x : ℕ) (ks ms : List ℕ) → at x ks < length ks → at x (ks ++ ms) ≡ at x ks
at_more x [] ms h = absurd (omega arith)
at_more x (k ∷ ks) ms h = by (cases_Bool (eqb k x)) (λ i. at_more x ks ms i)
  where
    by : (eqb k x ≡ true) ⊎ (eqb k x ≡ false) → (at x ks < length ks → at x (ks ++ ms) ≡ at x ks) → at x (k ∷ (ks ++ ms)) ≡ at x (k ∷ ks)
    by (inl e) ih = cond-true _ _ _ e ∙ sym (cond-true _ _ _ e)
    by (inr e) ih =
        let one : at x (k ∷ ks) ≡ 1 + at x ks = cond-false _ _ _ e in
        cond-false _ _ _ e ∙ ap (λ n. 1 + n) (ih (omega (arith, one))) ∙ sym one

at_end : (x : ℕ) (ks : List ℕ) → at x (ks ++ x ∷ []) < length (ks ++ x ∷ [])
at_end x [] = let z : at x (x ∷ []) ≡ 0 = cond-true _ _ _ (eq-eqb x x refl) in omega (arith, z)
at_end x (k ∷ ks) = cond_both (eqb k x) _ _ (λ n. n < length (k ∷ (ks ++ x ∷ []))) (λ _. omega arith) (λ _. omega (arith, at_end x ks))

pub at_with : (x : ℕ) (ks : List ℕ) → at x (with_variable ks x) < length (with_variable ks x)
at_with x ks = by (cases_lt (at x ks) (length ks))
  where
    by : (at x ks < length ks) ⊎ (length ks ≤ at x ks) → at x (with_variable ks x) < length (with_variable ks x)
    by (inl h) = rw (cond-true _ ks (ks ++ x ∷ []) (lt-ltb (at x ks) (length ks) h)) h
    by (inr h) = rw (cond-false _ ks (ks ++ x ∷ []) (le-ltb (at x ks) (length ks) h)) (at_end x ks)

-- more numbers behind the first
abbrev pub Longer : List ℕ → List ℕ → Type 0
Longer ks ms = (js : List ℕ) × (ms ≡ ks ++ js)

pub longer_both : (js ks ms : List ℕ) → Longer js ks → Longer ks ms → Longer js ms
longer_both js ks ms (a, e) (b, f) = (a ++ b, f ∙ ap (λ xs. xs ++ b) e ∙ append_assoc js a b)

longer_with : (ks : List ℕ) (x : ℕ) → Longer ks (with_variable ks x)
longer_with ks x = by (cases_lt (at x ks) (length ks))
  where
    by : (at x ks < length ks) ⊎ (length ks ≤ at x ks) → Longer ks (with_variable ks x)
    by (inl h) = ([], cond-true _ ks (ks ++ x ∷ []) (lt-ltb (at x ks) (length ks) h) ∙ sym (append-nil ks))
    by (inr h) = (x ∷ [], cond-false _ ks (ks ++ x ∷ []) (le-ltb (at x ks) (length ks) h))

mutual
  pub longer_met : (t : terms.Term) (ks : List ℕ) → Longer ks (met t ks)
  longer_met (terms.var x) ks = longer_with ks x
  longer_met (terms.app f ts) ks = longer_mets ts ks

  longer_mets : (ts : terms.Terms) (ks : List ℕ) → Longer ks (mets ts ks)
  longer_mets terms.nil ks = ([], sym (append-nil ks))
  longer_mets (terms.◌▹◌ t ts) ks = longer_both ks (met t ks) (mets ts (met t ks)) (longer_met t ks) (longer_mets ts (met t ks))

pub longer_length : (ks ms : List ℕ) → Longer ks ms → length ks ≤ length ms
longer_length ks ms (js, e) = omega (arith, ap length e, length-append ks js)

pub stays : (x : ℕ) (ks ms : List ℕ) → Longer ks ms → at x ks < length ks → at x ms < length ms
stays x ks ms (js, e) h = rw e (omega (arith, at_more x ks js h, length-append ks js))

mutual
  pub each_met : (t : terms.Term) (ks : List ℕ) → Low t → Each ks → Each (met t ks)
  each_met (terms.var x) ks l e = each_with ks x e l
  each_met (terms.app f ts) ks l e = each_mets ts ks l e

  each_mets : (ts : terms.Terms) (ks : List ℕ) → Lows ts → Each ks → Each (mets ts ks)
  each_mets terms.nil ks l e = e
  each_mets (terms.◌▹◌ t ts) ks l e = each_mets ts (met t ks) l.1 (each_met t ks l.0 e)

-- a variable that occurs is met
mutual
  pub occurs_met : (x : ℕ) (t : terms.Term) (ks : List ℕ) → terms.Occ x t → at x (met t ks) < length (met t ks)
  occurs_met x (terms.var y) ks o = rw (← o) (at_with x ks)
  occurs_met x (terms.app f ts) ks o = occurs_mets x ts ks o

  occurs_mets : (x : ℕ) (ts : terms.Terms) (ks : List ℕ) → terms.Occs x ts → at x (mets ts ks) < length (mets ts ks)
  occurs_mets x terms.nil ks o = absurd o
  occurs_mets x (terms.◌▹◌ t ts) ks (inl o) = stays x (met t ks) (mets ts (met t ks)) (longer_mets ts (met t ks)) (occurs_met x t ks o)
  occurs_mets x (terms.◌▹◌ t ts) ks (inr o) = occurs_mets x ts (met t ks) o

-- one place, one number
pub at_apart : (x y : ℕ) (ks : List ℕ) → at x ks < length ks → at x ks ≡ at y ks → x ≡ y
at_apart x y [] h e = absurd (omega arith)
at_apart x y (k ∷ ks) h e = by (cases_Bool (eqb k x)) (cases_Bool (eqb k y)) (λ i j. at_apart x y ks i j)
  where
    by : (eqb k x ≡ true) ⊎ (eqb k x ≡ false) → (eqb k y ≡ true) ⊎ (eqb k y ≡ false) → (at x ks < length ks → at x ks ≡ at y ks → x ≡ y) → x ≡ y
    by (inl a) (inl b) ih = sym (eqb-true k x a) ∙ eqb-true k y b
    by (inl a) (inr b) ih =
        let p : at x (k ∷ ks) ≡ 0 = cond-true _ _ _ a in
        let q : at y (k ∷ ks) ≡ 1 + at y ks = cond-false _ _ _ b in
        absurd (omega (arith, p, q, e))
    by (inr a) (inl b) ih =
        let p : at x (k ∷ ks) ≡ 1 + at x ks = cond-false _ _ _ a in
        let q : at y (k ∷ ks) ≡ 0 = cond-true _ _ _ b in
        absurd (omega (arith, p, q, e))
    by (inr a) (inr b) ih =
        let p : at x (k ∷ ks) ≡ 1 + at x ks = cond-false _ _ _ a in
        let q : at y (k ∷ ks) ≡ 1 + at y ks = cond-false _ _ _ b in
        ih (omega (arith, p)) (omega (arith, p, q, e))

nothing_listed : {u : Use} → Listed u [] → ⊥
nothing_listed l = elim l [ ]

below : (x : ℕ) (ks : List ℕ) → at x ks < length (with_variable ks x)
below x ks = by (cases_lt (at x ks) (length ks))
  where
    most : (ms : List ℕ) → at x ms ≤ length ms
    most [] = omega arith
    most (m ∷ ms) = cond_both (eqb m x) _ _ (λ n. n ≤ length (m ∷ ms)) (λ _. omega arith) (λ _. omega (arith, most ms))

    by : (at x ks < length ks) ⊎ (length ks ≤ at x ks) → at x ks < length (with_variable ks x)
    by (inl h) = rw (cond-true _ ks (ks ++ x ∷ []) (lt-ltb (at x ks) (length ks) h)) h
    by (inr h) = rw (cond-false _ ks (ks ++ x ∷ []) (le-ltb (at x ks) (length ks) h)) (omega (arith, most ks, length-append ks (x ∷ [])))

module _ (s : Signature) where
  abbrev ns : List (List ℕ)
  ns = names_of s

  trees_count : (ts : terms.Terms) (n : ℕ) → count (trees ns ts n) ≡ terms.width ts
  trees_count terms.nil n = refl
  trees_count (terms.◌▹◌ t ts) n = ap (λ k. 1 + k) (trees_count ts (n + 1 + length (written ns t))) ∙ omega arith

  symbol_is : (f : ℕ) → f < (sig_of s).symbols → symbol_of s (get_or ns f []) ≡ Some (App f ((sig_of s).arity f))
  symbol_is f h = sym (symbol_found s (get_or ns f []) f ((sig_of s).arity f) h refl refl)

  pub listed_append : {P : Use → Type 0} (us vs : List Use) → ((u : Use) → Listed u us → P u) → ((u : Use) → Listed u vs → P u) → (u : Use) → Listed u (us ++ vs) → P u
  listed_append [] vs a b u l = b u l
  listed_append (v ∷ us) vs a b u here = a u here
  listed_append {P} (v ∷ us) vs a b u (later l) = listed_append {P = P} us vs (λ w k. a w (later k)) b u l

  fine : (f : ℕ) (ts : terms.Terms) (n m : ℕ) → f < (sig_of s).symbols → terms.width ts ≡ (sig_of s).arity f → misused s (record { word = token Word (get_or ns f []) n; args = count (trees ns ts m) }) ≡ false
  fine f ts n m h e = rw (symbol_is f h, misused) (ap not (eq-eqb ((sig_of s).arity f) (count (trees ns ts m)) (sym (trees_count ts m ∙ e))))

  mutual
    pub none_misused : (t : terms.Term) (n : ℕ) → Over (sig_of s) t → NoneMisused s (uses (tree ns t n))
    none_misused (terms.var x) n o u l = absurd (nothing_listed l)
    none_misused (terms.app f ts) n o u here = fine f ts n (n + length (get_or ns f [])) o.0 o.1
    none_misused (terms.app f ts) n o u (later l) = nones_misused ts (n + length (get_or ns f [])) o.2 u l

    nones_misused : (ts : terms.Terms) (n : ℕ) → AllOver (sig_of s) ts → NoneMisused s (usess (trees ns ts n))
    nones_misused terms.nil n o = λ u l. absurd (nothing_listed l)
    nones_misused (terms.◌▹◌ t ts) n o = listed_append {P = λ u. misused s u ≡ false} (uses (tree ns t (n + 1))) (usess (trees ns ts (n + 1 + length (written ns t)))) (none_misused t (n + 1) o.0) (nones_misused ts (n + 1 + length (written ns t)) o.1)

  mutual
    pub resolves : (vs : List (List ℕ)) (t : terms.Term) (n : ℕ) → Over (sig_of s) t → resolved s vs (tree ns t n) ≡ terms.sub (λ x. terms.var (index_of (variable_name x) vs)) t
    resolves vs (terms.var x) n o = refl
    resolves vs (terms.app f ts) n o = ap₂ terms.app (number_is s (get_or ns f []) f o.0 refl) (all_resolve vs ts (n + length (get_or ns f [])) o.2)

    all_resolve : (vs : List (List ℕ)) (ts : terms.Terms) (n : ℕ) → AllOver (sig_of s) ts → resolveds s vs (trees ns ts n) ≡ terms.subs (λ x. terms.var (index_of (variable_name x) vs)) ts
    all_resolve vs terms.nil n o = refl
    all_resolve vs (terms.◌▹◌ t ts) n o = ap₂ terms.◌▹◌ (resolves vs t (n + 1) o.0) (all_resolve vs ts (n + 1 + length (written ns t)) o.1)

  -- the cells of a term within the limits are laid out
  pub record Laid (ks : List ℕ) (before : List Node) (ts : List Lexeme) (size : ℕ) (after-ks : List ℕ) : Type 0 where
    pub nodes : List Node
    pub is : laid s (named ks) before ts ≡ Ok (named after-ks, nodes)
    pub long : length nodes ≡ length before + size

  mutual
    pub lays : (t : terms.Term) (n : ℕ) (ks : List ℕ) (before : List Node) → Over (sig_of s) t → Low t → Each ks → length before + terms.cells t ≤ 32 → length (met t ks) ≤ 16 → Laid ks before (cells (tree ns t n)) (terms.cells t) (met t ks)
    lays (terms.var x) n ks before o l e fits few =
        let size = length-append before (Var (index_of (variable_name x) (named ks)) ∷ []) in
        let within : at x ks ≤ 15 = omega (arith, below x ks, few) in
        record {
          nodes = before ++ Var (index_of (variable_name x) (named ks)) ∷ [];
          is = cond-true _ _ _ (lt-ltb (length before) 32 (omega arith)) ∙ cond-true _ _ _ (lt-ltb (index_of (variable_name x) (named ks)) 16 (omega (arith, within, at_name ks x e l))) ∙ ap (λ vs. Ok (vs, before ++ Var (index_of (variable_name x) (named ks)) ∷ [])) (with_named ks x e l);
          long = size;
        }
    lays (terms.app f ts) n ks before o l e fits few =
        let node = App f ((sig_of s).arity f) in
        let size = length-append before (node ∷ []) in
        let r = all_lay ts (n + length (get_or ns f [])) ks (before ++ node ∷ []) o.2 l e (omega (arith, size)) few in
        record {
          nodes = r.nodes;
          is = cond-true _ _ _ (lt-ltb (length before) 32 (omega arith)) ∙ rw (symbol_is f o.0) r.is;
          long = r.long ∙ omega (arith, size);
        }

    all_lay : (ts : terms.Terms) (n : ℕ) (ks : List ℕ) (before : List Node) → AllOver (sig_of s) ts → Lows ts → Each ks → length before + terms.cellss ts ≤ 32 → length (mets ts ks) ≤ 16 → Laid ks before (cellss (trees ns ts n)) (terms.cellss ts) (mets ts ks)
    all_lay terms.nil n ks before o l e fits few = record { nodes = before; is = refl; long = omega arith }
    all_lay (terms.◌▹◌ t ts) n ks before o l e fits few =
        let more = longer_length (met t ks) (mets ts (met t ks)) (longer_mets ts (met t ks)) in
        let a = lays t (n + 1) ks before o.0 l.0 e (omega arith) (omega (arith, more, few)) in
        let b = all_lay ts (n + 1 + length (written ns t)) (met t ks) a.nodes o.1 l.1 (each_met t ks l.0 e) (omega (arith, a.long)) few in
        record {
          nodes = b.nodes;
          is = laid_append s (named ks) before (cells (tree ns t (n + 1))) (cellss (trees ns ts (n + 1 + length (written ns t)))) ∙ ap (λ r. on s r (cellss (trees ns ts (n + 1 + length (written ns t))))) a.is ∙ b.is;
          long = b.long ∙ omega (arith, a.long);
        }
