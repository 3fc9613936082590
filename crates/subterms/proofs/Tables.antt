-- Reading a table of subterms.
use Rattle.std.proofs.Common.{◌≡◌, ℕ, zero, suc, ◌+◌, ◌-◌, ◌<◌, ◌≤◌, length, get_or, take, drop, Some, unwrap_or, sym, refl, ap, ◌∙◌, arith, inl, inr, ◌⊎◌}
use Rattle.std.proofs.lemmas.List.{drop_all}
use Rattle.terms.specs.Term.{Term, var, app, ◌▹◌, nil, width, cells}
use Rattle.terms.specs.Preorder.{row, decode, preorder}
use Rattle.terms.specs.Patterns.{nodes_of, term_of}
use Rattle.terms.specs.declared.pattern.Node.{Node}
use Rattle.terms.specs.declared.pattern.Node.TheVariants.{Var, App}
use Rattle.terms.specs.declared.pattern.Pattern.{Pattern}
use Rattle.terms.proofs.Rows.{decode_preorder}
use Rattle.rewriting.specs.Replace.{args}
use Rattle.subterms.specs.Places.{from, at, leading, arguments}
use Rattle.subterms.specs.Rows.{row_of, following, at_all, ArgumentsAt}
use Rattle.std.specs.List.{All}
use Rattle.std.proofs.lemmas.Bool.{cases_lt}
use Rattle.std.proofs.lemmas.List.Elements.{All-nil, All-cons}
use Rattle.subterms.specs.declared.Subterms.{Subterms}
use Rattle.subterms.proofs.Preorders.{first, first_cons, width_first, cells_some}
use Rattle.subterms.proofs.Places.{from_next, from_whole, from_var, from_app, args_there, width_from, end_within, slice_is}

some_inj : {x y : Term} → Some x ≡ Some y → x ≡ y
some_inj e = cc

-- equal rows are of equal terms
pub preorder_inj : (s t : Term) → preorder s ≡ preorder t → s ≡ t
preorder_inj s t e = some_inj (sym (decode_preorder s) ∙ ap decode e ∙ decode_preorder t)

past_end : (s : Subterms) (p : ℕ) → length (row_of s) ≤ p → from (row_of s) p ≡ nil
past_end s p h = ap (λ ns. unwrap_or (row ns) nil) (drop_all p (row_of s) h)

pub args_none : (s : Subterms) (p : ℕ) → length (row_of s) ≤ p → args (at (row_of s) p) ≡ nil
args_none s p h = ap (λ ts. args (leading ts)) (past_end s p h)

module _ (s : Subterms) where
  module _ (p : ℕ) (h : p < length (row_of s)) where
    pub end_is : get_or s.ends p 0 ≡ p + cells (at (row_of s) p)
    end_is = s.ended p h

    pub end_past : p < get_or s.ends p 0
    end_past = omega (arith, end_is, cells_some (at (row_of s) p))

    pub end_most : get_or s.ends p 0 ≤ length (row_of s)
    end_most = omega (arith, end_is, end_within (row_of s) s.pattern.whole p h)

    -- what stands behind the subterm begins at its end
    pub from_end : from (row_of s) p ≡ at (row_of s) p ▹ from (row_of s) (get_or s.ends p 0)
    from_end = from_next (row_of s) s.pattern.whole p h ∙ ap (λ (e : ℕ). at (row_of s) p ▹ from (row_of s) e) (sym end_is)

    pub part_is : take (get_or s.ends p 0 - p) (drop p (row_of s)) ≡ preorder (at (row_of s) p)
    part_is =
        let k = cells (at (row_of s) p) in
        let size : get_or s.ends p 0 - p ≡ k = omega (arith, end_is) in
        ap (λ (n : ℕ). take n (drop p (row_of s))) size ∙ slice_is (row_of s) s.pattern.whole p h

    -- the arguments of the subterm are listed behind its head
    node_args : (n : Node) → get_or (row_of s) p (Var 0) ≡ n → (args (at (row_of s) p) ≡ first (arguments n) (from (row_of s) (p + 1))) × (arguments n ≤ width (from (row_of s) (p + 1)))
    node_args (Var x) e = (ap (λ ts. args (leading ts)) (from_var (row_of s) s.pattern.whole p x h e), omega arith)
    node_args (App f a) e = (ap (λ ts. args (leading ts)) (from_app (row_of s) s.pattern.whole p f a h e), args_there (row_of s) s.pattern.whole p f a h e)

    pub args_wide : width (args (at (row_of s) p)) ≡ arguments (get_or (row_of s) p (Var 0))
    args_wide = let h = node_args (get_or (row_of s) p (Var 0)) refl in ap width h.0 ∙ width_first _ _ h.1

    pub at_var : (x : ℕ) → get_or (row_of s) p (Var 0) ≡ Var x → at (row_of s) p ≡ var x
    at_var x e = ap leading (from_var (row_of s) s.pattern.whole p x h e)

    pub at_app : (f a : ℕ) → get_or (row_of s) p (Var 0) ≡ App f a → (at (row_of s) p ≡ app f (args (at (row_of s) p))) × (width (args (at (row_of s) p)) ≡ a)
    at_app f a n =
        let h = ap leading (from_app (row_of s) s.pattern.whole p f a h n) in
        (h ∙ ap (app f) (sym (ap args h)), args_wide ∙ ap arguments n)

    pub args_are : (a : ℕ) → width (args (at (row_of s) p)) ≡ a → (args (at (row_of s) p) ≡ first a (from (row_of s) (p + 1))) × (a ≤ width (from (row_of s) (p + 1)))
    args_are a e =
        let n = get_or (row_of s) p (Var 0) in
        let h = node_args n refl in
        let same : arguments n ≡ a = sym (width_first (arguments n) _ h.1) ∙ ap width (sym h.0) ∙ e in
        (h.0 ∙ ap (λ (k : ℕ). first k (from (row_of s) (p + 1))) same, omega (arith, same, h.1))

  -- one argument on: n arguments are listed from place i on
  pub some_left : (i n : ℕ) → 0 < n → n ≤ width (from (row_of s) i) → i < length (row_of s)
  some_left i n some most = omega (arith, width_from (row_of s) s.pattern.whole i)

  pub next_arg : (i n : ℕ) → 0 < n → n ≤ width (from (row_of s) i) → (first n (from (row_of s) i) ≡ at (row_of s) i ▹ first (n - 1) (from (row_of s) (get_or s.ends i 0))) × (n - 1 ≤ width (from (row_of s) (get_or s.ends i 0)))
  next_arg i n some most =
      let e = from_end i (some_left i n some most) in
      (ap (first n) e ∙ first_cons n _ _ some, omega (arith, ap width e))

  -- the places of a arguments that are listed from place i on
  listed : (p i a : ℕ) → p < i → a ≤ width (from (row_of s) i) → (at_all (row_of s) (following s.ends i a) ≡ first a (from (row_of s) i)) × All (λ j. (p < j) × (j < length (row_of s))) (following s.ends i a)
  listed p i zero l most = (refl, All-nil _)
  listed p i (suc a) l most =
      let inside : i < length (row_of s) = omega (arith, width_from (row_of s) s.pattern.whole i) in
      let e = from_end i inside in
      let rest = listed p (get_or s.ends i 0) a (omega (arith, end_past i inside)) (omega (arith, ap width e)) in
      (ap (λ ts. at (row_of s) i ▹ ts) rest.0 ∙ sym (ap (first (suc a)) e), All-cons (λ j. (p < j) × (j < length (row_of s))) i (following s.ends (get_or s.ends i 0) a) (l, inside) rest.1)

  pub arguments_at : (p i a : ℕ) → (p < length (row_of s) → i ≡ p + 1) → a ≡ width (args (at (row_of s) p)) → ArgumentsAt (row_of s) p (following s.ends i a)
  arguments_at p i a next e = by (cases_lt p (length (row_of s)))
    where
      by : (p < length (row_of s)) ⊎ (length (row_of s) ≤ p) → ArgumentsAt (row_of s) p (following s.ends i a)
      by (inl h) =
          let are = args_are p h a (sym e) in
          let l = listed p (p + 1) a (omega arith) are.1 in
          rw (next h) record { terms = l.0 ∙ sym are.0; behind = l.1 }
      by (inr h) =
          let none = args_none s p h in
          let e : a ≡ 0 = omega (arith, ap width none) in
          rw e record { terms = sym none; behind = All-nil _ }

  pub row_some : 0 < length (row_of s)
  row_some = omega (arith, width_from (row_of s) s.pattern.whole 0, ap width (from_whole (row_of s) s.pattern.whole))

-- the term of the pattern is the subterm at place 0
pub at_top : (s : Subterms) (p : Pattern) → row_of s ≡ nodes_of p → at (row_of s) 0 ≡ term_of p
at_top s p e = ap (λ ns. at ns 0) e ∙ ap leading (from_whole (nodes_of p) p.whole)
