-- Entering a term into a bank of m cells, whose counted cells are the list b: its arguments from left to right, then itself.
use Rattle.std.specs.Prelude.{ℕ, suc, ◌+◌, Bool, false, cond, ◌&&◌, List, [], ◌∷◌, ◌++◌, length, Some, None, Option, ◌==◌, nat_lt, slice_index_or, slice_set}
use Rattle.std.specs.Str.{bytes_eq}
use Rattle.terms.specs.Term.{Term, Terms, var, app, nil, ◌▹◌, width}
use Rattle.bank.specs.declared.cell.Cell.{Cell}
use Rattle.bank.specs.declared.cell.Cell.TheVariants.{Var, App}

abbrev pub same_cell : Cell → Cell → Bool
same_cell (Var x) (Var y) = x == y
same_cell (Var x) (App g n ys) = false
same_cell (App f m xs) (Var y) = false
same_cell (App f m xs) (App g n ys) = f == g && (m == n && bytes_eq xs ys)

abbrev pub next : Option ℕ → Option ℕ
next None = None
next (Some i) = Some (suc i)

-- where the cell stands first
abbrev pub place : Cell → List Cell → Option ℕ
place c [] = None
place c (x ∷ xs) = cond (same_cell x c) (Some 0) (next (place c xs))

-- a bank after an entry, with the number of the cell entered; None where the bank is full
abbrev pub Entry : Type 0
Entry = Option (List Cell × ℕ)

abbrev pub noted : ℕ → Cell → List Cell → Option ℕ → Entry
noted m c b (Some i) = Some (b, i)
noted m c b None = cond (nat_lt (length b) m) (Some (b ++ c ∷ [], length b)) None

-- one cell: where it stands, or the next free one
abbrev pub note : ℕ → Cell → List Cell → Entry
note m c b = noted m c b (place c b)

abbrev pub chain : {A B : Type 0} → Option A → (A → Option B) → Option B
chain None k = None
chain (Some a) k = k a

-- numbers into slots, from slot k on
abbrev pub fill : List ℕ → ℕ → List ℕ → List ℕ
fill slots k [] = slots
fill slots k (i ∷ is) = fill (slice_set slots k i) (k + 1) is

abbrev pub blank : List ℕ
blank = 0 ∷ 0 ∷ 0 ∷ 0 ∷ []

-- a variable stands for the cell that it is bound to, or else for itself
abbrev pub bound : ℕ → ℕ → List Cell → Option ℕ → Entry
bound m x b (Some i) = Some (b, i)
bound m x b None = note m (Var x) b

abbrev mutual
  pub enter : ℕ → List (Option ℕ) → Term → List Cell → Entry
  enter m bindings (var x) b = bound m x b (slice_index_or bindings x None)
  enter m bindings (app f ts) b = chain (enters m bindings ts b) (λ r. note m (App f (width ts) (fill blank 0 r.1)) r.0)

  pub enters : ℕ → List (Option ℕ) → Terms → List Cell → Option (List Cell × List ℕ)
  enters m bindings nil b = Some (b, [])
  enters m bindings (t ▹ ts) b = chain (enter m bindings t b) (λ r. chain (enters m bindings ts r.0) (λ s. Some (s.0, r.1 ∷ s.1)))
