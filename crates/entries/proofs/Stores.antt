-- The laws that an index over the entries owes.
use Rattle.std.proofs.Common.{◌≡◌, ℕ, ◌<◌, ◌≤◌, true, List, [], ◌∷◌, ◌++◌, length, get_or, swap_remove, Some, None, Ok, Err, Option, Result, MatchOption, MatchResult, IfSome, sym, ap, ◌∙◌, subst, arith}
use Rattle.std.proofs.lemmas.List.{length-map, length-take-le}
use Rattle.row.specs.declared.Full.{Full}
use Rattle.lists.specs.Members.{Once}
use Rattle.index.specs.Maps as maps
use Rattle.entries.specs.Lookup.{numbers, lookup, distinct, Placed}
use Rattle.entries.specs.Stored.{entries_of, numbers_of, map_of}
use Rattle.entries.specs.declared.Entry.{Entry}
use Rattle.entries.specs.declared.Entries.{Entries}
use Rattle.entries.proofs.Distinct.{distinct_once, once_distinct}
use Rattle.entries.proofs.Lookups.{Loses, in_numbers, numbers_in}
use Rattle.entries.proofs.Moves.{moved, once_push}

pub size : {N : ℕ} (s : Entries N) → length (numbers_of s) ≡ length (entries_of s)
size s = length-map (entries_of s) (λ e. e.number)

pub apart : {N : ℕ} (s : Entries N) → Once (numbers_of s)
apart s = distinct_once (numbers_of s) s.apart

pub stores : {N : ℕ} (s : Entries N) → maps.Stores (map_of s) (numbers_of s)
stores s = record { once = apart s; all = in_numbers (entries_of s); only = numbers_in (entries_of s) }

pub fits : {N : ℕ} (s : Entries N) → length (numbers_of s) ≤ N
fits s = omega (arith, size s, length-take-le s.entries.len s.entries.cells (omega (arith, s.entries.room, s.entries.within)), s.entries.within)

-- place i has the number, so it is free for the last entry
pub removed : {N : ℕ} (s : Entries N) (n i : ℕ) (d : Entry) → Placed (entries_of s) n (Some i) → Loses (entries_of s) (swap_remove (entries_of s) i d) n
removed s n i d p = subst (Loses (entries_of s) (swap_remove (entries_of s) i d)) (p.1 d).0 (moved (entries_of s) i d p.0 (apart s))

-- the entries, one more at the end or not, have distinct numbers
pub added : {N : ℕ} (s : Entries N) (e : Entry) (es : List Entry) (o : Result (Unit {0}) Full) → lookup (entries_of s) e.number ≡ None
    → MatchResult o (λ _. (length (entries_of s) < N) × (es ≡ entries_of s ++ e ∷ [])) (λ _. (N ≤ length (entries_of s)) × (es ≡ entries_of s)) → distinct (numbers es) ≡ true
added s e es (Ok u) free h = rw h.1 (once_distinct (numbers (entries_of s ++ e ∷ [])) (once_push (entries_of s) e (apart s) free))
added s e es (Err f) free h = rw h.1 s.apart

-- the item at the place that was found is taken out
pub taken : {N : ℕ} (s : Entries N) (n i j : ℕ) (es : List Entry) (o : Option Entry) → j ≡ i → Placed (entries_of s) n (Some i)
    → MatchOption o (length (entries_of s) ≤ j) (λ x. (j < length (entries_of s)) × (x ≡ get_or (entries_of s) j x)) → IfSome o (λ x. es ≡ swap_remove (entries_of s) j x) → Loses (entries_of s) es n
taken s n i j es None q p h k = absurd (let z : ⊥ = omega (arith, p.0, h, q) in z)
taken s n i j es (Some x) q p h k = subst (λ zs. Loses (entries_of s) zs n) (sym (k ∙ ap (λ m. swap_remove (entries_of s) m x) q)) (removed s n i x p)
