-- Candidates of which those are chosen that generalize the cell's term.
use Rattle.std.proofs.Common.{◌≡◌, ℕ, ◌<◌, Bool, true, false, List, length, get_or, is_some, Some, Decides, sym, ap, ◌∙◌, subst}
use Rattle.lists.specs.Members.{In}
use Rattle.lists.specs.Chosen.{chosen_of}
use Rattle.lists.proofs.Members.{place}
use Rattle.lists.proofs.Chosen.{choice, in_chosen, once_chosen}
use Rattle.terms.specs.Patterns.{term_of}
use Rattle.terms.specs.declared.pattern.Pattern.{Pattern}
use Rattle.bank.specs.declared.cell.Cell.{Cell}
use Rattle.bank.specs.Bindings.{Instance}
use Rattle.index.specs.Maps.{Map, Stores}
use Rattle.index.specs.Found.{Generalizes, Candidates, Generalizations}

pub chosen : (m : Map) (b : List Cell) (i : ℕ) (cs : List Bool) (xs : List ℕ) → Candidates m b i xs → ((k : ℕ) → k < length xs → Decides (get_or cs k false) (Generalizes m b i (get_or xs k 0)))
    → Generalizations m b i (chosen_of cs xs)
chosen m b i cs xs c right = record {
  once = once_chosen cs xs c.once;
  only = λ n h. let p = choice cs xs 0 n h in subst (Generalizes m b i) p.reads ((right p.at p.below).0 p.chosen);
  all = λ n g.
      let p = place n 0 xs (c.all n g) in
      subst (λ k. In k (chosen_of cs xs)) p.reads (in_chosen cs xs p.at 0 p.below ((right p.at p.below).1 (subst (Generalizes m b i) (sym p.reads) g)));
}

generalizes_stored : {m : Map} {b : List Cell} {i n : ℕ} → Generalizes m b i n → is_some (m n) ≡ true
generalizes_stored g = ap is_some g.stored

pub as_candidates : {m : Map} {b : List Cell} {i : ℕ} {xs : List ℕ} → Generalizations m b i xs → Candidates m b i xs
as_candidates g = record { once = g.once; only = λ n h. generalizes_stored (g.only n h); all = g.all }

-- all that is stored are candidates
pub all_stored : (m : Map) (b : List Cell) (i : ℕ) (xs : List ℕ) → Stores m xs → Candidates m b i xs
all_stored m b i xs s = record { once = s.once; only = s.only; all = λ n g. s.all n (generalizes_stored g) }

-- what is under a number generalizes the term, or does not
pub decides_stored : (m : Map) (b : List Cell) (i n : ℕ) (p : Pattern) (r : Bool) → m n ≡ Some p → Decides r (Instance b (term_of p) i) → Decides r (Generalizes m b i n)
decides_stored m b i n p r e d = (
  λ t. record { pattern = p; stored = e; fits = d.0 t },
  λ g. d.1 (subst (λ q. Instance b (term_of q) i) (some_eq (sym g.stored ∙ e)) g.fits),
)
  where
    some_eq : {q q' : Pattern} → Some q ≡ Some q' → q ≡ q'
    some_eq h = cc
