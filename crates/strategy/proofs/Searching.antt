-- The search has passed the cells below k.
use Rattle.std.proofs.Common.{◌≡◌, ℕ, ◌+◌, ◌<◌, ◌≤◌, Bool, true, false, List, length, get_or, set, Some, None, Decides, Option, sym, ◌∙◌, subst, inl, inr, arith, get_or-set_other, below_more}
use mathlib.Core.Bool.{false≢true}
use native.Mathlib.Decide.{ℕ_discrete}
use Rattle.std.proofs.lemmas.Bool.{cases_lt}
use Rattle.lists.specs.Members.{In}
use Rattle.terms.specs.Sig.{Sig}
use Rattle.bank.specs.declared.cell.Cell.{Cell}
use Rattle.index.specs.Maps.{Map}
use Rattle.index.specs.Found.{Generalizes, Generalizations}
use Rattle.reduction.specs.Reaches.{Reaches}
use Rattle.reduction.specs.Redexes.{Picked, Normal}
use Rattle.reduction.proofs.Subterms.{reached_below}
use Rattle.strategy.specs.Searches.{Lowest, Searchable, Least, LowestAt, Settled}

-- the lowest of what an exact index finds
pub least : (m : Map) (b : List Cell) (i : ℕ) (xs : List ℕ) (o : Option ℕ) → Generalizations m b i xs → Lowest xs o → Least m b i o
least m b i xs None g e = λ n h. subst (λ ys. In n ys) e (g.all n h)
least m b i xs (Some n) g h = (g.only n h.0, λ k q. h.1 k (g.all k q))

-- what the search is given
pub record Given (S : Sig) (m : Map) (b : List Cell) (r : ℕ) (marks settled : List Bool) : Type 0 where
  pub searchable : Searchable S b r
  pub marked : (k : ℕ) → Decides (get_or marks k false) (Reaches b r k)
  pub before : Settled m b settled

pub record Passed (m : Map) (b : List Cell) (r k : ℕ) (settled : List Bool) : Type 0 where
  pub known_none : Settled m b settled
  pub none : (i : ℕ) → i < k → (n : ℕ) → Reaches b r i → Generalizes m b i n → ⊥

abbrev pub Searching : Map → List Cell → (r k : ℕ) → (marks settled settled' : List Bool) → Type 0
Searching m b r k marks settled settled' = (S : Sig) → Given S m b r marks settled → Passed m b r k settled'

module _ (m : Map) (b : List Cell) (r : ℕ) (marks settled₀ : List Bool) where
  pub starts : Searching m b r 0 marks settled₀ settled₀
  starts S g = record { known_none = g.before; none = λ i l. absurd (let z : ⊥ = omega (arith, l) in z) }

  module _ (k : ℕ) (settled : List Bool) (h : Searching m b r k marks settled₀ settled) where
    pub unreached : get_or marks k false ≡ false → Searching m b r (k + 1) marks settled₀ settled
    unreached off S g = record {
      known_none = (h S g).known_none;
      none = below_more _ k (h S g).none (λ n q. absurd (false≢true (sym off ∙ (g.marked k).1 q)));
    }

    pub known : get_or settled k false ≡ true → Searching m b r (k + 1) marks settled₀ settled
    known on S g = record {
      known_none = (h S g).known_none;
      none = below_more _ k (h S g).none (λ n q w. (h S g).known_none.none k n on w);
    }

    here : (S : Sig) → Given S m b r marks settled₀ → k ≤ r → Searchable S b k
    here S g l = record { few = g.searchable.few; rules = g.searchable.rules; within = omega (arith, l, g.searchable.within) }

    pub settles : k ≤ r → k < length settled → LowestAt m b k None → Searching m b r (k + 1) marks settled₀ (set settled k true)
    settles l room out S g = record {
      known_none = record {
        within = λ i on. elim (ℕ_discrete i k) [
          | yes e ↦ omega (arith, e, l, g.searchable.within)
          | no d ↦ (h S g).known_none.within i (sym (get_or-set_other settled k i true false d) ∙ on)
        ];
        none = λ i n on w. elim (ℕ_discrete i k) [
          | yes e ↦ out S (here S g l) n (subst (λ x. Generalizes m b x n) e w)
          | no d ↦ (h S g).known_none.none i n (sym (get_or-set_other settled k i true false d) ∙ on) w
        ];
      };
      none = below_more _ k (h S g).none (λ n q w. out S (here S g l) n w);
    }

    pub picks : k ≤ r → (n : ℕ) → get_or marks k false ≡ true → LowestAt m b k (Some n) → (S : Sig) → Given S m b r marks settled₀ → Settled m b settled × Picked m b r k n
    picks l n on found S g =
        let p = found S (here S g l) in (
          (h S g).known_none,
          record {
            reached = (g.marked k).0 on;
            applies = p.0;
            earliest = λ i x q w. elim (cases_lt i k) [ inl low ↦ absurd ((h S g).none i low x q w) | inr up ↦ up ];
            lowest = p.1;
          },
        )

    pub ends : k ≡ r + 1 → (S : Sig) → Given S m b r marks settled₀ → Settled m b settled × Normal m b r
    ends e S g = (
      (h S g).known_none,
      λ j n q w.
          let low = reached_below S b r g.searchable.rules g.searchable.within q in
          (h S g).none j (omega (arith, e, low)) n q w,
    )
