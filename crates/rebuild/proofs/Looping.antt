-- The loop over the cells: n₀ of the cells₀ were counted when it began.
use Rattle.std.proofs.Common.{◌≡◌, ℕ, suc, ◌+◌, ◌<◌, ◌≤◌, Bool, List, length, get_or, take, set, Some, None, sym, refl, ap, ◌∙◌, subst, inl, inr, add-one, arith, length-append, get_or-set_other, get_or-set_same}
use Rattle.std.proofs.lemmas.List.{get_or-take, length-take-le}
use Rattle.terms.specs.Term.{Term}
use Rattle.terms.specs.Sig.{Sig}
use Rattle.bank.specs.declared.cell.Cell.{Cell}
use Rattle.bank.specs.declared.cell.Cell.TheVariants.{Var}
use Rattle.enter.specs.Enter.{note}
use Rattle.enter.specs.Machine.{Grew, Gives}
use Rattle.enter.proofs.Machining.{none_some}
use Rattle.enter.proofs.Noting.{grew_same, grew_trans}
use Rattle.reduction.specs.Steps.{Crowded}
use Rattle.rebuild.specs.Rebuilds.{Ready, Rebuilds, Formed}
use Rattle.rebuild.proofs.Rebuilding.{Forms, starts, ends}
use Rattle.rebuild.proofs.Forming.{redex_turn, outside_turn, kept_turn, fresh_turn, full_turn, same_cell_there}

pub record Looping (cells₀ : List Cell) (n₀ r j v : ℕ) (marks : List Bool) (cells : List Cell) (n : ℕ) (forms : List ℕ) (k : ℕ) : Type 0 where
  pub grew : Grew cells₀ n₀ cells n
  pub law : (S : Sig) (b : List Cell) (s s' : Term) (ready : Ready S b (take n₀ cells₀) r j v s s' marks)
      → Forms S (length cells₀) b (take n₀ cells₀) r j v s s' marks ready k (take n cells) forms

module _ (cells₀ : List Cell) (n₀ r j v : ℕ) (marks : List Bool) (counted₀ : n₀ ≤ length cells₀) where
  pub begins : (forms : List ℕ) → Looping cells₀ n₀ r j v marks cells₀ n₀ forms 0
  begins forms = record {
    grew = grew_same counted₀ refl refl;
    law = λ S b s s' ready. starts S (length cells₀) b (take n₀ cells₀) r j v s s' marks ready forms;
  }

  module _ (cells : List Cell) (n : ℕ) (forms : List ℕ) (k : ℕ) (h : Looping cells₀ n₀ r j v marks cells n forms k) (below : k ≤ r) (counted : k < n) where
    module _ (S : Sig) (b : List Cell) (s s' : Term) (ready : Ready S b (take n₀ cells₀) r j v s s' marks) where
      in_old : k < length b
      in_old = omega (arith, below, ready.root)

      abbrev state : Forms S (length cells₀) b (take n₀ cells₀) r j v s s' marks ready k (take n cells) forms
      state = h.law S b s s' ready

      -- what cell k was in the old bank
      was : get_or b k (Var 0) ≡ get_or cells k (Var 0)
      was = sym (same_cell_there S (length cells₀) b (take n₀ cells₀) r j v s s' marks ready k (take n cells) forms state in_old) ∙ get_or-take n cells k (Var 0) counted

      module _ (cells' : List Cell) (n' i : ℕ) (room : k < length forms) where
        others : (x : ℕ) → x < k → get_or (set forms k i) x 0 ≡ get_or forms x 0
        others x l = get_or-set_other forms k x i 0 (omega (arith, l))

        put : get_or (set forms k i) k 0 ≡ i
        put = get_or-set_same forms k i 0 room

        moved : {w : ℕ} → Some i ≡ Some w → i ≡ w
        moved e = cc

        back : cells' ≡ cells → n' ≡ n → take n cells ≡ take n' cells'
        back e q = ap (λ z. take n z) (sym e) ∙ ap (λ z. take z cells') (sym q)

        pub forms_next : Formed cells n k j v marks forms cells' n' (Some i) → Forms S (length cells₀) b (take n₀ cells₀) r j v s s' marks ready (suc k) (take n' cells') (set forms k i)
        forms_next (inl f) =
            subst (λ z. Forms S (length cells₀) b (take n₀ cells₀) r j v s s' marks ready (suc k) z (set forms k i)) (back f.1 f.2)
            (redex_turn S (length cells₀) b (take n₀ cells₀) r j v s s' marks ready k (take n cells) forms state in_old (set forms k i) i others put f.0 (moved f.3))
        forms_next (inr (inl f)) =
            subst (λ z. Forms S (length cells₀) b (take n₀ cells₀) r j v s s' marks ready (suc k) z (set forms k i)) (back f.2 f.3)
            (outside_turn S (length cells₀) b (take n₀ cells₀) r j v s s' marks ready k (take n cells) forms state in_old (set forms k i) i others put f.1)
        forms_next (inr (inr (c, other, on, mapped, inl f))) =
            subst (λ z. Forms S (length cells₀) b (take n₀ cells₀) r j v s s' marks ready (suc k) z (set forms k i)) (back f.1 f.2)
            (kept_turn S (length cells₀) b (take n₀ cells₀) r j v s s' marks ready k (take n cells) forms state in_old (set forms k i) i others put c other on (get_or cells k (Var 0)) was mapped f.0 (moved f.3))
        forms_next (inr (inr (c, other, on, mapped, inr f))) =
            fresh_turn S (length cells₀) b (take n₀ cells₀) r j v s s' marks ready k (take n cells) forms state in_old (set forms k i) i others put c other on (get_or cells k (Var 0)) was mapped f.0 (take n' cells')
            (subst (λ l. Gives (note l c (take n cells)) (Some i) cells' n') h.grew.size f.1)

      pub crowds : (cells' : List Cell) (n' : ℕ) → Formed cells n k j v marks forms cells' n' None → Crowded (length cells₀) b r s s' (take n₀ cells₀)
      crowds cells' n' (inl f) = absurd (none_some f.3)
      crowds cells' n' (inr (inl f)) = absurd (none_some f.4)
      crowds cells' n' (inr (inr (c, other, on, mapped, inl f))) = absurd (none_some f.3)
      crowds cells' n' (inr (inr (c, other, on, mapped, inr f))) =
          full_turn S (length cells₀) b (take n₀ cells₀) r j v s s' marks ready k (take n cells) forms state in_old c other on (get_or cells k (Var 0)) was mapped f.0
          (subst (λ l. Gives (note l c (take n cells)) None cells' n') h.grew.size f.1)

    pub next : (cells' : List Cell) (n' i : ℕ) → k < length forms → Grew cells n cells' n' → Formed cells n k j v marks forms cells' n' (Some i)
        → Looping cells₀ n₀ r j v marks cells' n' (set forms k i) (k + 1)
    next cells' n' i room grew f = record {
      grew = grew_trans h.grew grew;
      law = λ S b s s' ready. subst (λ x. Forms S (length cells₀) b (take n₀ cells₀) r j v s s' marks ready x (take n' cells') (set forms k i)) (sym (add-one k)) (forms_next S b s s' ready cells' n' i room f);
    }

  pub done : (cells : List Cell) (n : ℕ) (forms : List ℕ) (k room : ℕ) → Looping cells₀ n₀ r j v marks cells n forms k → k ≡ suc r → Rebuilds cells₀ n₀ r j v marks room cells n (Some (get_or forms r 0))
  done cells n forms k room h e counted few marked roomy S b s s' ready = ends S (length cells₀) b (take n₀ cells₀) r j v s s' marks ready k (take n cells) forms e (h.law S b s s' ready)

-- a root of the old bank is counted
pub root_counted : (S : Sig) (b cells : List Cell) (n r j v : ℕ) (s s' : Term) (marks : List Bool) → n ≤ length cells → Ready S b (take n cells) r j v s s' marks → r < n
root_counted S b cells n r j v s s' marks counted ready =
    let size = length-take-le n cells counted in
    let long = ap length ready.grows ∙ length-append b ready.more in
    omega (arith, size, long, ready.root)
