-- One turn of the walk, case by case.
use Rattle.std.proofs.Common.{◌≡◌, ℕ, zero, suc, ◌+◌, ◌<◌, ◌≤◌, List, [], ◌∷◌, ◌++◌, reverse, length, get_or, take, drop, decimal, Option, Some, None, Ok, Err, Result, IsSomeAnd, MatchResult, sym, refl, ap, ◌∙◌, subst, ap₂, append_assoc, append-nil, add-one, arith}
use Rattle.std.specs.Result.{result_ok}
use Rattle.std.proofs.lemmas.List.{length-take-le, drop_all, drop_more, get_or-take, reverse-append}
use Rattle.terms.specs.Term.{Term, Terms, app, nil, ◌▹◌}
use Rattle.terms.specs.Sig.{Sig}
use Rattle.signature.specs.Written.{written, written_args, written_more}
use Rattle.bank.specs.declared.cell.Cell.{Cell}
use Rattle.bank.specs.declared.cell.Cell.TheVariants.{Var, App}
use Rattle.bank.specs.Rules.{Rules, Node}
use Rattle.bank.specs.Means.{Means, MeansAll}
use Rattle.bank.proofs.Readings.{node, open_var, open_app, open_none, open_args}
use Rattle.row.specs.Items.{items}
use Rattle.row.specs.declared.Row.{Row}
use Rattle.writer.specs.Walks.{Left, Wrote, Turned, onward, frames}
use Rattle.writer.specs.declared.walk.Frame.{Frame}
use Rattle.writer.specs.declared.walk.Frame.TheVariants.{Whole, Rest}

-- a frame is taken off the row, or put on it
pub taken : (old new : Row Frame 2048) (f : Frame) → items old ≡ items new ++ f ∷ [] → frames old ≡ f ∷ frames new
taken old new f e = ap reverse e ∙ reverse-append (items new) (f ∷ [])

pub put_on : (old new : Row Frame 2048) (f : Frame) → items new ≡ items old ++ f ∷ [] → frames new ≡ f ∷ frames old
put_on old new f e = ap reverse e ∙ reverse-append (items old) (f ∷ [])

-- what `ok` and `?` say of a push
none_some : {X : Type 0} {x : X} → None ≡ Some x → ⊥
none_some e = let z : ◌≡◌ {A = ℕ} 0 1 = cc in omega arith

pub was_ok : {E : Type 0} (P Q : Type 0) (r : Result (Unit {0}) E) (o : Option (Unit {0})) (u : Unit {0}) → o ≡ result_ok r → o ≡ Some u → MatchResult r (λ _. P) (λ _. Q) → P
was_ok P Q (Ok v) o u e s h = h
was_ok P Q (Err x) o u e s h = absurd (none_some (sym e ∙ s))

-- a piece that there is
pub turned : (ns : List (List ℕ)) (b : List Cell) (fs : List Frame) (text : List ℕ) (P : Row ℕ 16 → Type 0) (r : Option (Row ℕ 16)) → IsSomeAnd r P → ((p : Row ℕ 16) → P p → Wrote ns b fs (items p) text) → Turned ns b fs r text
turned ns b fs text P None h wrote = absurd h
turned ns b fs text P (Some p) h wrote = wrote p h

-- what stands before argument k
abbrev pub mark_at : ℕ → ℕ
mark_at zero = 40
mark_at (suc k) = 44

pub mark_first : (k : ℕ) → k ≡ 0 → mark_at k ≡ 40
mark_first k e = rw e

pub mark_later : (k : ℕ) → (k ≡ 0 → ⊥) → mark_at k ≡ 44
mark_later zero h = absurd (h refl)
mark_later (suc k) h = refl

closing : (ns : List (List ℕ)) (k : ℕ) → 0 < k → onward ns k nil ≡ 41 ∷ []
closing ns zero h = absurd (let z : ⊥ = omega arith in z)
closing ns (suc k) h = refl

opening : (ns : List (List ℕ)) (k : ℕ) (t : Term) (ts : Terms) → onward ns k (t ▹ ts) ≡ mark_at k ∷ (written ns t ++ written_more ns ts)
opening ns zero t ts = refl
opening ns (suc k) t ts = refl

module _ {S : Sig} (ns : List (List ℕ)) (b : List Cell) (rules : Rules S b) (c : ℕ) (fs : List Frame) (text piece : List ℕ) where
  -- the whole term of a cell
  module _ (left : Left ns b (Whole c ∷ fs) text) where
    pub whole_var : (x : ℕ) → get_or b c (Var 0) ≡ Var x → piece ≡ 88 ∷ decimal x → Wrote ns b fs piece text
    whole_var x e is = record {
      rest = left.rest;
      left = left.under;
      is = left.is ∙ ap (λ z. z ++ left.rest) (left.pending.2 ∙ ap (written ns) (open_var left.pending.1 e) ∙ sym is);
      some = rw is (omega arith);
    }

    module _ (f a : ℕ) (args : List ℕ) (e : get_or b c (Var 0) ≡ App f a args) (is : piece ≡ get_or ns f []) (some : 0 < length piece) where
      pub whole_constant : a ≡ 0 → Wrote ns b fs piece text
      whole_constant z =
          let o = open_app left.pending.1 e in
          let none = open_none o.means (ap (λ k. take k args) z) in
          record {
            rest = left.rest;
            left = left.under;
            is = left.is ∙ ap (λ z. z ++ left.rest) (left.pending.2 ∙ ap (written ns) (o.is ∙ ap (app f) none) ∙ append-nil (get_or ns f []) ∙ sym is);
            some = some;
          }

      pub whole_symbol : (fs' : List Frame) → fs' ≡ Rest c 0 ∷ fs → 0 < a → Wrote ns b fs' piece text
      whole_symbol fs' is-fs more =
          let o = open_app left.pending.1 e in
          let w : left.front ≡ piece ++ written_args ns o.terms = left.pending.2 ∙ ap (written ns) o.is ∙ ap (λ z. z ++ written_args ns o.terms) (sym is) in
          record {
            rest = written_args ns o.terms ++ left.rest;
            left = subst (λ gs. Left ns b gs (written_args ns o.terms ++ left.rest)) (sym is-fs) record {
              front = written_args ns o.terms;
              rest = left.rest;
              pending = record { symbol = f; arity = a; args = args; stands = e; some = more; most = omega arith; terms = o.terms; means = o.means; is = refl };
              falls = left.falls;
              under = left.under;
              is = refl;
            };
            is = left.is ∙ ap (λ z. z ++ left.rest) w ∙ append_assoc piece (written_args ns o.terms) left.rest;
            some = some;
          }

  -- what is left of a cell's term
  module _ (k : ℕ) (left : Left ns b (Rest c k ∷ fs) text) where
    module _ (f a : ℕ) (args : List ℕ) (e : get_or b c (Var 0) ≡ App f a args) where
      inside : c < length b
      inside = omega (arith, left.falls)

      standing : Node S c f a args
      standing = node S b rules inside e

      size : length (take a args) ≡ a
      size = length-take-le a args (omega (arith, standing.few, standing.slots.four))

      -- the same arguments as when it was begun
      begun : (MeansAll b (drop k (take a args)) left.pending.terms) × (k ≤ a) × (0 < a)
      begun =
          let p = left.pending.stands in
          let q : left.pending.arity ≡ a = cc in
          let r : left.pending.args ≡ args = cc in
          (subst (λ is. MeansAll b (drop k is) left.pending.terms) (ap₂ take q r) left.pending.means, omega (arith, left.pending.most, q), omega (arith, left.pending.some, q))

      pub rest_close : a ≤ k → piece ≡ 41 ∷ [] → Wrote ns b fs piece text
      rest_close h is =
          let none = open_none begun.0 (drop_all k (take a args) (omega (arith, size))) in
          record {
            rest = left.rest;
            left = left.under;
            is = left.is ∙ ap (λ z. z ++ left.rest) (left.pending.is ∙ ap (onward ns k) none ∙ closing ns k (omega (arith, begun.2)) ∙ sym is);
            some = rw is (omega arith);
          }

      pub lower : k < a → get_or args k 0 < c
      lower h = (standing.slots.each k (omega (arith, standing.few))).0 h

      pub rest_argument : (fs' : List Frame) → fs' ≡ Whole (get_or args k 0) ∷ Rest c (k + 1) ∷ fs → k < a → piece ≡ mark_at k ∷ [] → Wrote ns b fs' piece text
      rest_argument fs' is-fs h is =
          let first : get_or (take a args) k 0 ≡ get_or args k 0 = get_or-take a args k 0 h in
          let cut : drop k (take a args) ≡ get_or args k 0 ∷ drop (k + 1) (take a args) =
          drop_more (take a args) k 0 (omega (arith, size)) ∙ ap (λ v. v ∷ drop (k + 1) (take a args)) first in
          let q = open_args begun.0 cut in
          let more : onward ns (k + 1) q.terms ≡ written_more ns q.terms = ap (λ m. onward ns m q.terms) (add-one k) in
          let under : Left ns b (Rest c (k + 1) ∷ fs) (written_more ns q.terms ++ left.rest) = record {
            front = written_more ns q.terms;
            rest = left.rest;
            pending = record { symbol = f; arity = a; args = args; stands = e; some = begun.2; most = omega arith; terms = q.terms; means = q.more; is = sym more };
            falls = left.falls;
            under = left.under;
            is = refl;
          } in
          record {
            rest = written ns q.term ++ (written_more ns q.terms ++ left.rest);
            left = subst (λ gs. Left ns b gs (written ns q.term ++ (written_more ns q.terms ++ left.rest))) (sym is-fs) record {
              front = written ns q.term;
              rest = written_more ns q.terms ++ left.rest;
              pending = (q.term, q.first, refl);
              falls = omega (arith, left.falls, lower h);
              under = under;
              is = refl;
            };
            is = left.is ∙ ap (λ z. z ++ left.rest) (left.pending.is ∙ ap (onward ns k) q.splits ∙ opening ns k q.term q.terms)
                ∙ ap (λ z. mark_at k ∷ z) (append_assoc (written ns q.term) (written_more ns q.terms) left.rest)
                ∙ ap (λ z. z ++ (written ns q.term ++ (written_more ns q.terms ++ left.rest))) (sym is);
            some = rw is (omega arith);
          }

-- the walk begins with the one cell
pub start : (ns : List (List ℕ)) (b : List Cell) (c : ℕ) (t : Term) → Means b c t → c < length b → Left ns b (Whole c ∷ []) (written ns t)
start ns b c t h l = record {
  front = written ns t;
  rest = [];
  pending = (t, h, refl);
  falls = omega arith;
  under = refl;
  is = sym (append-nil (written ns t));
}
