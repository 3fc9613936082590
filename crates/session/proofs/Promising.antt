-- From what a call did to what it promises.
use Rattle.std.proofs.Common.{◌≡◌, ℕ, true, List, length, is_some, Some, None, Ok, Err, Option, Result, sym, refl, subst, inl, inr, arith}
use Rattle.refusal.specs.declared.Refusal.{Refusal}
use Rattle.terms.specs.Term.{Term}
use Rattle.signature.specs.declared.signature.Signature.{Signature}
use Rattle.formula.specs.declared.equation.Equation.{Equation}
use Rattle.index.specs.Maps as maps
use Rattle.reduction.specs.declared.oriented.Oriented.{Oriented}
use Rattle.file.specs.Kept as file
use Rattle.file.specs.declared.File.{File}
use Rattle.session.specs.Rules.{Rule, Orients}
use Rattle.session.specs.Kept.{Kept}
use Rattle.session.specs.Calls.{state_of, Called, Proposed, AddRefused, RemoveRefused, absent}
use Rattle.session.specs.Promises.{Adds, Removes}
use Rattle.session.specs.declared.Session.{Session}
use Rattle.session.proofs.Keeping.{ordered, ordered_put, ordered_without, ordered_same}

abbrev with_file : {I O : Type 0} → Session I O → File I → Session I O
with_file s f = record { number = s.number; signature = s.signature; order = s.order; file = f; sealed = s.sealed }

pub add_refuses : {I O : Type 0} (stored : I → maps.Map) (numbers : I → List ℕ) (above : O → Signature → Term → Term → Type 0) (capacity : ℕ) (s : Session I O) (n : ℕ) (text : List ℕ) (f : Refusal) (r : Result (Unit {0}) Refusal) → r ≡ Err f
    → (Kept stored above s → AddRefused (above s.order s.signature) capacity (state_of stored numbers s) n text f) → Adds stored numbers above capacity s n text r s
add_refuses stored numbers above capacity s n text f r e why = subst (λ x. Adds stored numbers above capacity s n text x s) (sym e) (record {
  unchanged = record { number = refl; signature = refl; order = refl; sealed = refl };
  added = λ k. (why k, λ i. refl);
  kept = λ k. k;
  past = λ k past before. (file.equations stored s.file, before, λ i. refl);
})

-- a place that is looked at under the number as the file takes it
pub free_at : {I : Type 0} (stored : I → maps.Map) (numbers : I → List ℕ) (f : File I) (capacity m n : ℕ) (r : Result (Unit {0}) Refusal) → m ≡ n
    → file.Free (file.equations stored f) (length (numbers f.index)) capacity m r → file.Free (file.equations stored f) (length (numbers f.index)) capacity n r
free_at stored numbers f capacity m n r is h = subst (λ i. file.Free (file.equations stored f) (length (numbers f.index)) capacity i r) is h

-- a place that was found free is free when the equation comes
adds_free : {I O : Type 0} (stored : I → maps.Map) (numbers : I → List ℕ) (above : O → Signature → Term → Term → Type 0) (capacity : ℕ) (s : Session I O) (n : ℕ) (text : List ℕ) (q : Equation) (e : Oriented) (f : File I) (r : Result (Unit {0}) Refusal)
    → Proposed (state_of stored numbers s) n text q → Rule q
    → (Kept stored above s → file.Free (file.equations stored s.file) (length (numbers s.file.index)) capacity n (Ok tt)) → Orients (above s.order s.signature) q e
    → (Kept stored above s → file.Kept stored f)
    → (Kept stored above s → maps.Inserted (file.equations stored s.file) (length (numbers s.file.index)) capacity n e (file.equations stored f) r)
    → Adds stored numbers above capacity s n text r (with_file s f)
adds_free stored numbers above capacity s n text q e f (Ok u) p rule free o paired put = record {
  unchanged = record { number = refl; signature = refl; order = refl; sealed = refl };
  added = λ k. record { equation = q; proposed = p; rule = rule; free = free k; oriented = e; orients = o; stored = (put k).2 };
  kept = λ k. record { paired = paired k; ordered = ordered_put s.signature (above s.order s.signature) (file.equations stored s.file) (file.equations stored f) n e k.ordered (ordered s.signature (above s.order s.signature) text q e p.read o) (put k).2 };
  past = λ k past before. (file.equations stored s.file, before, (e, record { equation = q; read = p.read; orients = o }, (put k).2));
}
adds_free {I} {O} stored numbers above capacity s n text q e f (Err x) p rule free o paired put =
    record {
      unchanged = record { number = refl; signature = refl; order = refl; sealed = refl };
      added = λ k. absurd (clash k);
      kept = λ k. absurd (clash k);
      past = λ k. absurd (clash k);
    }
  where
    none_some : (o : Option Oriented) → o ≡ None → is_some o ≡ true → ⊥
    none_some None a b = let z : ◌≡◌ {A = ℕ} 0 1 = cc in omega arith
    none_some (Some y) a b = let z : ◌≡◌ {A = ℕ} 0 1 = cc in omega arith

    clash : Kept stored above s → ⊥
    clash k = elim (put k).1 [ inl t ↦ none_some _ (free k).0 t.0 | inr t ↦ (let z : ⊥ = omega (arith, t.1, (free k).1) in z) ]

-- the number as the file takes it
pub adds : {I O : Type 0} (stored : I → maps.Map) (numbers : I → List ℕ) (above : O → Signature → Term → Term → Type 0) (capacity : ℕ) (s : Session I O) (n m : ℕ) (text : List ℕ) (q : Equation) (e : Oriented) (f : File I) (r : Result (Unit {0}) Refusal) → m ≡ n
    → Proposed (state_of stored numbers s) n text q → Rule q
    → (file.Kept stored s.file → file.Free (file.equations stored s.file) (length (numbers s.file.index)) capacity m (Ok tt)) → Orients (above s.order s.signature) q e
    → (file.Kept stored s.file → file.Kept stored f)
    → (file.Kept stored s.file → maps.Inserted (file.equations stored s.file) (length (numbers s.file.index)) capacity m e (file.equations stored f) r)
    → Adds stored numbers above capacity s n text r (with_file s f)
adds stored numbers above capacity s n m text q e f r is p rule free o paired put =
    adds_free stored numbers above capacity s n text q e f r p rule
    (λ k. free_at stored numbers s.file capacity m n (Ok tt) is (free k.paired)) o
    (λ k. paired k.paired)
    (λ k. subst (λ i. maps.Inserted (file.equations stored s.file) (length (numbers s.file.index)) capacity i e (file.equations stored f) r) is (put k.paired))

pub remove_refuses : {I O : Type 0} (stored : I → maps.Map) (numbers : I → List ℕ) (above : O → Signature → Term → Term → Type 0) (s : Session I O) (n : ℕ) (f : Refusal) (r : Result (Unit {0}) Refusal) → r ≡ Err f
    → RemoveRefused (state_of stored numbers s) n f → Removes stored numbers above s n r s
remove_refuses stored numbers above s n f r e why = subst (λ x. Removes stored numbers above s n x s) (sym e) (record {
  unchanged = record { number = refl; signature = refl; order = refl; sealed = refl };
  removed = λ k. (why, λ i. refl);
  kept = λ k. k;
  past = λ k past before. (file.equations stored s.file, before, λ i. refl);
})

removes_at : {I O : Type 0} (stored : I → maps.Map) (numbers : I → List ℕ) (above : O → Signature → Term → Term → Type 0) (s : Session I O) (n : ℕ) (f : File I) (r : Result (Unit {0}) Refusal) → Called (state_of stored numbers s) n
    → (Kept stored above s → file.Kept stored f) → (Kept stored above s → maps.Removed (file.equations stored s.file) n (file.equations stored f) r)
    → Removes stored numbers above s n r (with_file s f)
removes_at stored numbers above s n f (Ok u) c paired out = record {
  unchanged = record { number = refl; signature = refl; order = refl; sealed = refl };
  removed = λ k. record { called = c; present = (out k).0; left = (out k).1 };
  kept = λ k. record { paired = paired k; ordered = ordered_without s.signature (above s.order s.signature) (file.equations stored s.file) (file.equations stored f) n k.ordered (out k).1 };
  past = λ k past before. (file.equations stored s.file, before, (out k).1);
}
removes_at stored numbers above s n f (Err x) c paired out = record {
  unchanged = record { number = refl; signature = refl; order = refl; sealed = refl };
  removed = λ k. (subst (RemoveRefused (state_of stored numbers s) n) (sym (out k).2) (absent c (out k).1), (out k).0);
  kept = λ k. record { paired = paired k; ordered = ordered_same s.signature (above s.order s.signature) (file.equations stored s.file) (file.equations stored f) k.ordered (out k).0 };
  past = λ k past before. (file.equations stored s.file, before, (out k).0);
}

pub removes : {I O : Type 0} (stored : I → maps.Map) (numbers : I → List ℕ) (above : O → Signature → Term → Term → Type 0) (s : Session I O) (n m : ℕ) (f : File I) (r : Result (Unit {0}) Refusal) → m ≡ n → Called (state_of stored numbers s) n
    → (file.Kept stored s.file → file.Kept stored f) → (file.Kept stored s.file → maps.Removed (file.equations stored s.file) m (file.equations stored f) r)
    → Removes stored numbers above s n r (with_file s f)
removes stored numbers above s n m f r is c paired out =
    removes_at stored numbers above s n f r c (λ k. paired k.paired) (λ k. subst (λ i. maps.Removed (file.equations stored s.file) i (file.equations stored f) r) is (out k.paired))
