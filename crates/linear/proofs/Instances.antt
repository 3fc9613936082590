-- A term fits loosely exactly if it is an instance of the term with its variables apart.
use Rattle.std.proofs.Common.{◌≡◌, ℕ, ◌+◌, ◌<◌, ◌≤◌, cond, ltb, refl, ap, ◌∙◌, subst, ap₂, arith}
use Rattle.std.proofs.lemmas.Bool.{lt-ltb, le-ltb}
use Rattle.terms.specs.Term.{Term, Terms, var, app, nil, ◌▹◌, sub, subs}
use Rattle.linear.specs.Apart.{stars, starss, apart_from, aparts_from, apart}
use Rattle.linear.specs.Loose.{Loosely, LooselyAll, InstanceOf, Loosely_is_apart}

mutual
  fits : (σ : ℕ → Term) (p : Term) → Loosely p (sub σ p)
  fits σ (var x) = tt
  fits σ (app f ps) = (refl, fits_all σ ps)

  fits_all : (σ : ℕ → Term) (ps : Terms) → LooselyAll ps (subs σ ps)
  fits_all σ nil = tt
  fits_all σ (p ▹ ps) = (fits σ p, fits_all σ ps)

-- every instance fits loosely
pub instance_fits : (p t : Term) → InstanceOf p t → Loosely p t
instance_fits p t i = subst (Loosely p) i.1 (fits i.0 p)

-- the variables' names do not matter
mutual
  forget : (n : ℕ) (p t : Term) → Loosely (apart_from n p) t → Loosely p t
  forget n (var x) t h = tt
  forget n (app f ps) (var y) h = h
  forget n (app f ps) (app g ts) h = (h.0, forget_all n ps ts h.1)

  forget_all : (n : ℕ) (ps ts : Terms) → LooselyAll (aparts_from n ps) ts → LooselyAll ps ts
  forget_all n nil nil h = tt
  forget_all n nil (t ▹ ts) h = h
  forget_all n (p ▹ ps) nil h = h
  forget_all n (p ▹ ps) (t ▹ ts) h = (forget n p t h.0, forget_all (n + stars p) ps ts h.1)

-- an instance depends only on the variables that the term has
abbrev Agree : ℕ → ℕ → (ℕ → Term) → (ℕ → Term) → Type 0
Agree n m σ τ = (k : ℕ) → n ≤ k → k < n + m → σ k ≡ τ k

mutual
  local : (n : ℕ) (p : Term) (σ τ : ℕ → Term) → Agree n (stars p) σ τ → sub σ (apart_from n p) ≡ sub τ (apart_from n p)
  local n (var x) σ τ h = h n (omega arith) (omega arith)
  local n (app f ps) σ τ h = ap (app f) (local_all n ps σ τ h)

  local_all : (n : ℕ) (ps : Terms) (σ τ : ℕ → Term) → Agree n (starss ps) σ τ → subs σ (aparts_from n ps) ≡ subs τ (aparts_from n ps)
  local_all n nil σ τ h = refl
  local_all n (p ▹ ps) σ τ h =
      ap₂ ◌▹◌ (local n p σ τ (λ k l u. h k l (omega arith))) (local_all (n + stars p) ps σ τ (λ k l u. h k (omega arith) (omega arith)))

-- one substitution below m, another from m on
abbrev both : ℕ → (ℕ → Term) → (ℕ → Term) → ℕ → Term
both m σ τ k = cond (ltb k m) (σ k) (τ k)

both_below : (m : ℕ) (σ τ : ℕ → Term) (k : ℕ) → k < m → both m σ τ k ≡ σ k
both_below m σ τ k h = ap (λ b. cond b (σ k) (τ k)) (lt-ltb k m h)

both_above : (m : ℕ) (σ τ : ℕ → Term) (k : ℕ) → m ≤ k → both m σ τ k ≡ τ k
both_above m σ τ k h = ap (λ b. cond b (σ k) (τ k)) (le-ltb k m h)

mutual
  solve : (n : ℕ) (p t : Term) → Loosely p t → InstanceOf (apart_from n p) t
  solve n (var x) t h = (λ k. t, refl)
  solve n (app f ps) (var y) h = absurd h
  solve n (app f ps) (app g ts) h = let s = solve_all n ps ts h.1 in (s.0, ap₂ app h.0 s.1)

  solve_all : (n : ℕ) (ps ts : Terms) → LooselyAll ps ts → (σ : ℕ → Term) × (subs σ (aparts_from n ps) ≡ ts)
  solve_all n nil nil h = (var, refl)
  solve_all n nil (t ▹ ts) h = absurd h
  solve_all n (p ▹ ps) nil h = absurd h
  solve_all n (p ▹ ps) (t ▹ ts) h =
      let m = n + stars p in
      let s = solve n p t h.0 in
      let r = solve_all m ps ts h.1 in
      let σ = both m s.0 r.0 in (
        σ,
        ap₂ ◌▹◌
            (local n p σ s.0 (λ k l u. both_below m s.0 r.0 k u) ∙ s.1)
            (local_all m ps σ r.0 (λ k l u. both_above m s.0 r.0 k l) ∙ r.1),
      )

pub loosely_is_apart : Loosely_is_apart
loosely_is_apart p t = (solve 0 p t, λ i. forget 0 p t (instance_fits (apart p) t i))
