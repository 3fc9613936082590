-- Laws of replacing every occurrence of a term.
use Rattle.std.proofs.Common.{◌≡◌, ℕ, suc, ◌<◌, ◌≤◌, ◌⊎◌, sym, refl, ap, ◌∙◌, subst, ap₂, inl, inr, arith}
use Rattle.terms.specs.Term.{Term, Terms, var, app, nil, ◌▹◌, width, cells, cellss, Term_discrete}
use Rattle.enter.specs.Grown.{Part, Parts}
use Rattle.reduction.specs.Replaced.{replace, replaces, Inside}

-- a part has no more cells than the whole
mutual
  pub part_cells : (s t : Term) → Part s t → cells s ≤ cells t
  part_cells s (var x) e = subst (λ u. cells s ≤ cells u) e (omega arith)
  part_cells s (app f ts) (inl e) = subst (λ u. cells s ≤ cells u) e (omega arith)
  part_cells s (app f ts) (inr h) = let l = parts_cells s ts h in omega (arith, l)

  pub parts_cells : (s : Term) (ts : Terms) → Parts s ts → cells s ≤ cellss ts
  parts_cells s nil h = absurd h
  parts_cells s (t ▹ ts) (inl h) = let l = part_cells s t h in omega (arith, l)
  parts_cells s (t ▹ ts) (inr h) = let l = parts_cells s ts h in omega (arith, l)

pub inside_smaller : (s t : Term) → Inside s t → cells s < cells t
inside_smaller s (var x) h = absurd h
inside_smaller s (app f ts) h = let l = parts_cells s ts h in omega (arith, l)

pub not_inside_itself : (s : Term) → Inside s s → ⊥
not_inside_itself s h = let l = inside_smaller s s h in omega (arith, l)

-- whether a term stands in another is decided
or_part : {A B : Type 0} → Dec A → Dec B → Dec (A ⊎ B)
or_part (yes a) d = yes (inl a)
or_part (no n) (yes b) = yes (inr b)
or_part (no n) (no m) = no (λ h. elim h [ inl a ↦ n a | inr b ↦ m b ])

mutual
  pub part_decided : (s t : Term) → Dec (Part s t)
  part_decided s (var x) = Term_discrete s (var x)
  part_decided s (app f ts) = or_part (Term_discrete s (app f ts)) (parts_decided s ts)

  pub parts_decided : (s : Term) (ts : Terms) → Dec (Parts s ts)
  parts_decided s nil = no (λ h. h)
  parts_decided s (t ▹ ts) = or_part (part_decided s t) (parts_decided s ts)

pub inside_decided : (s t : Term) → Dec (Inside s t)
inside_decided s (var x) = no (λ h. h)
inside_decided s (app f ts) = parts_decided s ts

-- the replaced term itself
pub replaced_itself : (s s' : Term) → replace s s' s ≡ s'
replaced_itself (var x) s' = elim (Term_discrete (var x) (var x)) as (λ d. (elim d [ yes e ↦ s' | no n ↦ var x ]) ≡ s') [ yes e ↦ refl | no n ↦ absurd (n refl) ]
replaced_itself (app f ts) s' = elim (Term_discrete (app f ts) (app f ts)) as (λ d. (elim d [ yes e ↦ s' | no n ↦ app f (replaces (app f ts) s' ts) ]) ≡ s') [ yes e ↦ refl | no n ↦ absurd (n refl) ]

-- a term other than it changes in its arguments only
pub replaced_app : (s s' : Term) (f : ℕ) (ts : Terms) → (app f ts ≡ s → ⊥) → replace s s' (app f ts) ≡ app f (replaces s s' ts)
replaced_app s s' f ts other = elim (Term_discrete (app f ts) s) as (λ d. (elim d [ yes e ↦ s' | no n ↦ app f (replaces s s' ts) ]) ≡ app f (replaces s s' ts)) [ yes e ↦ absurd (other e) | no n ↦ refl ]

pub replaced_var : (s s' : Term) (x : ℕ) → (var x ≡ s → ⊥) → replace s s' (var x) ≡ var x
replaced_var s s' x other = elim (Term_discrete (var x) s) as (λ d. (elim d [ yes e ↦ s' | no n ↦ var x ]) ≡ var x) [ yes e ↦ absurd (other e) | no n ↦ refl ]

-- where it does not stand, nothing changes
mutual
  pub untouched : (s s' t : Term) → (Part s t → ⊥) → replace s s' t ≡ t
  untouched s s' (var x) out = replaced_var s s' x (λ e. out (sym e))
  untouched s s' (app f ts) out = replaced_app s s' f ts (λ e. out (inl (sym e))) ∙ ap (app f) (untouched_all s s' ts (λ h. out (inr h)))

  pub untouched_all : (s s' : Term) (ts : Terms) → (Parts s ts → ⊥) → replaces s s' ts ≡ ts
  untouched_all s s' nil out = refl
  untouched_all s s' (t ▹ ts) out = ap₂ ◌▹◌ (untouched s s' t (λ h. out (inl h))) (untouched_all s s' ts (λ h. out (inr h)))

pub replaced_width : (s s' : Term) (ts : Terms) → width (replaces s s' ts) ≡ width ts
replaced_width s s' nil = refl
replaced_width s s' (t ▹ ts) = ap suc (replaced_width s s' ts)

-- a term in which s stands, or s itself
pub part_cases : (s t : Term) → Part s t → (s ≡ t) ⊎ Inside s t
part_cases s (var x) e = inl e
part_cases s (app f ts) (inl e) = inl e
part_cases s (app f ts) (inr h) = inr h
