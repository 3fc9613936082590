-- First-order terms: a variable, or a symbol's number with its arguments.
use Rattle.std.specs.Prelude.{◌≡◌, ℕ, suc, ◌+◌, ◌⊎◌, refl}
use Rattle.std.proofs.Common.{ap, ap₂, arith}
use Rattle.std.proofs.Math.Decide.{ℕ_discrete}

infixr 67 ◌▹◌
mutual
  pub data Term : Type 0 where
    var : ℕ → Term
    app : ℕ → Terms → Term

  pub data Terms : Type 0 where
    nil : Terms
    ◌▹◌ : Term → Terms → Terms

-- how many terms
abbrev pub width : Terms → ℕ
width nil = 0
width (t ▹ ts) = suc (width ts)

-- how many cells: occurrences of a symbol or a variable
abbrev mutual
  pub cells : Term → ℕ
  cells (var x) = 1
  cells (app f ts) = suc (cellss ts)

  pub cellss : Terms → ℕ
  cellss nil = 0
  cellss (t ▹ ts) = cells t + cellss ts

-- the instance under σ: each variable x replaced by σ x
abbrev mutual
  pub sub : (ℕ → Term) → Term → Term
  sub σ (var x) = σ x
  sub σ (app f ts) = app f (subs σ ts)

  pub subs : (ℕ → Term) → Terms → Terms
  subs σ nil = nil
  subs σ (t ▹ ts) = sub σ t ▹ subs σ ts

-- the variable x occurs in the term
abbrev mutual
  pub Occ : ℕ → Term → Type 0
  Occ x (var y) = x ≡ y
  Occ x (app f ts) = Occs x ts

  pub Occs : ℕ → Terms → Type 0
  Occs x nil = ⊥
  Occs x (t ▹ ts) = Occ x t ⊎ Occs x ts

abbrev pub Headed : Term → Type 0
Headed (var x) = ⊥
Headed (app f ts) = Unit {0}

-- equality of terms is decided
pub var_inj : {x y : ℕ} → var x ≡ var y → x ≡ y
var_inj e = cc

pub app_head : {f g : ℕ} {ts us : Terms} → app f ts ≡ app g us → f ≡ g
app_head e = cc

pub app_args : {f g : ℕ} {ts us : Terms} → app f ts ≡ app g us → ts ≡ us
app_args e = cc

pub cons_head : {s t : Term} {ts us : Terms} → s ▹ ts ≡ t ▹ us → s ≡ t
cons_head e = cc

pub cons_tail : {s t : Term} {ts us : Terms} → s ▹ ts ≡ t ▹ us → ts ≡ us
cons_tail e = cc

pub var≢app : {x f : ℕ} {ts : Terms} → ¬ (var x ≡ app f ts)
var≢app e = let z : ◌≡◌ {A = ℕ} 0 1 = cc in omega arith

pub app≢var : {x f : ℕ} {ts : Terms} → ¬ (app f ts ≡ var x)
app≢var e = let z : ◌≡◌ {A = ℕ} 0 1 = cc in omega arith

pub nil≢cons : {t : Term} {ts : Terms} → ¬ (nil ≡ t ▹ ts)
nil≢cons e = let z : ◌≡◌ {A = ℕ} 0 1 = cc in omega arith

pub cons≢nil : {t : Term} {ts : Terms} → ¬ (t ▹ ts ≡ nil)
cons≢nil e = let z : ◌≡◌ {A = ℕ} 0 1 = cc in omega arith

abbrev var_eq : (x y : ℕ) → Dec (x ≡ y) → Dec (var x ≡ var y)
var_eq x y (yes e) = yes (ap var e)
var_eq x y (no n) = no (λ e. n (var_inj e))

abbrev app_eq : (f g : ℕ) (ts us : Terms) → Dec (f ≡ g) → Dec (ts ≡ us) → Dec (app f ts ≡ app g us)
app_eq f g ts us (no n) d = no (λ e. n (app_head e))
app_eq f g ts us (yes e) (no n) = no (λ q. n (app_args q))
app_eq f g ts us (yes e) (yes q) = yes (ap₂ app e q)

abbrev cons_eq : (t u : Term) (ts us : Terms) → Dec (t ≡ u) → Dec (ts ≡ us) → Dec (t ▹ ts ≡ u ▹ us)
cons_eq t u ts us (no n) d = no (λ e. n (cons_head e))
cons_eq t u ts us (yes e) (no n) = no (λ q. n (cons_tail q))
cons_eq t u ts us (yes e) (yes q) = yes (ap₂ ◌▹◌ e q)

abbrev mutual
  pub Term_discrete : (s t : Term) → Dec (s ≡ t)
  Term_discrete (var x) (var y) = var_eq x y (ℕ_discrete x y)
  Term_discrete (var x) (app g us) = no var≢app
  Term_discrete (app f ts) (var y) = no app≢var
  Term_discrete (app f ts) (app g us) = app_eq f g ts us (ℕ_discrete f g) (Terms_discrete ts us)

  pub Terms_discrete : (ss ts : Terms) → Dec (ss ≡ ts)
  Terms_discrete nil nil = yes refl
  Terms_discrete nil (u ▹ us) = no nil≢cons
  Terms_discrete (t ▹ ts) nil = no cons≢nil
  Terms_discrete (t ▹ ts) (u ▹ us) = cons_eq t u ts us (Term_discrete t u) (Terms_discrete ts us)
