-- Two answers compared.
use Rattle.std.proofs.Common.{◌≡◌, ℕ, ◌≤◌, Bool, false, List, length, take, Ok, Decides, Result, sym, ◌∙◌, arith}
use Rattle.std.proofs.lemmas.Bool.{false≢true}
use Rattle.std.proofs.lemmas.Bool.Decides.{Decides-like}
use Rattle.lists.specs.Members.{Alike}
use Rattle.refusal.specs.declared.Refusal.{Refusal}
use Rattle.terms.specs.Sig.{Sig}
use Rattle.bank.specs.declared.cell.Cell.{Cell}
use Rattle.index.specs.Maps.{Map, Same}
use Rattle.index.specs.Found.{Generalizations}
use Rattle.index.specs.Questions.{Asked, MayAsk}
use Rattle.index.specs.Agreement.{Agree}
use Rattle.index.proofs.Asking.{asked}

-- a list of 128 has room for every index
pub asked_roomy : (S : Sig) (cells : List Cell) (n i capacity : ℕ) (list : List ℕ) → MayAsk S cells n i 128 128 (Ok tt) → capacity ≤ 128 → length list ≡ 128 → Asked S (take n cells) i capacity list
asked_roomy S cells n i capacity list h few long = asked S cells n i capacity list ((h.0.0, omega arith), h.1)

-- exact answers have the same members exactly if the maps agree
pub agreeing : (m m' : Map) (b : List Cell) (i : ℕ) (xs ys : List ℕ) (r : Bool) → Generalizations m b i xs → Generalizations m' b i ys → Decides r (Alike xs ys) → Decides r (Agree m m' b i)
agreeing m m' b i xs ys r g g' d = Decides-like r
    (λ h n. (λ z. g'.only n ((h n).0 (g.all n z)), λ z. g.only n ((h n).1 (g'.all n z))))
    (λ a n. (λ z. g'.all n ((a n).0 (g.only n z)), λ z. g.all n ((a n).1 (g'.only n z))))
    d

-- equal maps agree
same_agree : (m m' : Map) (b : List Cell) (i : ℕ) → Same m m' → Agree m m' b i
same_agree m m' b i s n = (
  λ g. record { pattern = g.pattern; stored = s n ∙ g.stored; fits = g.fits },
  λ g. record { pattern = g.pattern; stored = sym (s n) ∙ g.stored; fits = g.fits },
)

pub never_false : (m m' : Map) (b : List Cell) (i : ℕ) (a : Bool) → Decides a (Agree m m' b i) → Same m m' → ◌≡◌ {A = Result Bool Refusal} (Ok a) (Ok false) → ⊥
never_false m m' b i a d s e = let z : a ≡ false = cc in false≢true (sym z ∙ d.1 (same_agree m m' b i s))
