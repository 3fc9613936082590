-- A past leaves one file: a text has one reading, and an order turns an equation one way.
use Rattle.std.proofs.Common.{◌≡◌, ℕ, true, false, cond, eqb, List, [], ◌∷◌, Some, None, Ok, Option, sym, ap, ◌∙◌, subst, inl, inr}
use Rattle.terms.specs.Term.{Term}
use Rattle.terms.specs.Patterns.{term_of}
use Rattle.signature.specs.declared.signature.Signature.{Signature}
use Rattle.grammar.proofs.Unique.{formula_once}
use Rattle.grammar.specs.Syntax.{Parsed}
use Rattle.formula.specs.Numbering.{Sides, resolved, both_laid}
use Rattle.formula.specs.Outcomes.{Outcome, read, Read}
use Rattle.formula.specs.declared.equation.Equation.{Equation}
use Rattle.reduction.specs.declared.oriented.Oriented.{Oriented}
use Rattle.reduction.specs.Redexes.{Equations}
use Rattle.session.specs.Rules.{Orients}
use Rattle.session.specs.Pasts.{Call, add, remove, other, Made, States, Turn, FileAfter, Agree}

sides_same : (g : Signature) (x : Parsed) (s t : Sides) → both_laid g x.body.left x.body.right ≡ Ok s → both_laid g x.body.left x.body.right ≡ Ok t → s ≡ t
sides_same g x s t p q = cc

parsed_same : {g : Signature} {x : Parsed} {q q' : Equation} → Read g x q → Read g x q' → (term_of q.left ≡ term_of q'.left) × (term_of q.right ≡ term_of q'.right)
parsed_same {g} {x} r r' =
    let e : r.sides ≡ r'.sides = sides_same g x r.sides r'.sides r.laid r'.laid in
    (r.left ∙ ap (λ (s : Sides). resolved g s.variables x.body.left) e ∙ sym r'.left, r.right ∙ ap (λ (s : Sides). resolved g s.variables x.body.right) e ∙ sym r'.right)

read_same : {g : Signature} {text : List ℕ} {q q' : Equation} → Outcome g text (Ok q) → Outcome g text (Ok q') → (term_of q.left ≡ term_of q'.left) × (term_of q.right ≡ term_of q'.right)
read_same {g} {q' = q'} (read x c p u r) (read x' c' p' u' r') = parsed_same r (subst (λ y. Read g y q') (formula_once p' p) r')

abbrev OneWay : (Term → Term → Type 0) → Type 0
OneWay above = (s t : Term) → above s t → above t s → ⊥

crossed : (above : Term → Term → Type 0) (e e' : Oriented) → term_of e.higher ≡ term_of e'.lower → term_of e.lower ≡ term_of e'.higher → above (term_of e'.higher) (term_of e'.lower) → above (term_of e.lower) (term_of e.higher)
crossed above e e' h l a = subst (λ t. above t (term_of e.higher)) (sym l) (subst (above (term_of e'.higher)) (sym h) a)

turned_same : (above : Term → Term → Type 0) → OneWay above → (q q' : Equation) (e e' : Oriented) → (term_of q.left ≡ term_of q'.left) × (term_of q.right ≡ term_of q'.right) → Orients above q e → Orients above q' e' → Agree (Some e) (Some e')
turned_same above way q q' e e' s (inl i, a) (inl i', a') = (ap (λ z. term_of z.higher) i ∙ s.0 ∙ sym (ap (λ z. term_of z.higher) i'), ap (λ z. term_of z.lower) i ∙ s.1 ∙ sym (ap (λ z. term_of z.lower) i'))
turned_same above way q q' e e' s (inr i, a) (inr i', a') = (ap (λ z. term_of z.higher) i ∙ s.1 ∙ sym (ap (λ z. term_of z.higher) i'), ap (λ z. term_of z.lower) i ∙ s.0 ∙ sym (ap (λ z. term_of z.lower) i'))
turned_same above way q q' e e' s (inl i, a) (inr i', a') =
    absurd (way (term_of e.higher) (term_of e.lower) a (crossed above e e' (ap (λ z. term_of z.higher) i ∙ s.0 ∙ sym (ap (λ z. term_of z.lower) i')) (ap (λ z. term_of z.lower) i ∙ s.1 ∙ sym (ap (λ z. term_of z.higher) i')) a'))
turned_same above way q q' e e' s (inr i, a) (inl i', a') =
    absurd (way (term_of e.higher) (term_of e.lower) a (crossed above e e' (ap (λ z. term_of z.higher) i ∙ s.1 ∙ sym (ap (λ z. term_of z.lower) i')) (ap (λ z. term_of z.lower) i ∙ s.0 ∙ sym (ap (λ z. term_of z.higher) i')) a'))

states_same : (g : Signature) (above : Term → Term → Type 0) → OneWay above → (text : List ℕ) (e e' : Oriented) → States g above text e → States g above text e' → Agree (Some e) (Some e')
states_same g above way text e e' s s' = turned_same above way s.equation s'.equation e e' (read_same s.read s'.read) s.orients s'.orients

agree_at : {o p o' p' : Option Oriented} → o' ≡ o → p' ≡ p → Agree o p → Agree o' p'
agree_at {p = p} {o' = o'} e f a = subst (Agree o') (sym f) (subst (λ z. Agree z p) (sym e) a)

turn_same : (g : Signature) (above : Term → Term → Type 0) → OneWay above → (made : Made) (E F E' F' : Equations) → ((n : ℕ) → Agree (E n) (F n)) → Turn g above E made.call made.passed E' → Turn g above F made.call made.passed F' → (n : ℕ) → Agree (E' n) (F' n)
turn_same g above way made E F E' F' a t u = at made.call made.passed t u
  where
    at : (call : Call) (passed : _) → Turn g above E call passed E' → Turn g above F call passed F' → (n : ℕ) → Agree (E' n) (F' n)
    at call false t u n = agree_at (t n) (u n) (a n)
    at other true t u n = agree_at (t n) (u n) (a n)
    at (remove m) true t u n = agree_at (t n) (u n) (elim (eqb n m) as (λ b. Agree (cond b None (E n)) (cond b None (F n))) [ true ↦ tt | false ↦ a n ])
    at (add m text) true t u n = agree_at (t.2 n) (u.2 n) (elim (eqb n m) as (λ b. Agree (cond b (Some t.0) (E n)) (cond b (Some u.0) (F n))) [ true ↦ states_same g above way text t.0 u.0 t.1 u.1 | false ↦ a n ])

pub determined : (g : Signature) (above : Term → Term → Type 0) → OneWay above → (past : List Made) (E E' : Equations) → FileAfter g above past E → FileAfter g above past E' → (n : ℕ) → Agree (E n) (E' n)
determined g above way [] E E' h h' n = agree_at (h n) (h' n) tt
determined g above way (made ∷ past) E E' h h' n = turn_same g above way made h.0 h'.0 E E' (determined g above way past h.0 h'.0 h.1 h'.1) h.2 h'.2 n
