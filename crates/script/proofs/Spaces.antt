-- A line cut at its spaces says one call at most.
use Rattle.std.proofs.Common.{◌≡◌, ℕ, Bool, true, cond, not, ◌&&◌, eqb, List, [], ◌∷◌, codes, decimal, sym, refl, ap, ◌∙◌, arith}
use Rattle.std.specs.Str.{bytes_eq}
use Rattle.std.proofs.lemmas.Bool.{and_parts, not-true, eqb-false}
use Rattle.fields.specs.Cuts.{Without, Cut}
use Rattle.fields.proofs.Cutting.{cut_is, decimal_free}
use Rattle.script.specs.Spellings.{word, order_word}
use Rattle.script.specs.Says.{word_of, Leads, Fields, Form}
use Rattle.script.specs.declared.call.Order.{Order}
use Rattle.script.specs.declared.call.Order.TheVariants.{Kbo, Lpo}
use Rattle.script.specs.declared.call.Word.{Word}
use Rattle.script.specs.declared.call.Word.TheVariants.{Signature as signature_word, Open as open_word, Add as add_word, Remove as remove_word, Audit as audit_word, Release as release_word, Simplify as simplify_word, Judge as judge_word, Read as read_word}
use Rattle.script.specs.declared.call.Call.{Call}
use Rattle.script.specs.declared.call.Call.TheVariants.{Signature, Open, Add, Remove, Audit, Release, Simplify, Judge, Read}

pub leads_cut : {n : ℕ} {text field after more : List ℕ} → Cut 32 text field after → Leads n text more → (field ≡ decimal n) × (after ≡ more)
leads_cut {n} {text} {field} {after} {more} k l = cut_is (decimal n) more k (decimal_free 32 n (omega arith) (omega (arith, l.most))) l.whole

pub same_more : {m n : ℕ} {text x y : List ℕ} → Leads m text x → Leads n text y → y ≡ x
same_more {m} {n} {text} {x} {y} k l =
    (leads_cut (record { whole = l.whole; first = decimal_free 32 n (omega arith) (omega (arith, l.most)) }) k).1

abbrev lacks : ℕ → List ℕ → Bool
lacks c [] = true
lacks c (b ∷ bs) = not (eqb b c) && lacks c bs

free : (c : ℕ) (bs : List ℕ) → lacks c bs ≡ true → Without c bs
free c [] h = tt
free c (b ∷ bs) h =
    let p = and_parts (not (eqb b c)) (lacks c bs) h in
    (eqb-false b c (not-true (eqb b c) p.0), free c bs p.1)

pub order_free : (o : Order) → Without 32 (order_word o)
order_free Kbo = free 32 (codes "kbo") refl
order_free Lpo = free 32 (codes "lpo") refl

pub word_free : (w : Word) → Without 32 (word w)
word_free signature_word = free 32 (codes "signature") refl
word_free open_word = free 32 (codes "open") refl
word_free add_word = free 32 (codes "add") refl
word_free remove_word = free 32 (codes "remove") refl
word_free audit_word = free 32 (codes "audit") refl
word_free release_word = free 32 (codes "release") refl
word_free simplify_word = free 32 (codes "simplify") refl
word_free judge_word = free 32 (codes "judge") refl
word_free read_word = free 32 (codes "read") refl

-- the word that is spelled so, if any is
abbrev named : List ℕ → Word
named t =
    cond (bytes_eq t (codes "signature")) signature_word (cond (bytes_eq t (codes "open")) open_word (cond (bytes_eq t (codes "add")) add_word (cond (bytes_eq t (codes "remove")) remove_word (cond (bytes_eq t (codes "audit")) audit_word (cond (bytes_eq t (codes "release")) release_word (cond (bytes_eq t (codes "simplify")) simplify_word (cond (bytes_eq t (codes "judge")) judge_word read_word)))))))

named_back : (w : Word) → named (word w) ≡ w
named_back signature_word = refl
named_back open_word = refl
named_back add_word = refl
named_back remove_word = refl
named_back audit_word = refl
named_back release_word = refl
named_back simplify_word = refl
named_back judge_word = refl
named_back read_word = refl

pub same_word : (v w : Word) → word v ≡ word w → v ≡ w
same_word v w e = sym (named_back v) ∙ ap named e ∙ named_back w

pub form : (c : Call) (rest : List ℕ) → Fields c rest → Form (word_of c) rest
form (Signature text) rest f = (_, f)
form (Open number order index) rest f = (number, (order, (index, f)))
form (Add number formula) rest f = (number, (_, f))
form (Remove number) rest f = (number, f)
form (Audit limits) rest f = (limits, f)
form Release rest f = f
form (Simplify goal) rest f = (_, (_, f))
form (Judge goal) rest f = (_, (_, f))
form (Read text) rest f = (_, f)
