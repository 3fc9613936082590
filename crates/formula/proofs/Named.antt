-- The symbol of a name: names differ, so the line that is found is the only one.
use Rattle.std.proofs.Common.{◌≡◌, ℕ, zero, suc, ◌+◌, ◌<◌, true, false, ◌⊎◌, List, [], ◌∷◌, length, get_or, Some, None, sym, refl, ap, ◌∙◌, inl, inr, arith}
use lib.ListN.{length-map}
use Rattle.std.proofs.lemmas.Bool.{cases_Bool, cond-true, cond-false, lt-ltb, le-ltb}
use Rattle.terms.specs.declared.pattern.Node.TheVariants.{App}
use Rattle.signature.specs.Lines.{Apart, spelled}
use Rattle.signature.specs.Signatures.{sig_of, names_of, symbols_of}
use Rattle.signature.specs.declared.symbol.Symbol.{Symbol}
use Rattle.signature.specs.declared.signature.Signature.{Signature}
use Rattle.grammar.specs.Kinds.{same_bytes}
use Rattle.std.proofs.lemmas.Slice.Eq.{bytes_eq-Decides}
use Rattle.formula.specs.Symbols.{index_of, number_in, symbol_of}

tail_apart : (n : List ℕ) (ns : List (List ℕ)) → Apart (n ∷ ns) → Apart ns
tail_apart n ns a i j d h k e = a (suc i) (suc j) d (omega arith) (omega arith) e

module _ (w : List ℕ) where
  step : (n : List ℕ) (ns : List (List ℕ)) → (n ≡ w → ⊥) → index_of w (n ∷ ns) ≡ 1 + index_of w ns
  step n ns other = by (cases_Bool (same_bytes n w))
    where
      by : (same_bytes n w ≡ true) ⊎ (same_bytes n w ≡ false) → index_of w (n ∷ ns) ≡ 1 + index_of w ns
      by (inl e) = absurd (other ((bytes_eq-Decides n w).0 e))
      by (inr e) = cond-false _ _ _ e

  pub index_is : (ns : List (List ℕ)) (f : ℕ) → Apart ns → f < length ns → get_or ns f [] ≡ w → index_of w ns ≡ f
  index_is [] f a h e = absurd (omega arith)
  index_is (n ∷ ns) zero a h e = cond-true _ _ _ ((bytes_eq-Decides n w).1 e)
  index_is (n ∷ ns) (suc f) a h e = step n ns (λ same. a 0 (suc f) [] (omega arith) h (same ∙ sym e)) ∙ ap (λ k. 1 + k) (index_is ns f (tail_apart n ns a) (omega arith) e) ∙ omega arith

  pub index_none : (ns : List (List ℕ)) → ((f : ℕ) → f < length ns → get_or ns f [] ≡ w → ⊥) → index_of w ns ≡ length ns
  index_none [] h = refl
  index_none (n ∷ ns) h = step n ns (λ e. h 0 (omega arith) e) ∙ ap (λ k. 1 + k) (index_none ns (λ f lt e. h (suc f) (omega arith) e)) ∙ omega arith

pub names_count : (s : Signature) → length (names_of s) ≡ (sig_of s).symbols
names_count s = length-map (symbols_of s) (λ (y : Symbol). spelled y.name)

pub number_is : (s : Signature) (w : List ℕ) (f : ℕ) → f < (sig_of s).symbols → get_or (names_of s) f [] ≡ w → number_in s w ≡ f
number_is s w f h e = index_is w (names_of s) f s.apart (omega (arith, names_count s)) e

pub symbol_found : (s : Signature) (w : List ℕ) (f a : ℕ) → f < (sig_of s).symbols → get_or (names_of s) f [] ≡ w → a ≡ (sig_of s).arity f → Some (App f a) ≡ symbol_of s w
symbol_found s w f a h e is =
    let n = number_is s w f h e in
    sym (cond-true _ _ _ (lt-ltb (number_in s w) (sig_of s).symbols (omega (arith, n))) ∙ ap (λ k. Some (App k ((sig_of s).arity k))) n ∙ ap (λ k. Some (App f k)) (sym is))

pub symbol_none : (s : Signature) (w : List ℕ) → ((f : ℕ) → f < (sig_of s).symbols → get_or (names_of s) f [] ≡ w → ⊥) → symbol_of s w ≡ None
symbol_none s w h =
    let n : number_in s w ≡ (sig_of s).symbols = index_none w (names_of s) (λ f lt. h f (omega (arith, names_count s))) ∙ names_count s in
    cond-false _ _ _ (le-ltb (number_in s w) (sig_of s).symbols (omega (arith, n)))
