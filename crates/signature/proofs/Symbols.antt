-- What the symbols of a signature have: read one by one, and for every number.
use Rattle.std.proofs.Common.{◌≡◌, ℕ, zero, suc, true, false, ◌<◌, ◌≤◌, List, [], ◌∷◌, map, length, get_or, sym, refl, ap, ◌∙◌, arith, length-take, ◌≢◌}
use mathlib.Core.Bool.{true≢false}
use Rattle.std.specs.List.{list_any}
use Rattle.std.specs.Str.{bytes_eq}
use Rattle.std.proofs.lemmas.List.Folds.{Any-from_list_any, list_any_at}
use Rattle.std.proofs.lemmas.Slice.Eq.{bytes_eq-Decides}
use Rattle.std.proofs.lemmas.List.{get_or-map, length-map}
use Rattle.signature.specs.Lines.{names, spelled, Absent}
use Rattle.signature.specs.Signatures.{symbols_of, sig_of}
use Rattle.signature.specs.declared.symbol.Symbol.{Symbol}
use Rattle.signature.specs.declared.signature.Signature.{Signature}

pub symbols_count : (s : Signature) → length (symbols_of s) ≡ (sig_of s).symbols
symbols_count s = refl

-- a symbol's name, where its number is known
name_at : (ss : List Symbol) (k : ℕ) → k < length ss → (y : Symbol) × (get_or (names ss) k [] ≡ spelled (get_or ss k y).name)
name_at [] k h = absurd (omega arith)
name_at (y ∷ ys) k h = (y, get_or-map (λ (z : Symbol). spelled z.name) (y ∷ ys) k y [] h)

pub named_at : (ss : List Symbol) (k : ℕ) (n : List ℕ) → k < length ss → ((y : Symbol) → spelled (get_or ss k y).name ≡ n) → get_or (names ss) k [] ≡ n
named_at ss k n h e = let at = name_at ss k h in at.1 ∙ e at.0

pub unnamed_at : (ss : List Symbol) (k : ℕ) (n : List ℕ) → k < length ss → ((y : Symbol) → spelled (get_or ss k y).name ≢ n) → get_or (names ss) k [] ≢ n
unnamed_at ss k n h e x = let at = name_at ss k h in e at.0 (sym at.1 ∙ x)

-- whether one of some symbols has a name
pub taken_at : (ss : List Symbol) (n : List ℕ) → list_any (λ (y : Symbol). bytes_eq (spelled y.name) n) ss ≡ true → (k : ℕ) × (k < length ss) × (get_or (names ss) k [] ≡ n)
taken_at ss n h =
    let at = Any-from_list_any (λ (y : Symbol). bytes_eq (spelled y.name) n) ss h in
    (at.0, at.2, get_or-map (λ (y : Symbol). spelled y.name) ss at.0 at.1 [] at.2 ∙ ap (λ (y : Symbol). spelled y.name) at.3 ∙ (bytes_eq-Decides (spelled at.1.name) n).0 at.4)

pub free : (ss : List Symbol) (n : List ℕ) → list_any (λ (y : Symbol). bytes_eq (spelled y.name) n) ss ≡ false → Absent n (names ss)
free ss n h k within =
    let low : k < length ss = omega (arith, within, length-map ss (λ (y : Symbol). spelled y.name)) in
    unnamed_at ss k n low (λ y e. true≢false (sym (list_any_at (λ (z : Symbol). bytes_eq (spelled z.name) n) ss k y low ((bytes_eq-Decides (spelled (get_or ss k y).name) n).1 e)) ∙ h))

each : (P : ℕ → Type 0) (f : Symbol → ℕ) (d : ℕ) → P d → ((y : Symbol) → P (f y)) → (ss : List Symbol) (at : ℕ) → P (get_or (map f ss) at d)
each P f d past here [] at = past
each P f d past here (y ∷ ys) zero = here y
each P f d past here (y ∷ ys) (suc at) = each P f d past here ys at

pub arity_within : (s : Signature) (f : ℕ) → (sig_of s).arity f ≤ 4
arity_within s f = each (λ a. a ≤ 4) (λ y. y.arity) 0 (omega arith) (λ y. y.arity_most) (symbols_of s) f

pub weight_some : (s : Signature) (f : ℕ) → 1 ≤ (sig_of s).weight f
weight_some s f = each (λ w. 1 ≤ w) (λ y. y.weight) 1 (omega arith) (λ y. y.weight_least) (symbols_of s) f

pub weight_within : (s : Signature) (f : ℕ) → (sig_of s).weight f ≤ 100
weight_within s f = each (λ w. w ≤ 100) (λ y. y.weight) 1 (omega arith) (λ y. y.weight_most) (symbols_of s) f

pub symbols_few : (s : Signature) → (sig_of s).symbols ≤ 64
symbols_few s = omega (arith, length-take s.symbols.len s.symbols.cells, s.symbols.within)
