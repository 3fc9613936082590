-- What a run wants of a file.
use Rattle.std.proofs.Common.{◌≡◌, ℕ, Some}
use Rattle.terms.specs.Sig.{Sig, Over}
use Rattle.terms.specs.Patterns.{term_of}
use Rattle.index.specs.Maps.{Map}
use Rattle.reduction.specs.declared.oriented.Oriented.{Oriented}
use Rattle.apply.specs.Applies.{Filed}
use Rattle.file.specs.Kept.{Paired, equations_of}
use Rattle.file.proofs.Pairs.{joined_higher, joined_lower}

pub filed : (S : Sig) (m low : Map) → Paired m low → ((n : ℕ) (e : Oriented) → equations_of m low n ≡ Some e → Over S (term_of e.higher) × Over S (term_of e.lower))
    → Filed S (equations_of m low) m low
filed S m low k over = record { higher = λ n. joined_higher (m n) (low n) (k n); lower = λ n. joined_lower (m n) (low n) (k n); over = over }
