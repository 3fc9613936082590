-- What holds of a session after every call.
use Rattle.std.specs.Prelude.{◌≡◌, ℕ, Some}
use Rattle.terms.specs.Term.{Term}
use Rattle.terms.specs.Sig.{Over}
use Rattle.terms.specs.Patterns.{term_of}
use Rattle.signature.specs.Signatures.{sig_of}
use Rattle.signature.specs.declared.signature.Signature.{Signature}
use Rattle.index.specs.Maps.{Map}
use Rattle.reduction.specs.declared.oriented.Oriented.{Oriented}
use Rattle.file.specs.Kept as file
use Rattle.session.specs.declared.Session.{Session}

-- an equation of the file
pub record Ordered (g : Signature) (above : Term → Term → Type 0) (e : Oriented) : Type 0 where
  pub higher_over : Over (sig_of g) (term_of e.higher)
  pub lower_over : Over (sig_of g) (term_of e.lower)
  pub turned : above (term_of e.higher) (term_of e.lower)

-- the index has the higher sides of the file's equations and no others; `stored` and `above` are the index's and the order's ghost members
pub record Kept {I O : Type 0} (stored : I → Map) (above : O → Signature → Term → Term → Type 0) (s : Session I O) : Type 0 where
  pub paired : file.Kept stored s.file
  pub ordered : (n : ℕ) (e : Oriented) → file.equations stored s.file n ≡ Some e → Ordered s.signature (above s.order s.signature) e

-- all but the file
pub record Unchanged {I O : Type 0} (s t : Session I O) : Type 0 where
  pub number : t.number ≡ s.number
  pub signature : t.signature ≡ s.signature
  pub order : t.order ≡ s.order
  pub sealed : t.sealed ≡ s.sealed
