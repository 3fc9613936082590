-- What adding and removing promise of the session s before the call and t after it.
use Rattle.std.specs.Prelude.{ℕ, List, is_ok, Result}
use Rattle.refusal.specs.declared.Refusal.{Refusal}
use Rattle.terms.specs.Term.{Term}
use Rattle.signature.specs.declared.signature.Signature.{Signature}
use Rattle.index.specs.Maps.{Map}
use Rattle.file.specs.Kept.{equations}
use Rattle.session.specs.Kept.{Kept, Unchanged}
use Rattle.session.specs.Calls.{Added, Removed, state_of}
use Rattle.session.specs.Pasts.{Continues, add, remove}
use Rattle.session.specs.declared.Session.{Session}

-- `stored`, `numbers` and `above` are ghost members of the index and the order
pub record Adds {I O : Type 0} (stored : I → Map) (numbers : I → List ℕ) (above : O → Signature → Term → Term → Type 0) (capacity : ℕ) (s : Session I O) (n : ℕ) (text : List ℕ) (r : Result (Unit {0}) Refusal) (t : Session I O) : Type 0 where
  pub unchanged : Unchanged s t
  pub added : Kept stored above s → Added (above s.order s.signature) capacity (state_of stored numbers s) n text (equations stored t.file) r
  pub kept : Kept stored above s → Kept stored above t
  pub past : Kept stored above s → Continues s.signature (above s.order s.signature) (equations stored s.file) (add n text) (is_ok r) (equations stored t.file)

pub record Removes {I O : Type 0} (stored : I → Map) (numbers : I → List ℕ) (above : O → Signature → Term → Term → Type 0) (s : Session I O) (n : ℕ) (r : Result (Unit {0}) Refusal) (t : Session I O) : Type 0 where
  pub unchanged : Unchanged s t
  pub removed : Kept stored above s → Removed (state_of stored numbers s) n (equations stored t.file) r
  pub kept : Kept stored above s → Kept stored above t
  pub past : Kept stored above s → Continues s.signature (above s.order s.signature) (equations stored s.file) (remove n) (is_ok r) (equations stored t.file)
