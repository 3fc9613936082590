-- Reading a formula token by token: since all open parentheses of a term are alike, their number is all that must be remembered.
use Rattle.std.specs.Prelude.{ℕ, ◌+◌, ◌-◌, Bool, true, false, cond, ◌&&◌, ◌||◌, List, [], ◌∷◌, Some, None, Ok, Err, codes, Option, Result, nat_lt}
use Rattle.lexer.specs.Tokens.{Lexeme}
use Rattle.lexer.specs.Next.{end_of}
use Rattle.lexer.specs.declared.token.Kind.{Kind}
use Rattle.lexer.specs.declared.token.Kind.TheVariants.{Word, Variable, Open, Close, Comma, Dot, Equal, Unequal}
use Rattle.grammar.specs.Kinds.{same_kind, same_bytes}
use Rattle.terms.specs.declared.side.Side.{Side}
use Rattle.terms.specs.declared.side.Side.TheVariants.{Left, Right}
use Rattle.grammar.specs.declared.machine.Spot.{Spot}
use Rattle.grammar.specs.declared.machine.State.{State}
use Rattle.grammar.specs.declared.machine.State.TheVariants as state

abbrev pub expect : Bool → State → Option State
expect met s = cond met (Some s) None

abbrev pub spot : ℕ → Side → Bool → Spot
spot d x w = record { depth = d; side = x; wrapped = w }

abbrev pub is_right : Side → Bool
is_right Left = false
is_right Right = true

abbrev pub term_start : Spot → Kind → Option State
term_start s k = cond (same_kind k Variable) (Some (state.Closed s)) (expect (same_kind k Word) (state.Named s))

-- behind a term that stands in parentheses
abbrev pub inside : Spot → Kind → Option State
inside s k = cond (same_kind k Comma) (Some (state.Term s)) (expect (same_kind k Close) (state.Closed (spot (s.depth - 1) s.side s.wrapped)))

-- behind a whole side
abbrev pub outside : Spot → Kind → Option State
outside s k = cond (is_right s.side) (expect (same_kind k Close) (cond s.wrapped state.Unwrapped state.Ended)) (expect (same_kind k Equal || same_kind k Unequal) (state.Term (spot 0 Right s.wrapped)))

abbrev pub behind : Spot → Kind → Option State
behind s k = cond (nat_lt 0 s.depth) (inside s k) (outside s k)

abbrev pub next : State → Lexeme → Option State
next state.Start t = expect (same_kind t.kind Word && same_bytes t.bytes (codes "cnf")) state.Opening
next state.Opening t = expect (same_kind t.kind Open) state.Name
next state.Name t = expect (same_kind t.kind Word) state.NameComma
next state.NameComma t = expect (same_kind t.kind Comma) state.Role
next state.Role t = expect (same_kind t.kind Word) state.RoleComma
next state.RoleComma t = expect (same_kind t.kind Comma) state.Body
next state.Body t = cond (same_kind t.kind Open) (Some (state.Term (spot 0 Left true))) (term_start (spot 0 Left false) t.kind)
next (state.Term s) t = term_start s t.kind
next (state.Named s) t = cond (same_kind t.kind Open) (Some (state.Term (spot (s.depth + 1) s.side s.wrapped))) (behind s t.kind)
next (state.Closed s) t = behind s t.kind
next state.Unwrapped t = expect (same_kind t.kind Close) state.Ended
next state.Ended t = expect (same_kind t.kind Dot) state.Done
next state.Done t = None

abbrev pub is_done : State → Bool
is_done state.Start = false
is_done state.Opening = false
is_done state.Name = false
is_done state.NameComma = false
is_done state.Role = false
is_done state.RoleComma = false
is_done state.Body = false
is_done (state.Term s) = false
is_done (state.Named s) = false
is_done (state.Closed s) = false
is_done state.Unwrapped = false
is_done state.Ended = false
is_done state.Done = true

-- how deep in parentheses
abbrev pub depth_of : State → ℕ
depth_of state.Start = 0
depth_of state.Opening = 0
depth_of state.Name = 0
depth_of state.NameComma = 0
depth_of state.Role = 0
depth_of state.RoleComma = 0
depth_of state.Body = 0
depth_of (state.Term s) = s.depth
depth_of (state.Named s) = s.depth
depth_of (state.Closed s) = s.depth
depth_of state.Unwrapped = 0
depth_of state.Ended = 0
depth_of state.Done = 0

-- where a formula ends, with the tokens behind it; or the place of the first token that does not fit, or the text's length where the tokens give out
abbrev pub walk : State → ℕ → List Lexeme → ℕ → Result (ℕ × List Lexeme) ℕ
walk q e [] len = cond (is_done q) (Ok (e, [])) (Err len)
walk q e (t ∷ ts) len = cond (is_done q) (Ok (e, t ∷ ts)) (elim (next q t) [ None ↦ Err t.place | Some p ↦ walk p (end_of t) ts len ])
