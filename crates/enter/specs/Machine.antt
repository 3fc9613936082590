-- Entering without recursion: symbols that still wait for arguments, the last one first.
use Rattle.std.specs.Prelude.{◌≡◌, ℕ, ◌+◌, ◌-◌, ◌<◌, ◌≤◌, true, false, ◌⊎◌, List, [], ◌∷◌, reverse, length, take, drop, Some, None, Option, slice_set}
use Rattle.std.specs.Option.{unwrap_or}
use Rattle.std.specs.declared.ops.ControlFlow.{ControlFlow}
use Rattle.std.specs.declared.ops.ControlFlow.TheVariants.{Break, Continue}
use Rattle.lent_list.specs.Words.{First, Appended}
use Rattle.terms.specs.Term.{Terms, nil, ◌▹◌, width}
use Rattle.terms.specs.Preorder.{row, split}
use Rattle.terms.specs.declared.pattern.Node.{Node}
use Rattle.bank.specs.declared.cell.Cell.{Cell}
use Rattle.bank.specs.declared.cell.Cell.TheVariants.{App}
use Rattle.row.specs.Items.{items}
use Rattle.row.specs.declared.Row.{Row}
use Rattle.enter.specs.Enter.{Entry, note, chain, fill, blank, enter, enters}
use Rattle.enter.specs.declared.machine.Open.{Open}

-- a symbol that has no argument yet
abbrev pub fresh : ℕ → ℕ → Open
fresh f a = record { symbol = f; arity = a; args = blank; have = 0 }

-- a waiting symbol with one more argument
abbrev pub given : Open → ℕ → Open
given o v = record { symbol = o.symbol; arity = o.arity; args = slice_set o.args o.have v; have = o.have + 1 }

-- the first k of the terms ts are the arguments that o waits for; then o is entered, and after says what comes of its cell
abbrev pub entered : ℕ → List (Option ℕ) → ℕ → Open → Terms → List Cell → (ℕ → Terms → List Cell → Entry) → Entry
entered m bindings k o ts b after =
    chain (split k ts) (λ p. chain (enters m bindings p.0 b) (λ r. chain (note m (App o.symbol o.arity (fill o.args o.have r.1)) r.0) (λ q. after q.1 p.1 q.0)))

-- what comes of a finished cell v, with the terms ts still to be entered
abbrev pub after : ℕ → List (Option ℕ) → List Open → ℕ → Terms → List Cell → Entry
after m bindings [] v ts b = Some (b, v)
after m bindings (o ∷ os) v ts b = entered m bindings (o.arity - (o.have + 1)) (given o v) ts b (after m bindings os)

abbrev pub whole : ℕ → List (Option ℕ) → Terms → List Cell → Entry
whole m bindings nil b = None
whole m bindings (t ▹ ts) b = enter m bindings t b

-- what comes of the waiting symbols with the terms ts still to be entered
abbrev pub onward : ℕ → List (Option ℕ) → List Open → Terms → List Cell → Entry
onward m bindings [] ts b = whole m bindings ts b
onward m bindings (o ∷ os) ts b = entered m bindings (o.arity - o.have) o ts b (after m bindings os)

-- the terms that the nodes from place i on are the preorder of
abbrev pub forest : List Node → ℕ → Terms
forest nodes i = unwrap_or (row (drop i nodes)) nil

-- the waiting symbols, the last one first
abbrev pub opens : Row Open 32 → List Open
opens r = reverse (items r)

-- how many terms are wanted once the symbols have one more argument
abbrev pub later : List Open → ℕ
later [] = 0
later (o ∷ os) = (o.arity - (o.have + 1)) + later os

abbrev pub wanted : List Open → ℕ
wanted [] = 1
wanted (o ∷ os) = (o.arity - o.have) + later os

abbrev pub Waiting : List Open → Type 0
Waiting [] = Unit {0}
Waiting (o ∷ os) = (o.have < o.arity) × (o.arity ≤ 4) × Waiting os

-- only the top may have all its arguments
abbrev pub Sound : List Open → Type 0
Sound [] = Unit {0}
Sound (o ∷ os) = (o.have ≤ o.arity) × (o.arity ≤ 4) × Waiting os

-- a turn goes on to a state of which the same comes, or has come to the end; the bank has the cells `cells`, and n of them are counted
abbrev pub Turned : Entry → List (Option ℕ) → List Open → Terms → List Cell → ℕ → Option (ControlFlow ℕ (Unit {0})) → Type 0
Turned e bindings os ts cells n (Some (Continue _)) = Waiting os × (width ts ≡ wanted os) × (e ≡ onward (length cells) bindings os ts (take n cells))
Turned e bindings os ts cells n (Some (Break v)) = e ≡ Some (take n cells, v)
Turned e bindings os ts cells n None = e ≡ None

-- what one entry gives
abbrev pub Gives : Entry → Option ℕ → List Cell → ℕ → Type 0
Gives e (Some v) cells n = e ≡ Some (take n cells, v)
Gives e None cells n = e ≡ None

-- a cell is found among the first n cells, or appended to them, or there is no room
abbrev pub Put : List Cell → ℕ → List Cell → ℕ → Cell → Option ℕ → Type 0
Put cells n cells' n' c (Some i) =
    (First cells n c (Some i) × (cells' ≡ cells) × (n' ≡ n))
    ⊎ (First cells n c None × Appended cells n cells' n' c true × (i ≡ n))
Put cells n cells' n' c None = First cells n c None × Appended cells n cells' n' c false

-- the counted cells stay, and the count does not fall
pub record Grew (cells : List Cell) (n : ℕ) (cells' : List Cell) (n' : ℕ) : Type 0 where
  pub up : n ≤ n'
  pub within : n' ≤ length cells'
  pub size : length cells' ≡ length cells
  pub front : take n cells' ≡ take n cells
