-- Lines and columns of a text.
use Rattle.std.specs.Prelude.{◌≡◌, ℕ, ◌+◌, ◌-◌, ◌<◌, ◌≤◌, ◌⊎◌, List, count_by, length, take, ◌==◌, ◌≢◌, slice_index}
use Rattle.places.specs.declared.Place.{Place}

-- 10 is the line feed
abbrev pub feeds : List ℕ → ℕ
feeds bs = count_by (λ b. b == 10) bs

-- from one place up to another there is no line feed
abbrev pub Plain : List ℕ → ℕ → ℕ → Type 0
Plain text from to = (k : ℕ) → from ≤ k → k < to → slice_index text k ≢ 10

-- the line on which a place lies begins here
pub record Starts (text : List ℕ) (at start : ℕ) : Type 0 where
  pub before : start ≤ at
  pub behind : (start ≡ 0) ⊎ (slice_index text (start - 1) ≡ 10)
  pub plain : Plain text start at

-- the line on which a place lies ends here
pub record Ends (text : List ℕ) (at end : ℕ) : Type 0 where
  pub after : at ≤ end
  pub within : end ≤ length text
  pub ahead : (end ≡ length text) ⊎ (slice_index text end ≡ 10)
  pub plain : Plain text at end

pub record Placed (text : List ℕ) (byte : ℕ) (p : Place) : Type 0 where
  pub inside : byte ≤ length text
  pub line : p.line ≡ 1 + feeds (take byte text)
  pub column : p.column ≡ byte - p.start + 1
  pub starts : Starts text byte p.start
  pub ends : Ends text byte p.end

pub record OnLine (text : List ℕ) (line : ℕ) (p : Place) : Type 0 where
  pub byte : ℕ
  pub placed : Placed text byte p
  pub same : p.line ≡ line
