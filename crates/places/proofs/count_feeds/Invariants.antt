use Rattle.std.proofs.Common.{◌≡◌, ◌≤◌, take}
use Rattle.places.specs.Lines.{feeds}
use Rattle.places.proofs.count_feeds.Given as goal

abbrev pub invariant-loop-byte : goal.invariant-loop-byte
invariant-loop-byte l = (l.n ≡ feeds (take l.byte-index l.text)) × (l.n ≤ l.byte-index)
