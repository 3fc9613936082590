-- What the entries store.
use Rattle.std.specs.Prelude.{ℕ, List}
use Rattle.row.specs.Items.{items}
use Rattle.index.specs.Maps.{Map}
use Rattle.entries.specs.Lookup.{numbers, lookup}
use Rattle.entries.specs.declared.Entry.{Entry}
use Rattle.entries.specs.declared.Entries.{Entries}

abbrev pub entries_of : {N : ℕ} → Entries N → List Entry
entries_of s = items s.entries

abbrev pub numbers_of : {N : ℕ} → Entries N → List ℕ
numbers_of s = numbers (entries_of s)

abbrev pub map_of : {N : ℕ} → Entries N → Map
map_of s = lookup (entries_of s)
