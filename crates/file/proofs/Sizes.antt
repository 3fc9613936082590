-- The lower sides are as many as the patterns in the index.
use Rattle.std.proofs.Common.{◌≡◌, ℕ, List, length, sym, ◌∙◌}
use Rattle.lists.proofs.Counting.{once_alike}
use Rattle.index.specs.Maps.{Map, Stores}
use Rattle.entries.specs.Stored.{numbers_of, map_of}
use Rattle.entries.specs.declared.Entries.{Entries}
use Rattle.entries.proofs.Stores.{stores}
use Rattle.file.specs.Kept.{Paired}

pub sizes : {N : ℕ} (m : Map) (ns : List ℕ) (lows : Entries N) → Stores m ns → Paired m (map_of lows) → length (numbers_of lows) ≡ length ns
sizes m ns lows s k =
    let t = stores lows in
    once_alike (numbers_of lows) ns t.once s.once (λ n. (λ i. s.all n (k n ∙ t.only n i), λ i. t.all n (sym (k n) ∙ s.only n i)))
