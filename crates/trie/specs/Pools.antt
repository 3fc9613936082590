-- A tree in a pool of nodes.
use Rattle.std.specs.Prelude.{◌≡◌, ℕ, zero, suc, ◌<◌, Bool, true, false, not, ◌&&◌, ◌||◌, List, [], ◌∷◌, ◌++◌, length, get_or, Some, None, Option, ◌==◌, nat_lt, slice_index_or}
use Rattle.std.specs.Option.{unwrap_or}
use Rattle.trie.specs.declared.branch.Branch.{Branch}
use Rattle.trie.specs.Trees.{Tree, nil, node, blank, strings, places, is_trim, are_patterns}

-- the pool holds the tree, whose first node is at this place
abbrev pub Held : List Branch → Option ℕ → Tree → Type 0
Held ns o nil = o ≡ None
Held ns o (node v l d r) =
    (o ≡ Some v) × (v < length ns) × ((get_or ns v blank).label ≡ l) × Held ns (get_or ns v blank).down d × Held ns (get_or ns v blank).right r

-- places one after another, over `right` or over `down`
abbrev pub Chained : (Branch → Option ℕ) → List Branch → Option ℕ → List ℕ → Type 0
Chained next ns o [] = o ≡ None
Chained next ns o (v ∷ vs) = (o ≡ Some v) × (v < length ns) × Chained next ns (next (slice_index_or ns v blank)) vs

abbrev pub down_of : Branch → Option ℕ
down_of b = b.down

abbrev pub right_of : Branch → Option ℕ
right_of b = b.right

abbrev pub joined : ℕ → Branch → Option Tree → Option Tree → Option Tree
joined v b None r = None
joined v b (Some d) None = None
joined v b (Some d) (Some r) = Some (node v b.label d r)

-- the tree at a place, if it has no more levels than `deep`
abbrev pub grow : ℕ → List Branch → Option ℕ → Option Tree
grow deep ns None = Some nil
grow zero ns (Some v) = None
grow (suc deep) ns (Some v) = joined v (slice_index_or ns v blank) (grow deep ns (get_or ns v blank).down) (grow deep ns (get_or ns v blank).right)

abbrev pub linked : ℕ → Option (List ℕ) → Option (List ℕ)
linked v None = None
linked v (Some vs) = Some (v ∷ vs)

-- the places from one on, if they are no more than `deep`
abbrev pub chain : (Branch → Option ℕ) → ℕ → List Branch → Option ℕ → Option (List ℕ)
chain next deep ns None = Some []
chain next zero ns (Some v) = None
chain next (suc deep) ns (Some v) = linked v (chain next deep ns (next (slice_index_or ns v blank)))

abbrev pub is_in : ℕ → List ℕ → Bool
is_in v [] = false
is_in v (w ∷ ws) = v == w || is_in v ws

abbrev pub all_apart : List ℕ → Bool
all_apart [] = true
all_apart (v ∷ vs) = not (is_in v vs) && all_apart vs

abbrev pub all_below : ℕ → List ℕ → Bool
all_below n [] = true
all_below n (v ∷ vs) = nat_lt v n && all_below n vs

-- every place that was ever taken is in the tree or was given back, and is so once
abbrev pub shared_out : ℕ → List ℕ → Bool
shared_out used vs = all_apart vs && (all_below used vs && length vs == used)

abbrev pub is_kept : List Branch → ℕ → Option Tree → Option (List ℕ) → Bool
is_kept ns used None vs = false
is_kept ns used (Some t) None = false
is_kept ns used (Some t) (Some vs) = nat_lt used (suc (length ns)) && (shared_out used (places t ++ vs) && (is_trim t && are_patterns (strings t)))

abbrev pub is_sound : List Branch → Option ℕ → Option ℕ → ℕ → Bool
is_sound ns root free used = is_kept ns used (grow (length ns) ns root) (chain right_of (length ns) ns free)

abbrev pub spelled : List Branch → Option ℕ → Tree
spelled ns root = unwrap_or (grow (length ns) ns root) nil
