-- The parts of a tree in its pool: below a node and right of it.
use Rattle.std.proofs.Common.{◌≡◌, ℕ, ◌+◌, ◌-◌, ◌≤◌, true, false, not, List, [], ◌∷◌, ◌++◌, length, get_or, Some, Option, unwrap_or, sym, refl, ap, ◌∙◌, subst, inl, arith, length-append}
use Rattle.std.proofs.lemmas.Bool.{true≢false}
use Rattle.lists.specs.Members.{In}
use Rattle.lists.proofs.Members.{in_left, in_right, in_map}
use Rattle.trie.specs.declared.branch.Label.{Label}
use Rattle.trie.specs.declared.branch.Label.TheVariants.{Star, Symbol, Number}
use Rattle.trie.specs.declared.branch.Branch.{Branch}
use Rattle.trie.specs.Trees.{Tree, nil, node, blank, strings, places, below, is_number, is_nil, is_trim}
use Rattle.trie.specs.Pools.{spelled}
use Rattle.trie.proofs.Growing.{held_grow}
use Rattle.trie.proofs.Labels.{trim_parts}
use Rattle.discrimination.specs.Cells.{wants, Room}
use Rattle.discrimination.specs.Frames.{Part}
use Rattle.discrimination.proofs.Spelling.{Stepped, Arity, spells_step, spells_wide, none_some}

not_nil : (T : Tree) → not (is_nil T) ≡ true → is_nil T ≡ false
not_nil nil e = absurd (true≢false (sym e))
not_nil (node v l d r) e = refl

pub in_below : (l : Label) (s : List Label) (ss : List (List Label)) → is_number l ≡ false → In s ss → In (l ∷ s) (below l ss)
in_below Star s ss e h = in_map (λ u. Star ∷ u) s ss h
in_below (Symbol f a) s ss e h = in_map (λ u. Symbol f a ∷ u) s ss h
in_below (Number n) s ss e h = absurd (true≢false e)

-- a trim tree that is not empty has a row
pub some_row : (T : Tree) → is_nil T ≡ false → is_trim T ≡ true → (s : List Label) × In s (strings T)
some_row nil e h = absurd (true≢false e)
some_row (node v Star d r) e h =
    let p = trim_parts v Star d r h in
    let q = some_row d (not_nil d p.ends) p.down in
    (Star ∷ q.0, in_left (Star ∷ q.0) (below Star (strings d)) (strings r) (in_below Star q.0 (strings d) refl q.1))
some_row (node v (Symbol f a) d r) e h =
    let p = trim_parts v (Symbol f a) d r h in
    let q = some_row d (not_nil d p.ends) p.down in
    (Symbol f a ∷ q.0, in_left (Symbol f a ∷ q.0) (below (Symbol f a) (strings d)) (strings r) (in_below (Symbol f a) q.0 (strings d) refl q.1))
some_row (node v (Number n) d r) e h = (Number n ∷ [], inl refl)

has_below : (v : ℕ) (l : Label) (d r : Tree) → is_number l ≡ false → is_trim (node v l d r) ≡ true → is_nil d ≡ false
has_below v Star d r e h = not_nil d (trim_parts v Star d r h).ends
has_below v (Symbol f a) d r e h = not_nil d (trim_parts v (Symbol f a) d r h).ends
has_below v (Number n) d r e h = absurd (true≢false e)

-- the pool spells what it holds
pub spelled_held : (ns : List Branch) (o : Option ℕ) (T : Tree) (m k : ℕ) → Part ns o T m k → spelled ns o ≡ T
spelled_held ns o T m k p = ap (λ x. unwrap_or x nil) (held_grow ns T (length ns) o p.held p.within)

room_of : (l : Label) (m k : ℕ) → m ≤ 32 → Arity l → wants l k ≤ m → Room l k
room_of Star m k h a w = tt
room_of (Symbol f a) m k h s w = (s, omega arith)
room_of (Number n) m k h a w = tt

module _ {ns : List Branch} {o : Option ℕ} {v : ℕ} {l : Label} {d r : Tree} {m k : ℕ} (p : Part ns o (node v l d r) m k) where
  sizes : length (places d ++ places r) ≡ length (places d) + length (places r)
  sizes = length-append (places d) (places r)

  pub right_part : Part ns (get_or ns v blank).right r m k
  right_part = record {
    held = p.held.4;
    within = let z = sizes in omega (arith, p.within);
    trim = (trim_parts v l d r p.trim).right;
    rows = λ s h. p.rows s (in_right s (below l (strings d)) (strings r) h);
  }

  module _ (e : is_number l ≡ false) where
    step : (s : List Label) → In s (strings d) → Stepped l m k s
    step s h = spells_step l m k s e (p.rows (l ∷ s) (in_left (l ∷ s) (below l (strings d)) (strings r) (in_below l s (strings d) e h)))

    one : Stepped l m k (some_row d (has_below v l d r e p.trim) (trim_parts v l d r p.trim).down).0
    one = let s = some_row d (has_below v l d r e p.trim) (trim_parts v l d r p.trim).down in step s.0 s.1

    pub down_deeper : 1 ≤ m
    down_deeper = one.deeper

    pub down_part : Part ns (get_or ns v blank).down d (m - 1) (wants l k)
    down_part = record {
      held = p.held.3;
      within = let z = sizes in omega (arith, p.within);
      trim = (trim_parts v l d r p.trim).down;
      rows = λ s h. (step s h).rest;
    }

    pub down_room : m ≤ 32 → Room l k
    down_room h = room_of l m k h one.arity (let w = spells_wide one.rest in omega arith)

pub label_room : (l : Label) {ns : List Branch} {o : Option ℕ} {v : ℕ} {d r : Tree} {m k : ℕ} → Part ns o (node v l d r) m k → m ≤ 32 → Room l k
label_room Star p h = tt
label_room (Symbol f a) p h = down_room p refl h
label_room (Number n) p h = tt

-- a place holds a node
pub record Top (ns : List Branch) (v : ℕ) (T : Tree) (m k : ℕ) : Type 0 where
  pub down : Tree
  pub right : Tree
  pub is : T ≡ node v (get_or ns v blank).label down right
  pub part : Part ns (Some v) (node v (get_or ns v blank).label down right) m k

pub top_of : (ns : List Branch) (v : ℕ) (T : Tree) (m k : ℕ) → Part ns (Some v) T m k → Top ns v T m k
top_of ns v nil m k p = absurd (none_some (sym p.held))
top_of ns v (node w l d r) m k p =
    let same : w ≡ v = let h = p.held.0 in cc in
    let label : l ≡ (get_or ns v blank).label = sym p.held.2 ∙ ap (λ u. (get_or ns u blank).label) same in
    let is : node w l d r ≡ node v (get_or ns v blank).label d r = ap (λ u. node u l d r) same ∙ ap (λ j. node v j d r) label in
    record { down = d; right = r; is = is; part = subst (λ T. Part ns (Some v) T m k) is p }
