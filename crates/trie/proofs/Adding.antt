-- A tree with one row more than another.
use Rattle.std.proofs.Common.{◌≡◌, ℕ, suc, true, false, not, ◌⊎◌, List, [], ◌∷◌, ◌++◌, map, length, sym, refl, ap, ◌∙◌, subst, inl, inr, ⊎_elim, append-nil, arith, length-append}
use Rattle.std.proofs.lemmas.List.{length-map}
use Rattle.std.proofs.lemmas.Bool.{and_parts, and_from, true≢false}
use Rattle.lists.specs.Members.{In}
use Rattle.lists.proofs.Members.{in_left, in_right, in_parts, in_map, from_map}
use Rattle.trie.specs.declared.branch.Label.{Label}
use Rattle.trie.specs.declared.branch.Label.TheVariants.{Star, Symbol, Number}
use Rattle.trie.specs.Trees.{Tree, nil, node, below, strings, heads, same_label, none_same, is_nil, is_number, ends_well, is_trim}
use Rattle.trie.specs.Ways.{Way, here, down, right, plug, Beside, Along}
use Rattle.trie.specs.Taken.{Lone}
use Rattle.trie.proofs.Labels.{other_label, no_row, apart_sym, trim_parts, trim_from}
use Rattle.trie.proofs.Spelling.{Row}

-- ys has the row u, which xs lacks, and else the same rows
pub record More (u : List Label) (xs ys : List (List Label)) : Type 0 where
  pub out : In u xs → ⊥
  pub all : (w : List Label) → (In w ys → (w ≡ u) ⊎ In w xs) × ((w ≡ u) ⊎ In w xs → In w ys)
  pub more : length ys ≡ suc (length xs)

pub more_cons : (u : List Label) (xs : List (List Label)) → (In u xs → ⊥) → More u xs (u ∷ xs)
more_cons u xs out = record { out = out; all = λ w. (λ h. h, λ h. h); more = refl }

more_map : (l : Label) (u : List Label) (xs ys : List (List Label)) → More u xs ys → More (l ∷ u) (map (λ s. l ∷ s) xs) (map (λ s. l ∷ s) ys)
more_map l u xs ys m =
    record {
      out = λ h. let r = from_map (λ s. l ∷ s) (l ∷ u) xs h in let e : r.of ≡ u = cc r.is in m.out (subst (λ z. In z xs) e r.member);
      all = λ w. (
        λ h. let r = from_map (λ s. l ∷ s) w ys h in
            elim ((m.all r.of).0 r.member) [
              | inl e ↦ inl (r.is ∙ ap (λ s. l ∷ s) e)
              | inr k ↦ inr (subst (λ z. In z (map (λ s. l ∷ s) xs)) (sym r.is) (in_map (λ s. l ∷ s) r.of xs k))
            ],
        λ h. elim h [
          | inl e ↦ subst (λ z. In z (map (λ s. l ∷ s) ys)) (sym e) (in_map (λ s. l ∷ s) u ys ((m.all u).1 (inl refl)))
          | inr k ↦ let r = from_map (λ s. l ∷ s) w xs k in subst (λ z. In z (map (λ s. l ∷ s) ys)) (sym r.is) (in_map (λ s. l ∷ s) r.of ys ((m.all r.of).1 (inr r.member)))
        ],
      );
      more = let a = length-map xs (λ s. l ∷ s) in let b = length-map ys (λ s. l ∷ s) in omega (arith, m.more);
    }

more_append : (u : List Label) (xs ys zs : List (List Label)) → More u xs ys → (In u zs → ⊥) → More u (xs ++ zs) (ys ++ zs)
more_append u xs ys zs m absent =
    record {
      out = λ h. ⊎_elim m.out absent (in_parts u xs zs h);
      all = λ w. (
        λ h. elim (in_parts w ys zs h) [
          | inl k ↦ elim ((m.all w).0 k) [ inl e ↦ inl e | inr j ↦ inr (in_left w xs zs j) ]
          | inr k ↦ inr (in_right w xs zs k)
        ],
        λ h. elim h [
          | inl e ↦ in_left w ys zs ((m.all w).1 (inl e))
          | inr k ↦ elim (in_parts w xs zs k) [ inl j ↦ in_left w ys zs ((m.all w).1 (inr j)) | inr j ↦ in_right w ys zs j ]
        ],
      );
      more = let a = length-append xs zs in let b = length-append ys zs in omega (arith, m.more);
    }

more_before : (u : List Label) (xs ys zs : List (List Label)) → More u xs ys → (In u zs → ⊥) → More u (zs ++ xs) (zs ++ ys)
more_before u xs ys zs m absent =
    record {
      out = λ h. ⊎_elim absent m.out (in_parts u zs xs h);
      all = λ w. (
        λ h. elim (in_parts w zs ys h) [
          | inl k ↦ inr (in_left w zs xs k)
          | inr k ↦ elim ((m.all w).0 k) [ inl e ↦ inl e | inr j ↦ inr (in_right w zs xs j) ]
        ],
        λ h. elim h [
          | inl e ↦ in_right w zs ys ((m.all w).1 (inl e))
          | inr k ↦ elim (in_parts w zs xs k) [ inl j ↦ in_left w zs ys j | inr j ↦ in_right w zs ys ((m.all w).1 (inr j)) ]
        ],
      );
      more = let a = length-append zs xs in let b = length-append zs ys in omega (arith, m.more);
    }

-- rows below a node that is no row's end
pub below_plain : (l : Label) (ss : List (List Label)) → is_number l ≡ false → below l ss ≡ map (λ s. l ∷ s) ss
below_plain Star ss e = refl
below_plain (Symbol f a) ss e = refl
below_plain (Number n) ss e = absurd (true≢false e)

more_below : (l : Label) (u : List Label) (xs ys : List (List Label)) → is_number l ≡ false → More u xs ys → More (l ∷ u) (below l xs) (below l ys)
more_below l u xs ys plain m = rw (below_plain l xs plain, below_plain l ys plain) (more_map l u xs ys m)

pub more_plug : (w : Way) (u s : List Label) (t t' : Tree) → Along w u s → More u (strings t) (strings t') → More s (strings (plug w t)) (strings (plug w t'))
more_plug here u s t t' a m = subst (λ z. More z (strings t) (strings t')) a m
more_plug (down v l r w) u s t t' a m =
    more_plug w (l ∷ u) s (node v l t r) (node v l t' r) a.2
    (more_append (l ∷ u) (below l (strings t)) (below l (strings t')) (strings r) (more_below l u (strings t) (strings t') a.0 m) (no_row l r u a.1))
more_plug (right v l d w) [] s t t' a m = absurd a.0
more_plug (right v l d w) (k ∷ u) s t t' a m =
    more_plug w (k ∷ u) s (node v l d t) (node v l d t') a.1
    (more_before (k ∷ u) (strings t) (strings t') (below l (strings d)) m (other_label k l (strings d) u a.0))

-- t' may stand in the place of t, where no label beside it is the first of u
pub record Replaces (u : List Label) (t t' : Tree) : Type 0 where
  pub keeps : is_trim t ≡ true → is_trim t' ≡ true
  pub apart : (l : Label) → Beside l u → none_same l (heads t) ≡ true → none_same l (heads t') ≡ true

-- right below a node something has to stand
abbrev pub Upright : Way → Tree → Type 0
Upright here t = Unit {0}
Upright (down v l r w) t = is_nil t ≡ false
Upright (right v l d w) t = Unit {0}

upright_node : (w : Way) (v : ℕ) (l : Label) (d r : Tree) → Upright w (node v l d r)
upright_node here v l d r = tt
upright_node (down x k q w) v l d r = refl
upright_node (right x k q w) v l d r = tt

pub ends_plain : (l : Label) (t : Tree) → is_number l ≡ false → is_nil t ≡ false → ends_well l t ≡ true
ends_plain Star t plain e = rw e
ends_plain (Symbol f a) t plain e = rw e
ends_plain (Number n) t plain e = absurd (true≢false plain)

pub replaces_plug : (w : Way) (u s : List Label) (t t' : Tree) → Along w u s → Upright w t' → Replaces u t t' → Replaces s (plug w t) (plug w t')
replaces_plug here u s t t' a up r = subst (λ z. Replaces z t t') a r
replaces_plug (down v l r w) u s t t' a up rep =
    replaces_plug w (l ∷ u) s (node v l t r) (node v l t' r) a.2 (upright_node w v l t' r)
    (record {
      keeps = λ e. let p = trim_parts v l t r e in
          trim_from v l t' r (record { ends = ends_plain l t' a.0 up; none = p.none; down = rep.keeps p.down; right = p.right });
      apart = λ k b e. e;
    })
replaces_plug (right v l d w) [] s t t' a up rep = absurd a.0
replaces_plug (right v l d w) (k ∷ u) s t t' a up rep =
    replaces_plug w (k ∷ u) s (node v l d t) (node v l d t') a.1 (upright_node w v l d t')
    (record {
      keeps = λ e. let p = trim_parts v l d t e in
          trim_from v l d t' (record { ends = p.ends; none = rep.apart l a.0 p.none; down = p.down; right = rep.keeps p.right });
      apart = λ j b e. let p = and_parts (not (same_label j l)) (none_same j (heads t)) e in
          and_from (not (same_label j l)) (none_same j (heads t')) p.0 (rep.apart j b p.1);
    })

-- what is left of a row along a way is a row
pub along_row : (w : Way) (u s : List Label) → Along w u s → Row s → Row u
along_row here u s a h = subst Row (sym a) h
along_row (down v l r w) u s a h = tail u (along_row w (l ∷ u) s a.2 h)
  where
    tail : (x : List Label) → Row (l ∷ x) → Row x
    tail [] k = absurd (true≢false (sym k ∙ a.0))
    tail (j ∷ x) k = k.1
along_row (right v l d w) u s a h = along_row w u s a.1 h

-- nodes one below another spell one row
pub lone_strings : (u : List Label) (t : Tree) → Row u → Lone u t → strings t ≡ u ∷ []
lone_strings [] t h e = absurd h
lone_strings (k ∷ u) nil h e = absurd e
lone_strings (k ∷ []) (node v l d r) h e = ap (λ x. below x (strings d) ++ strings r) e.0 ∙ ap (λ x. below k (strings d) ++ strings x) e.1 ∙ last k h (strings d)
  where
    last : (j : Label) → is_number j ≡ true → (ss : List (List Label)) → below j ss ++ [] ≡ (j ∷ []) ∷ []
    last Star q ss = absurd (true≢false (sym q))
    last (Symbol f a) q ss = absurd (true≢false (sym q))
    last (Number n) q ss = refl
lone_strings (k ∷ (j ∷ u)) (node v l d r) h e =
    ap (λ x. below x (strings d) ++ strings r) e.0 ∙ ap (λ x. below k (strings d) ++ strings x) e.1 ∙ append-nil (below k (strings d)) ∙ below_plain k (strings d) h.0
    ∙ ap (map (λ s. k ∷ s)) (lone_strings (j ∷ u) d h.1 e.2)

lone_solid : (k : Label) (u : List Label) (t : Tree) → Lone (k ∷ u) t → is_nil t ≡ false
lone_solid k u nil e = absurd e
lone_solid k u (node v l d r) e = refl

lone_ends : (k : Label) (u : List Label) (d : Tree) → Row (k ∷ u) → Lone u d → ends_well k d ≡ true
lone_ends k [] d h e = rw e (number k h)
  where
    number : (j : Label) → is_number j ≡ true → ends_well j nil ≡ true
    number Star q = absurd (true≢false (sym q))
    number (Symbol f a) q = absurd (true≢false (sym q))
    number (Number n) q = refl
lone_ends k (j ∷ u) d h e = ends_plain k d h.0 (lone_solid j u d e)

lone_node : (k : Label) (u : List Label) (v : ℕ) (l : Label) (d r : Tree) → Row (k ∷ u) → Lone (k ∷ u) (node v l d r) → is_trim d ≡ true → is_trim (node v l d r) ≡ true
lone_node k u v l d r h e deep =
    trim_from v l d r
    (record {
      ends = subst (λ x. ends_well x d ≡ true) (sym e.0) (lone_ends k u d h e.2);
      none = subst (λ x. none_same l (heads x) ≡ true) (sym e.1) refl;
      down = deep;
      right = subst (λ x. is_trim x ≡ true) (sym e.1) refl;
    })

pub lone_trim : (u : List Label) (t : Tree) → Row u → Lone u t → is_trim t ≡ true
lone_trim [] t h e = absurd h
lone_trim (k ∷ u) nil h e = absurd e
lone_trim (k ∷ []) (node v l d r) h e = lone_node k [] v l d r h e (subst (λ x. is_trim x ≡ true) (sym e.2) refl)
lone_trim (k ∷ (j ∷ u)) (node v l d r) h e = lone_node k (j ∷ u) v l d r h e (lone_trim (j ∷ u) d h.1 e.2)

lone_apart : (u : List Label) (t : Tree) (l : Label) → Lone u t → Beside l u → none_same l (heads t) ≡ true
lone_apart [] t l e b = absurd b
lone_apart (k ∷ u) nil l e b = absurd e
lone_apart (k ∷ u) (node v j d r) l e b =
    and_from (not (same_label l j)) (none_same l (heads r))
    (subst (λ x. not (same_label l x) ≡ true) (sym e.0) (ap not (apart_sym k l b)))
    (subst (λ x. none_same l (heads x) ≡ true) (sym e.1) refl)

-- nodes that spell what is left of a row, at the place where it is missing
pub record Grown (s : List Label) (t t' : Tree) : Type 0 where
  pub more : More s (strings t) (strings t')
  pub trim : is_trim t ≡ true → is_trim t' ≡ true

pub grown : (w : Way) (u s : List Label) (stem : Tree) → Along w u s → Row s → Lone u stem → Grown s (plug w nil) (plug w stem)
grown w u s stem a row lone =
    let h = along_row w u s a row in
    record {
      more = more_plug w u s nil stem a (subst (More u []) (sym (lone_strings u stem h lone)) (more_cons u [] (λ z. z)));
      trim = (replaces_plug w u s nil stem a (stands w u stem lone h) (record { keeps = λ e. lone_trim u stem h lone; apart = λ l b e. lone_apart u stem l lone b })).keeps;
    }
  where
    solid : (x : List Label) (t : Tree) → Lone x t → Row x → is_nil t ≡ false
    solid [] t e r = absurd r
    solid (k ∷ x) t e r = lone_solid k x t e

    stands : (y : Way) (x : List Label) (t : Tree) → Lone x t → Row x → Upright y t
    stands here x t e r = tt
    stands (down v l q y) x t e r = solid x t e r
    stands (right v l q y) x t e r = tt
