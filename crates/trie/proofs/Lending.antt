-- Places taken and given back.
use Rattle.std.proofs.Common.{◌≡◌, ℕ, ◌+◌, ◌-◌, ◌<◌, ◌≤◌, List, [], ◌∷◌, ◌++◌, length, get_or, drop, set, Some, None, Option, sym, refl, ap, ◌∙◌, subst, inl, inr, append-nil, arith, length-drop, length-set, get_or-set_same}
use Rattle.std.proofs.lemmas.Bool.{cases_lt, cases_eq}
use Rattle.trie.specs.Contents.{labels}
use Rattle.trie.specs.declared.branch.Label.{Label}
use Rattle.trie.specs.declared.branch.Label.TheVariants.{Star}
use Rattle.trie.specs.declared.branch.Branch.{Branch}
use Rattle.trie.specs.declared.trie.rooms.Marks.{Marks}
use Rattle.trie.specs.Trees.{Tree, nil, node, blank, places}
use Rattle.trie.specs.Pools.{Held, Chained, right_of, down_of}
use Rattle.trie.specs.Taken.{count, hit, cap, Kept, Lone, Spelt, Within, Takes, hanging}
use Rattle.trie.proofs.Counting.{clash, hit_self, hit_is, hit_not, cap_below, cap_above, cap_most}
use Rattle.terms.specs.declared.pattern.Node.{Node}
use Rattle.trie.proofs.Spelling.{labels_length, labels_before}
use Rattle.trie.proofs.Growing.{chained_chain}
use Rattle.trie.proofs.Framing.{frame, frame_chain}

-- a place that is taken besides may be written
pub kept_written : (ns : List Branch) (m : Marks) (t : Tree) (v : ℕ) (out : List ℕ) (b : Branch) → Kept ns m t (v ∷ out) → Kept (set ns v b) m t (v ∷ out)
kept_written ns m t v out b k =
    let a = k.apart v in
    let one = hit_self v in
    let most = cap_most m.used v in
    let len = length-set ns v b in
    record {
      spare = k.spare;
      held = frame ns v b t m.root k.held (omega arith);
      chained = frame_chain right_of ns v b k.spare m.free k.chained (omega arith);
      apart = k.apart;
      full = k.full;
      within = omega (arith, k.within);
    }

-- a node of which `right` leads to the places given back joins them
pub kept_given : (ns : List Branch) (m m' : Marks) (t : Tree) (v : ℕ) (out : List ℕ) (b : Branch) → Kept ns m t (v ∷ out) → v < length ns → b.right ≡ m.free
    → (m'.root ≡ m.root) → (m'.free ≡ Some v) → (m'.used ≡ m.used) → Kept (set ns v b) m' t out
unfolding kept_written
kept_given ns m m' t v out b k below is root free used =
    let w = kept_written ns m t v out b k in
    let e = get_or-set_same ns v b blank below in
    let len = length-set ns v b in
    record {
      spare = v ∷ k.spare;
      held = subst (λ o. Held (set ns v b) o t) (sym root) w.held;
      chained = (free, omega arith, subst (λ o. Chained right_of (set ns v b) o k.spare) (sym (ap right_of e ∙ is)) w.chained);
      apart = λ x. let a = k.apart x in rw used (omega arith);
      full = rw used (omega (arith, k.full));
      within = rw used w.within;
    }

pub hangs_still : (ns : List Branch) (m : Marks) (t : Tree) (v : ℕ) (out : List ℕ) (b : Branch) (o : Option ℕ) → Kept ns m t (v ∷ out) → Chained down_of ns o out → Chained down_of (set ns v b) o out
hangs_still ns m t v out b o k h = let a = k.apart v in let one = hit_self v in let most = cap_most m.used v in frame_chain down_of ns v b out o h (omega arith)

-- a free place, if there is one, is a place of the pool
pub free_within : (ns : List Branch) (m : Marks) (t : Tree) (out : List ℕ) → Kept ns m t out → Within (length ns) m.free
free_within ns m t out k = at k.spare m.free k.chained
  where
    at : (vs : List ℕ) (o : Option ℕ) → Chained right_of ns o vs → Within (length ns) o
    at vs None h = tt
    at [] (Some v) h = clash cc
    at (w ∷ vs) (Some v) h = let e : v ≡ w = cc h.0 in omega (arith, h.1)

-- where no place was given back, the tree and what is taken besides are all
pub none_free : (ns : List Branch) (m : Marks) (t : Tree) (out : List ℕ) → Kept ns m t out → m.free ≡ None → length (places t) + length out ≡ m.used
none_free ns m t out k e = at k.spare k.chained k.full
  where
    at : (vs : List ℕ) → Chained right_of ns m.free vs → length (places t) + (length out + length vs) ≡ m.used → length (places t) + length out ≡ m.used
    at [] h f = omega arith
    at (v ∷ vs) h f = clash (cc h.0)

pub record Taken (ns : List Branch) (m : Marks) (t : Tree) (v : ℕ) (out : List ℕ) : Type 0 where
  pub kept : Kept ns m t (v ∷ out)
  pub below : v < length ns

next_free : (ns : List Branch) (m m' : Marks) (t : Tree) (v w : ℕ) (out : List ℕ) (k : Kept ns m t out) → m.free ≡ Some w → Takes ns m m' v (Some w)
    → (vs : List ℕ) → k.spare ≡ vs → Taken ns m' t v out
next_free ns m m' t v w out k e h [] is = clash (let z : m.free ≡ None = subst (Chained right_of ns m.free) is k.chained in cc)
next_free ns m m' t v w out k e h (u ∷ vs) is =
    let c : Chained right_of ns m.free (u ∷ vs) = subst (Chained right_of ns m.free) is k.chained in
    let same : v ≡ u = cc (h.0, c.0) in
    let less = c.1 in
    let at : w ≡ u = cc in
    let root : m'.root ≡ m.root = cc h.1 in
    let used : m'.used ≡ m.used = cc h.1 in
    let free : m'.free ≡ right_of (get_or ns u blank) = ap (λ x. x.free) h.1 ∙ ap (λ x. right_of (get_or ns x blank)) at in
    let f : length (places t) + (length out + length (u ∷ vs)) ≡ m.used = subst (λ x. length (places t) + (length out + length x) ≡ m.used) is k.full in
    let apart : (x : ℕ) → count x (places t) + (count x out + count x (u ∷ vs)) ≤ cap m.used x = subst (λ y. (x : ℕ) → count x (places t) + (count x out + count x y) ≤ cap m.used x) is k.apart in
    record {
      kept = record {
        spare = vs;
        held = subst (λ o. Held ns o t) (sym root) k.held;
        chained = subst (λ o. Chained right_of ns o vs) (sym free) c.2;
        apart = λ x. let a = apart x in rw (used, same) (omega arith);
        full = rw used (omega arith);
        within = rw used k.within;
      };
      below = omega arith;
    }

next_new : (ns : List Branch) (m m' : Marks) (t : Tree) (v : ℕ) (out : List ℕ) (k : Kept ns m t out) → m.free ≡ None → Takes ns m m' v None → m.used < length ns → Taken ns m' t v out
next_new ns m m' t v out k e h room =
    let same = h.0 in
    let root : m'.root ≡ m.root = cc h.1 in
    let used : m'.used ≡ m.used + 1 = cc h.1 in
    let free : m'.free ≡ m.free = cc h.1 in
    record {
      kept = record {
        spare = k.spare;
        held = subst (λ o. Held ns o t) (sym root) k.held;
        chained = subst (λ o. Chained right_of ns o k.spare) (sym free) k.chained;
        apart = λ x. rw used (more x);
        full = rw used (omega (arith, k.full));
        within = rw used (omega arith);
      };
      below = omega arith;
    }
  where
    more : (x : ℕ) → count x (places t) + (hit x v + count x out + count x k.spare) ≤ cap (m.used + 1) x
    more x =
        let a = k.apart x in
        let same = h.0 in
        elim (cases_eq x v) [
          | inl q ↦ let z = cap_above m.used x (omega arith) in let y = cap_below (m.used + 1) x (omega arith) in let i = hit_is x v q in omega arith
          | inr q ↦ let i = hit_not x v q in elim (cases_lt x m.used) [
            | inl l ↦ let z = cap_below m.used x l in let y = cap_below (m.used + 1) x (omega arith) in omega arith
            | inr l ↦ let z = cap_above m.used x l in omega arith
          ]
        ]

pub took : (ns : List Branch) (m m' : Marks) (t : Tree) (v : ℕ) (out : List ℕ) → Kept ns m t out → Takes ns m m' v m.free → (m.free ≡ None → m.used < length ns) → Taken ns m' t v out
took ns m m' t v out k h room = at m.free refl h
  where
    at : (o : Option ℕ) → m.free ≡ o → Takes ns m m' v o → Taken ns m' t v out
    at (Some w) e g = next_free ns m m' t v w out k e g k.spare refl
    at None e g = next_new ns m m' t v out k e g (room e)

-- one more node above those that spell the labels
pub spelt_more : (ns : List Branch) (m : Marks) (t stem : Tree) (v : ℕ) (u : List Label) (o : Option ℕ) (b : Branch) → Taken ns m t v (places stem) → Held ns o stem → Lone u stem
    → b.down ≡ o → b.right ≡ None → Spelt (set ns v b) m t (b.label ∷ u) (Some v)
spelt_more ns m t stem v u o b k h lone down right =
    let a = k.kept.apart v in
    let one = hit_self v in
    let most = cap_most m.used v in
    let e = get_or-set_same ns v b blank k.below in
    let len = length-set ns v b in
    record {
      stem = node v b.label stem nil;
      kept = subst (λ x. Kept (set ns v b) m t (v ∷ x)) (sym (append-nil (places stem))) (kept_written ns m t v (places stem) b k.kept);
      held = (
        refl,
        omega (arith, k.below),
        ap (λ x. x.label) e,
        subst (λ p. Held (set ns v b) p stem) (sym (ap down_of e ∙ down)) (frame ns v b stem o h (omega arith)),
        ap right_of e ∙ right,
      );
      lone = (refl, refl, lone);
    }

pub lone_length : (u : List Label) (t : Tree) → Lone u t → length (places t) ≡ length u
lone_length [] nil e = refl
lone_length [] (node v l d r) e = clash cc
lone_length (k ∷ u) nil e = absurd e
lone_length (k ∷ u) (node v l d r) e =
    let is : places d ++ places r ≡ places d = ap (λ x. places d ++ places x) e.1 ∙ append-nil (places d) in
    let len = ap length is in let more = lone_length u d e.2 in omega arith

-- nodes outside the tree, one below another
pub record Hanging (ns : List Branch) (m : Marks) (t : Tree) (o : Option ℕ) : Type 0 where
  pub out : List ℕ
  pub kept : Kept ns m t out
  pub hangs : Chained down_of ns o out

out_few : (ns : List Branch) (m : Marks) (t : Tree) (out : List ℕ) → Kept ns m t out → length out ≤ length ns
out_few ns m t out k = omega (arith, k.full, k.within)

pub hanging_is : (ns : List Branch) (m : Marks) (t : Tree) (o : Option ℕ) (h : Hanging ns m t o) → hanging ns o ≡ h.out
hanging_is ns m t o h = rw (chained_chain down_of ns h.out (length ns) o h.hangs (out_few ns m t h.out h.kept))

-- the first of them given back
abbrev pub loosened : List Branch → Marks → ℕ → List Branch
loosened ns m v = set ns v (record { label = (get_or ns v blank).label; down = (get_or ns v blank).down; right = m.free })

abbrev pub marks_freed : Marks → ℕ → Marks
marks_freed m v = record { root = m.root; free = Some v; used = m.used }

pub record Back (ns : List Branch) (m : Marks) (t : Tree) (v : ℕ) (n : ℕ) : Type 0 where
  pub below : v < length ns
  pub rest : Hanging (loosened ns m v) (marks_freed m v) t (get_or ns v blank).down
  pub less : length (hanging (loosened ns m v) (get_or ns v blank).down) < n

back_at : (ns : List Branch) (m : Marks) (t : Tree) (v : ℕ) (out : List ℕ) → Kept ns m t out → Chained down_of ns (Some v) out → Back ns m t v (length out)
back_at ns m t v [] k h = clash cc
back_at ns m t v (w ∷ out) k h =
    let is : v ≡ w = cc h.0 in
    let k' : Kept ns m t (v ∷ out) = subst (λ x. Kept ns m t (x ∷ out)) (sym is) k in
    let b : Branch = record { label = (get_or ns v blank).label; down = (get_or ns v blank).down; right = m.free } in
    let below : v < length ns = omega (arith, h.1) in
    let next : Chained down_of ns (get_or ns v blank).down out = subst (λ x. Chained down_of ns (down_of (get_or ns x blank)) out) (sym is) h.2 in
    let rest : Hanging (loosened ns m v) (marks_freed m v) t (get_or ns v blank).down =
    record { out = out; kept = kept_given ns m (marks_freed m v) t v out b k' below refl refl refl refl; hangs = hangs_still ns m t v out b (get_or ns v blank).down k' next } in
    let e : length (hanging (loosened ns m v) (get_or ns v blank).down) ≡ length out = ap length (hanging_is (loosened ns m v) (marks_freed m v) t (get_or ns v blank).down rest) in
    record { below = below; rest = rest; less = omega arith }

pub back : (ns : List Branch) (m : Marks) (t : Tree) (v : ℕ) (o : Option ℕ) → o ≡ Some v → Hanging ns m t o → Back ns m t v (length (hanging ns o))
back ns m t v o e h =
    subst (Back ns m t v) (ap length (sym (hanging_is ns m t o h))) (back_at ns m t v h.out h.kept (subst (λ x. Chained down_of ns x h.out) e h.hangs))

pub all_back : (ns : List Branch) (m : Marks) (t : Tree) (o : Option ℕ) → o ≡ None → Hanging ns m t o → Kept ns m t []
all_back ns m t o e h = at h.out h.kept h.hangs
  where
    at : (out : List ℕ) → Kept ns m t out → Chained down_of ns o out → Kept ns m t []
    at [] k c = k
    at (v ∷ out) k c = clash (cc c.0)

-- there is a place for one node more
pub room_left : (ns : List Branch) (m : Marks) (t : Tree) (row : List Node) (n i at : ℕ) (o : Option ℕ) → Spelt ns m t (drop i (labels row n)) o
    → length (places t) + (length row + 1 - at) ≤ length ns → at < i → i ≤ length row + 1 → m.free ≡ None → m.used < length ns
room_left ns m t row n i at o s room more within e =
    let a = none_free ns m t (places s.stem) s.kept e in
    let b = lone_length (drop i (labels row n)) s.stem s.lone in
    let c = length-drop i (labels row n) in
    let d = labels_length row n in
    omega arith

pub spell_on : (ns : List Branch) (m m' : Marks) (t : Tree) (row : List Node) (n i at v : ℕ) (o : Option ℕ) (s : Spelt ns m t (drop i (labels row n)) o)
    → length (places t) + (length row + 1 - at) ≤ length ns → at < i → i ≤ length row + 1 → Takes ns m m' v m.free → Taken ns m' t v (places s.stem)
spell_on ns m m' t row n i at v o s room more within h = took ns m m' t v (places s.stem) s.kept h (room_left ns m t row n i at o s room more within)

pub spell_again : (ns : List Branch) (m : Marks) (t : Tree) (row : List Node) (n i v : ℕ) (l : Label) (o : Option ℕ) (s : Spelt ns m t (drop i (labels row n)) o) → (m' : Marks)
    → Taken ns m' t v (places s.stem) → 0 < i → i ≤ length row + 1 → l ≡ get_or (labels row n) (i - 1) Star
    → Spelt (set ns v (record { label = l; down = o; right = None })) m' t (drop (i - 1) (labels row n)) (Some v)
spell_again ns m t row n i v l o s m' k pos within is =
    let len = labels_length row n in
    let e : drop (i - 1) (labels row n) ≡ l ∷ drop i (labels row n) = labels_before (labels row n) i pos (omega arith) ∙ ap (λ x. x ∷ drop i (labels row n)) (sym is) in
    let b : Branch = record { label = l; down = o; right = None } in
    subst (λ u. Spelt (set ns v b) m' t u (Some v)) (sym e) (spelt_more ns m' t s.stem v (drop i (labels row n)) o b k s.held s.lone refl refl)
