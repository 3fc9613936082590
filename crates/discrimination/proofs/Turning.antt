-- One turn of the walk.
use Rattle.std.proofs.Common.{◌≡◌, ℕ, suc, ◌+◌, ◌-◌, ◌<◌, ◌≤◌, false, List, [], ◌∷◌, ◌++◌, length, get_or, take, Some, None, Option, sym, refl, ap, ◌∙◌, subst, ap₂, append_assoc, arith, length-append}
use Rattle.bank.specs.declared.cell.Cell.{Cell}
use Rattle.trie.specs.declared.branch.Label.{Label}
use Rattle.trie.specs.declared.branch.Label.TheVariants.{Star, Symbol, Number}
use Rattle.trie.specs.declared.branch.Branch.{Branch}
use Rattle.trie.specs.Trees.{Tree, nil, node, blank, places, is_number}
use Rattle.trie.specs.Pools.{Held}
use Rattle.discrimination.specs.declared.agenda.Frame.{Frame}
use Rattle.discrimination.specs.Cells.{Pending, after_cells, ended_cells, scanned, cells_of, wants, Room, Rest}
use Rattle.discrimination.specs.Frames.{laid, tree_at, Part, Ready, todo, weight, total, Turned, Noted}
use Rattle.discrimination.proofs.Noting.{take_twice}
use Rattle.discrimination.proofs.Spelling.{none_some}
use Rattle.discrimination.proofs.Parts.{spelled_held, right_part, down_part, down_deeper, label_room, Top, top_of}

ready_length : (ns : List Branch) (k : ℕ) (fs : List Frame) → Ready ns k fs → length fs + k ≤ 33
ready_length ns k [] h = omega arith
ready_length ns k (f ∷ fs) h = let r = ready_length ns (suc h.0) fs h.3 in omega (arith, h.1)

pub ready_weaker : (ns : List Branch) (j k : ℕ) (fs : List Frame) → j ≤ k → Ready ns k fs → Ready ns j fs
ready_weaker ns j k [] l h = omega arith
ready_weaker ns j k (f ∷ fs) l h = (h.0, omega (arith, h.1), h.2, h.3)

pub empty : (ns : List Branch) (T : Tree) → Held ns None T → T ≡ nil
empty ns nil h = refl
empty ns (node v l d r) h = absurd (none_some h.0)

regroup : (a b c d : List ℕ) → ((a ++ b) ++ c) ++ d ≡ a ++ (b ++ (c ++ d))
regroup a b c d = simp append_assoc

-- a part of the tree comes on top
module _ (ns : List Branch) {T : Tree} {m : ℕ} where
  pub laid_ready : (o : Option ℕ) (q : Pending) (fs : List Frame) → Part ns o T m (length (cells_of q)) → Ready ns (suc m) fs → Ready ns m (laid o q ++ fs)
  laid_ready None q fs p h = ready_weaker ns m (suc m) fs (omega arith) h
  laid_ready (Some v) q fs p h = (m, omega arith, subst (λ T. Part ns (Some v) T m (length (cells_of q))) (sym (spelled_held ns (Some v) T m (length (cells_of q)) p)) p, h)

  nothing : (q : Pending) → Part ns None T m (length (cells_of q)) → T ≡ nil
  nothing q p = empty ns T p.held

  pub laid_todo : (b : List Cell) (o : Option ℕ) (q : Pending) (fs : List Frame) → Part ns o T m (length (cells_of q)) → todo b ns (laid o q ++ fs) ≡ scanned b T (cells_of q) ++ todo b ns fs
  laid_todo b None q fs p = sym (ap (λ T. scanned b T (cells_of q) ++ todo b ns fs) (nothing q p))
  laid_todo b (Some v) q fs p = ap (λ T. scanned b T (cells_of q) ++ todo b ns fs) (spelled_held ns (Some v) T m (length (cells_of q)) p)

  pub laid_weight : (o : Option ℕ) (q : Pending) (fs : List Frame) → Part ns o T m (length (cells_of q)) → weight ns (laid o q ++ fs) ≡ length (places T) + weight ns fs
  laid_weight None q fs p = let z = ap (λ T. length (places T)) (nothing q p) in omega arith
  laid_weight (Some v) q fs p = ap (λ T. length (places T) + weight ns fs) (spelled_held ns (Some v) T m (length (cells_of q)) p)

-- a label that the cells fit is no number
fitting : (b : List Cell) (l : Label) (is js : List ℕ) → after_cells b l is ≡ Some js → is_number l ≡ false
fitting b Star is js e = refl
fitting b (Symbol f a) is js e = refl
fitting b (Number n) is js e = absurd (none_some e)

pub scanned_some : (b : List Cell) (v : ℕ) (l : Label) (d r : Tree) (is js : List ℕ) → after_cells b l is ≡ Some js
    → scanned b (node v l d r) is ≡ (ended_cells l is ++ scanned b d js) ++ scanned b r is
scanned_some b v l d r is js e = ap (λ o. (ended_cells l is ++ elim o [ None ↦ [] | Some js ↦ scanned b d js ]) ++ scanned b r is) e

pub scanned_none : (b : List Cell) (v : ℕ) (l : Label) (d r : Tree) (is : List ℕ) → after_cells b l is ≡ None
    → scanned b (node v l d r) is ≡ (ended_cells l is ++ []) ++ scanned b r is
scanned_none b v l d r is e = ap (λ o. (ended_cells l is ++ elim o [ None ↦ [] | Some js ↦ scanned b d js ]) ++ scanned b r is) e

module _ (b : List Cell) (ns : List Branch) (f : Frame) (fs : List Frame) (h : Ready ns 0 (f ∷ fs)) where
  abbrev at : Branch
  at = get_or ns f.place blank

  abbrev cells : List ℕ
  cells = cells_of f.pending

  abbrev pub gs : List Frame
  gs = laid at.right f.pending ++ fs

  abbrev pub hs : Pending → List Frame
  hs q = laid at.down q ++ gs

  top : Top ns f.place (tree_at ns f) h.0 (length (cells_of f.pending))
  top = top_of ns f.place (tree_at ns f) h.0 (length (cells_of f.pending)) h.2

  few : length fs + suc h.0 ≤ 33
  few = ready_length ns (suc h.0) fs h.3

  pub place_below : f.place < length ns
  place_below = top.part.held.1

  pub right_room : length fs < 33
  right_room = omega (arith, few)

  pub after_room : Room at.label (length (cells_of f.pending))
  after_room = label_room at.label top.part (omega (arith, few))

  right_ready : Ready ns h.0 gs
  right_ready = laid_ready ns at.right f.pending fs (right_part top.part) h.3

  right_todo : todo b ns gs ≡ scanned b top.right cells ++ todo b ns fs
  right_todo = laid_todo ns b at.right f.pending fs (right_part top.part)

  right_weight : weight ns gs ≡ length (places top.right) + weight ns fs
  right_weight = laid_weight ns at.right f.pending fs (right_part top.part)

  whole_weight : weight ns (f ∷ fs) ≡ suc (length (places top.down) + length (places top.right)) + weight ns fs
  whole_weight = ap (λ T. length (places T) + weight ns fs) top.is ∙ ap (λ k. suc k + weight ns fs) (length-append (places top.down) (places top.right))

  whole_todo : todo b ns (f ∷ fs) ≡ scanned b (node f.place at.label top.down top.right) cells ++ todo b ns fs
  whole_todo = ap (λ T. scanned b T cells ++ todo b ns fs) top.is

  pub stays_ready : Ready ns 0 gs
  stays_ready = ready_weaker ns 0 h.0 gs (omega arith) right_ready

  pub stays_falls : weight ns gs < weight ns (f ∷ fs)
  stays_falls = omega (arith, right_weight, whole_weight)

  pub stays_todo : after_cells b at.label cells ≡ None → todo b ns (f ∷ fs) ≡ ended_cells at.label cells ++ todo b ns gs
  stays_todo e =
      whole_todo
      ∙ ap (λ xs. xs ++ todo b ns fs) (scanned_none b f.place at.label top.down top.right cells e)
      ∙ regroup (ended_cells at.label cells) [] (scanned b top.right cells) (todo b ns fs)
      ∙ ap (λ xs. ended_cells at.label cells ++ xs) (sym right_todo)

  module _ (q : Pending) (e : after_cells b at.label cells ≡ Some (cells_of q)) (w : (length (cells_of q)) ≡ wants at.label (length (cells_of f.pending))) where
    plain : is_number at.label ≡ false
    plain = fitting b at.label cells (cells_of q) e

    down : Part ns at.down top.down (h.0 - 1) (length (cells_of q))
    down = subst (Part ns at.down top.down (h.0 - 1)) (sym w) (down_part top.part plain)

    pub down_fits : length gs < 33
    down_fits = let d = down_deeper top.part plain in omega (arith, ready_length ns h.0 gs right_ready)

    pub goes_ready : Ready ns 0 (hs q)
    goes_ready =
        let d = down_deeper top.part plain in
        let up : suc (h.0 - 1) ≡ h.0 = omega arith in
        ready_weaker ns 0 (h.0 - 1) (hs q) (omega arith) (laid_ready ns at.down q gs down (subst (λ k. Ready ns k gs) (sym up) right_ready))

    pub goes_falls : weight ns (hs q) < weight ns (f ∷ fs)
    goes_falls = omega (arith, laid_weight ns at.down q gs down, right_weight, whole_weight)

    pub goes_todo : todo b ns (f ∷ fs) ≡ ended_cells at.label cells ++ todo b ns (hs q)
    goes_todo =
        whole_todo
        ∙ ap (λ xs. xs ++ todo b ns fs) (scanned_some b f.place at.label top.down top.right cells (cells_of q) e)
        ∙ regroup (ended_cells at.label cells) (scanned b top.down (cells_of q)) (scanned b top.right cells) (todo b ns fs)
        ∙ ap (λ xs. ended_cells at.label cells ++ (scanned b top.down (cells_of q) ++ xs)) (sym right_todo)
        ∙ ap (λ xs. ended_cells at.label cells ++ xs) (sym (laid_todo ns b at.down q gs down))

-- what a turn notes is taken from what was to be found
pub same_total : (b : List Cell) (ns : List Branch) (fs hs : List Frame) (l : Label) (is ys : List ℕ) (n : ℕ) (zs : List ℕ) (m : ℕ) → length zs ≡ length ys
    → Noted l is ys n zs m → todo b ns fs ≡ ended_cells l is ++ todo b ns hs → total b ns hs zs m ≡ total b ns fs ys n
same_total b ns fs hs l is ys n zs m size noted e =
    let end = ended_cells l is in
    ap₂ (λ k xs. take k (xs ++ todo b ns hs)) size noted.0
    ∙ take_twice (length ys) (take n ys ++ end) (todo b ns hs)
    ∙ ap (take (length ys)) (append_assoc (take n ys) end (todo b ns hs) ∙ ap (λ xs. take n ys ++ xs) (sym e))

-- the frame f is taken from the agenda, where the frames `under` stay
module _ (b : List Cell) (ns : List Branch) (f : Frame) (under : List Frame) (B : Branch) (ready : Ready ns 0 (f ∷ under)) (e : B ≡ get_or ns f.place blank) where
  pub holds_place : f.place < length ns
  holds_place = place_below b ns f under ready

  pub label_fits : Room B.label (length (cells_of f.pending))
  label_fits = subst (λ B. Room B.label (length (cells_of f.pending))) (sym e) (after_room b ns f under ready)

  pub right_fits : length under < 33
  right_fits = right_room b ns f under ready

  module _ (gs' : List Frame) (laid-right : gs' ≡ laid B.right f.pending ++ under) where
    right : gs' ≡ gs b ns f under ready
    right = laid-right ∙ ap (λ B. laid B.right f.pending ++ under) e

    module _ (ys : List ℕ) (n : ℕ) (zs : List ℕ) (m : ℕ) (kept : length zs ≡ length ys) (noted : Noted B.label (cells_of f.pending) ys n zs m) where
      note : Noted (get_or ns f.place blank).label (cells_of f.pending) ys n zs m
      note = subst (λ B. Noted B.label (cells_of f.pending) ys n zs m) e noted

      turned : (hs : List Frame) → Ready ns 0 hs → weight ns hs < weight ns (f ∷ under)
          → todo b ns (f ∷ under) ≡ ended_cells (get_or ns f.place blank).label (cells_of f.pending) ++ todo b ns hs
          → Turned b ns (f ∷ under) ys n hs zs m
      turned hs r w t = record { ready = r; falls = w; same = same_total b ns (f ∷ under) hs _ (cells_of f.pending) ys n zs m kept note t; counted = note.1 }

      pub turned_none : Rest b B.label f.pending None → Turned b ns (f ∷ under) ys n gs' zs m
      turned_none none =
          let none' = subst (λ B. Rest b B.label f.pending None) e none in
          subst (λ hs. Turned b ns (f ∷ under) ys n hs zs m) (sym right)
          (turned (gs b ns f under ready) (stays_ready b ns f under ready) (stays_falls b ns f under ready) (stays_todo b ns f under ready none'))

      module _ (q : Pending) (rest : Rest b B.label f.pending (Some q)) where
        rest' : Rest b (get_or ns f.place blank).label f.pending (Some q)
        rest' = subst (λ B. Rest b B.label f.pending (Some q)) e rest

        pub down_room : length gs' < 33
        down_room = omega (arith, down_fits b ns f under ready q rest'.0 rest'.1, ap length right)

        pub turned_some : (hs' : List Frame) → hs' ≡ laid B.down q ++ gs' → Turned b ns (f ∷ under) ys n hs' zs m
        turned_some hs' laid-down =
            let is-hs : hs' ≡ hs b ns f under ready q = laid-down ∙ ap (λ xs. laid B.down q ++ xs) right ∙ ap (λ B. laid B.down q ++ gs b ns f under ready) e in
            subst (λ hs. Turned b ns (f ∷ under) ys n hs zs m) (sym is-hs)
            (turned (hs b ns f under ready q) (goes_ready b ns f under ready q rest'.0 rest'.1) (goes_falls b ns f under ready q rest'.0 rest'.1) (goes_todo b ns f under ready q rest'.0 rest'.1))
