-- A row's own part of the tree, cut off.
use Rattle.std.proofs.Common.{◌≡◌, ℕ, true, not, List, [], ◌∷◌, ◌++◌, sym, refl, ◌∙◌, subst, append-nil}
use Rattle.std.proofs.lemmas.Bool.{and_parts}
use Rattle.trie.specs.declared.branch.Label.{Label}
use Rattle.trie.specs.declared.branch.Label.TheVariants.{Number}
use Rattle.trie.specs.declared.trie.links.Link.{Link}
use Rattle.trie.specs.Trees.{Tree, nil, node, below, strings, heads, same_label, none_same, is_trim}
use Rattle.trie.specs.Ways.{Way, here, down, right, plug, link_of, Along, first, chosen, cut_of, Ending}
use Rattle.trie.specs.Taken.{Lone}
use Rattle.trie.proofs.Labels.{no_row, trim_parts}
use Rattle.trie.proofs.Spelling.{Row}
use Rattle.trie.proofs.Adding.{More, more_cons, more_plug, Upright, replaces_plug, along_row, lone_strings}

-- at the link a node stands below which only the row goes on
pub record Cut (t : Tree) (s : List Label) (link : Link) : Type 0 where
  pub way : Way
  pub at : ℕ
  pub label : Label
  pub down : Tree
  pub beside : Tree
  pub rest : List Label
  pub is : plug way (node at label down beside) ≡ t
  pub along : Along way (label ∷ rest) s
  pub lone : Lone rest down
  pub upright : Upright way beside
  pub led : link ≡ link_of way

find_cut : (w : Way) (v : ℕ) (l : Label) (d r : Tree) (u s : List Label) → Along w (l ∷ u) s → Lone u d → Cut (plug w (node v l d r)) s (chosen (link_of w) (first r) (cut_of w))
find_cut here v l d r u s a lone = record { way = here; at = v; label = l; down = d; beside = r; rest = u; is = refl; along = a; lone = lone; upright = tt; led = refl }
find_cut (right x k q w) v l d r u s a lone =
    record { way = right x k q w; at = v; label = l; down = d; beside = r; rest = u; is = refl; along = a; lone = lone; upright = tt; led = refl }
find_cut (down x k q w) v l d (node y j e f) u s a lone =
    record { way = down x k q w; at = v; label = l; down = d; beside = node y j e f; rest = u; is = refl; along = a; lone = lone; upright = refl; led = refl }
find_cut (down x k q w) v l d nil u s a lone = find_cut w x k (node v l d nil) q (l ∷ u) s a.2 (refl, refl, lone)

pub cut : (t : Tree) (s : List Label) (n : ℕ) (link : Link) → Ending t s n link → Cut t s link
cut t s n link e =
    subst (Cut t s) (sym e.led)
    (subst (λ x. Cut x s (chosen (link_of e.way) (first e.beside) (cut_of e.way))) e.is (find_cut e.way e.at (Number n) nil e.beside [] s e.along refl))

pub trim_within : (w : Way) (t : Tree) → is_trim (plug w t) ≡ true → is_trim t ≡ true
trim_within here t e = e
trim_within (down v l r w) t e = (trim_parts v l t r (trim_within w (node v l t r) e)).down
trim_within (right v l d w) t e = (trim_parts v l d t (trim_within w (node v l d t) e)).right

-- the tree without the row
pub cut_grown : (t : Tree) (s : List Label) (link : Link) (c : Cut t s link) → Row s → is_trim t ≡ true → More s (strings (plug c.way c.beside)) (strings t) × (is_trim (plug c.way c.beside) ≡ true)
cut_grown t s link c row trim =
    let whole = node c.at c.label c.down c.beside in
    let up : is_trim (plug c.way whole) ≡ true = subst (λ x. is_trim x ≡ true) (sym c.is) trim in
    let p = trim_parts c.at c.label c.down c.beside (trim_within c.way whole up) in
    let h = along_row c.way (c.label ∷ c.rest) s c.along row in
    let one : below c.label (strings c.down) ≡ (c.label ∷ c.rest) ∷ [] =
    sym (append-nil (below c.label (strings c.down))) ∙ lone_strings (c.label ∷ c.rest) (node c.at c.label c.down nil) h (refl, refl, c.lone) in (
      subst (λ x. More s (strings (plug c.way c.beside)) (strings x)) c.is
          (more_plug c.way (c.label ∷ c.rest) s c.beside whole c.along
          (subst (λ x. More (c.label ∷ c.rest) (strings c.beside) (x ++ strings c.beside)) (sym one) (more_cons (c.label ∷ c.rest) (strings c.beside) (no_row c.label c.beside c.rest p.none)))),
      (replaces_plug c.way (c.label ∷ c.rest) s whole c.beside c.along c.upright
          (record {
            keeps = λ e. (trim_parts c.at c.label c.down c.beside e).right;
            apart = λ l b e. (and_parts (not (same_label l c.label)) (none_same l (heads c.beside)) e).1;
          })).keeps up,
    )
