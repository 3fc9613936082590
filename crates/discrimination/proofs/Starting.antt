-- The start of a walk: the whole tree, with one cell to be matched.
use Rattle.std.proofs.Common.{◌≡◌, ℕ, ◌≤◌, true, ◌&&◌, leb, List, [], ◌∷◌, ◌++◌, length, take, is_some, Some, None, Option, sym, refl, ap, ◌∙◌, subst, inl, inr, append-nil, arith}
use Rattle.std.proofs.lemmas.Bool.{and_parts, leb-true, true≢false}
use Rattle.lists.specs.Members.{In}
use Rattle.terms.specs.Term.{Terms, nil, ◌▹◌}
use Rattle.terms.specs.Preorder.{row, alone, decode, Reads, all_small}
use Rattle.terms.specs.declared.pattern.Node.{Node}
use Rattle.bank.specs.declared.cell.Cell.{Cell}
use Rattle.trie.specs.declared.branch.Label.{Label}
use Rattle.trie.specs.declared.trie.Trie.{Trie}
use Rattle.trie.specs.Trees.{nodes_in, fits_pattern, are_patterns}
use Rattle.trie.specs.Contents.{tree_of, strings_of}
use Rattle.trie.proofs.Holding as holding
use Rattle.discrimination.specs.declared.agenda.Frame.{Frame}
use Rattle.discrimination.specs.Cells.{Pending, scanned, cells_of}
use Rattle.discrimination.specs.Frames.{laid, Spells, Part, Ready, total}
use Rattle.discrimination.proofs.Noting.{room_for}
use Rattle.discrimination.proofs.Turning.{ready_weaker, laid_ready, laid_todo}

one_reads : (o : Option Terms) → is_some (alone o) ≡ true → Reads o 1
one_reads None h = absurd (true≢false (sym h))
one_reads (Some nil) h = absurd (true≢false (sym h))
one_reads (Some (t ▹ nil)) h = record { terms = t ▹ nil; is = refl; tall = refl }
one_reads (Some (t ▹ (u ▹ us))) h = absurd (true≢false (sym h))

pattern_spells : (s : List Label) (o : Option (List Node)) → nodes_in s ≡ o → fits_pattern o ≡ true → Spells 32 1 s
pattern_spells s None e h = absurd (true≢false (sym h))
pattern_spells s (Some ns) e h =
    let p = and_parts (leb (length ns) 32) (is_some (decode ns) && all_small ns) h in
    let q = and_parts (is_some (decode ns)) (all_small ns) p.1 in
    record { nodes = ns; is = e; short = leb-true (length ns) 32 p.0; small = q.1; reads = one_reads (row ns) q.0 }

pub pattern_rows : (ss : List (List Label)) → are_patterns ss ≡ true → (s : List Label) → In s ss → Spells 32 1 s
pattern_rows [] h s i = absurd i
pattern_rows (u ∷ ss) h s (inl e) =
    let p = and_parts (fits_pattern (nodes_in u)) (are_patterns ss) h in
    pattern_spells s (nodes_in s) refl (subst (λ v. fits_pattern (nodes_in v) ≡ true) (sym e) p.0)
pattern_rows (u ∷ ss) h s (inr i) = pattern_rows ss (and_parts (fits_pattern (nodes_in u)) (are_patterns ss) h).1 s i

module _ (T : Trie) where
  pub whole : Part T.nodes T.marks.root (tree_of T) 32 1
  whole =
      let w = holding.whole T in
      record { held = w.kept.held; within = omega (arith, w.kept.full, w.kept.within); trim = w.trim; rows = pattern_rows (strings_of T) w.patterns }

  module _ (p : Pending) (one : length (cells_of p) ≡ 1) where
    whole_for : Part T.nodes T.marks.root (tree_of T) 32 (length (cells_of p))
    whole_for = subst (Part T.nodes T.marks.root (tree_of T) 32) (sym one) whole

    pub start_ready : (fs : List Frame) → fs ≡ laid T.marks.root p ++ [] → Ready T.nodes 0 fs
    start_ready fs e =
        subst (Ready T.nodes 0) (sym e) (ready_weaker T.nodes 0 32 (laid T.marks.root p ++ []) (omega arith) (laid_ready T.nodes T.marks.root p [] whole_for (omega arith)))

    pub start_total : (b : List Cell) (i : ℕ) (fs : List Frame) (ys : List ℕ) → cells_of p ≡ i ∷ [] → fs ≡ laid T.marks.root p ++ []
        → total b T.nodes fs ys 0 ≡ take (length ys) (scanned b (tree_of T) (i ∷ []))
    start_total b i fs ys c e =
        ap (λ gs. total b T.nodes gs ys 0) e
        ∙ ap (take (length ys)) (laid_todo T.nodes b T.marks.root p [] whole_for ∙ append-nil (scanned b (tree_of T) (cells_of p)) ∙ ap (scanned b (tree_of T)) c)

-- nothing is left to be found
pub end_total : (b : List Cell) (T : Trie) (ys xs : List ℕ) (n : ℕ) → n ≤ length ys → total b T.nodes [] ys n ≡ xs → take n ys ≡ xs
end_total b T ys xs n h e = sym (ap (take (length ys)) (append-nil (take n ys)) ∙ room_for ys n h) ∙ e
