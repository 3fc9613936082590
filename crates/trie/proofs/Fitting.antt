-- The row of a pattern, and rows of patterns one by one.
use Rattle.std.proofs.Common.{◌≡◌, ℕ, ◌+◌, ◌-◌, ◌≤◌, true, ◌&&◌, leb, List, [], ◌∷◌, map, length, is_some, Some, None, Option, sym, refl, ap, ◌∙◌, subst, inl, inr, arith}
use Rattle.std.proofs.lemmas.List.{length-map}
use Rattle.std.proofs.lemmas.Bool.{and_parts, and_from, le-leb, cases_lt}
use Rattle.lists.specs.Members.{In}
use Rattle.row.proofs.Sizes.{within}
use Rattle.terms.specs.Term.{Terms, width}
use Rattle.terms.specs.Preorder.{row, in_front, decode, small, all_small, Whole, Reads}
use Rattle.terms.specs.Patterns.{nodes_of}
use Rattle.terms.specs.declared.pattern.Node.{Node}
use Rattle.terms.specs.declared.pattern.Node.TheVariants.{Var, App}
use Rattle.terms.specs.declared.pattern.Pattern.{Pattern}
use Rattle.terms.proofs.Rows.{reads_var, reads_app, app_none, whole_from_one, whole_is_one, none_not_whole}
use Rattle.trie.specs.declared.branch.Label.{Label}
use Rattle.trie.specs.Trees.{nodes_in, fits_pattern, are_patterns}
use Rattle.trie.specs.Contents.{string_of, labels}
use Rattle.trie.proofs.Counting.{clash}
use Rattle.trie.proofs.Adding.{More}

pub fits_each : (xs : List (List Label)) → are_patterns xs ≡ true → (s : List Label) → In s xs → fits_pattern (nodes_in s) ≡ true
fits_each [] e s h = absurd h
fits_each (x ∷ xs) e s (inl k) = subst (λ z. fits_pattern (nodes_in z) ≡ true) (sym k) (and_parts (fits_pattern (nodes_in x)) (are_patterns xs) e).0
fits_each (x ∷ xs) e s (inr h) = fits_each xs (and_parts (fits_pattern (nodes_in x)) (are_patterns xs) e).1 s h

pub fits_all : (xs : List (List Label)) → ((s : List Label) → In s xs → fits_pattern (nodes_in s) ≡ true) → are_patterns xs ≡ true
fits_all [] h = refl
fits_all (x ∷ xs) h = and_from (fits_pattern (nodes_in x)) (are_patterns xs) (h x (inl refl)) (fits_all xs (λ s k. h s (inr k)))

pub fits_more : (u : List Label) (xs ys : List (List Label)) → More u xs ys → fits_pattern (nodes_in u) ≡ true → are_patterns xs ≡ true → are_patterns ys ≡ true
fits_more u xs ys m fits e =
    fits_all ys (λ s h. elim ((m.all s).0 h) [ inl k ↦ subst (λ z. fits_pattern (nodes_in z) ≡ true) (sym k) fits | inr k ↦ fits_each xs e s k ])

pub fits_less : (u : List Label) (xs ys : List (List Label)) → More u xs ys → are_patterns ys ≡ true → are_patterns xs ≡ true
fits_less u xs ys m e = fits_all xs (λ s h. fits_each ys e s ((m.all s).1 (inr h)))

-- a node with its variable's name forgotten
plain : Node → Node
plain (Var x) = Var 0
plain (App f a) = App f a

nodes_back : (ns : List Node) (n : ℕ) → nodes_in (labels ns n) ≡ Some (map plain ns)
unfolding plain
nodes_back [] n = refl
nodes_back (Var x ∷ ns) n = rw (nodes_back ns n)
nodes_back (App f a ∷ ns) n = rw (nodes_back ns n)

plain_small : (ns : List Node) → all_small ns ≡ true → all_small (map plain ns) ≡ true
unfolding plain
plain_small [] e = refl
plain_small (Var x ∷ ns) e = plain_small ns (and_parts (small (Var x)) (all_small ns) e).1
plain_small (App f a ∷ ns) e =
    let p = and_parts (small (App f a)) (all_small ns) e in and_from (small (App f a)) (all_small (map plain ns)) p.0 (plain_small ns p.1)

-- what follows a node that reads is read too
record Reading (ns : List Node) : Type 0 where
  terms : Terms
  is : row ns ≡ Some terms

behind : (n : Node) (ns : List Node) (ts : Terms) → row (n ∷ ns) ≡ Some ts → Reading ns
behind n ns ts e = at (row ns) refl e
  where
    at : (o : Option Terms) → row ns ≡ o → in_front n o ≡ Some ts → Reading ns
    at None q h = clash (none n h)
      where
        none : (m : Node) → in_front m None ≡ Some ts → ◌≡◌ {A = ℕ} 0 1
        none m z = cc
    at (Some us) q h = record { terms = us; is = q }

same_reads : (o : Option Terms) (d e : ℕ) → Reads o d → Reads o e → d ≡ e
same_reads o d e x y = let s : x.terms ≡ y.terms = cc (x.is, y.is) in sym x.tall ∙ ap width s ∙ y.tall

plain_reads : (ns : List Node) (d : ℕ) → Reads (row ns) d → Reads (row (map plain ns)) d
unfolding plain
plain_reads [] d r = r
plain_reads (Var x ∷ ns) d r =
    let q = behind (Var x) ns r.terms r.is in
    let inner : Reads (row ns) (width q.terms) = record { terms = q.terms; is = q.is; tall = refl } in
    let e = same_reads (row (Var x ∷ ns)) (width q.terms + 1) d (reads_var x ns (width q.terms) inner) r in
    subst (Reads (row (Var 0 ∷ map plain ns))) e (reads_var 0 (map plain ns) (width q.terms) (plain_reads ns (width q.terms) inner))
plain_reads (App f a ∷ ns) d r =
    let q = behind (App f a) ns r.terms r.is in
    let inner : Reads (row ns) (width q.terms) = record { terms = q.terms; is = q.is; tall = refl } in
    elim (cases_lt (width q.terms) a) [
      | inl few ↦ clash (let z = app_none f a ns (width q.terms) inner few in let y = r.is in cc)
      | inr within ↦
          let e = same_reads (row (App f a ∷ ns)) (width q.terms - a + 1) d (reads_app f a ns (width q.terms) inner within) r in
          subst (Reads (row (App f a ∷ map plain ns))) e (reads_app f a (map plain ns) (width q.terms) (plain_reads ns (width q.terms) inner) within)
    ]

plain_whole : (ns : List Node) → Whole ns → Whole (map plain ns)
plain_whole ns h = at (row ns) refl
  where
    at : (o : Option Terms) → row ns ≡ o → Whole (map plain ns)
    at None e = absurd (none_not_whole ns e h)
    at (Some ts) e =
        let r : Reads (row ns) (width ts) = record { terms = ts; is = e; tall = refl } in
        whole_from_one (map plain ns) (subst (Reads (row (map plain ns))) (whole_is_one ns (width ts) r h) (plain_reads ns (width ts) r))

pub pattern_fits : (p : Pattern) (n : ℕ) → fits_pattern (nodes_in (string_of p n)) ≡ true
pattern_fits p n =
    let ns = nodes_of p in
    let len = length-map ns plain in
    let short : length ns ≤ 32 = within p.nodes in
    subst (λ o. fits_pattern o ≡ true) (sym (nodes_back ns n))
    (and_from (leb (length (map plain ns)) 32) (is_some (decode (map plain ns)) && all_small (map plain ns)) (le-leb (length (map plain ns)) 32 (omega arith))
    (and_from (is_some (decode (map plain ns))) (all_small (map plain ns)) (plain_whole ns p.whole) (plain_small ns p.within)))
