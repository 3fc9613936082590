-- What a tree in its pool gives for a term.
use Rattle.std.proofs.Common.{◌≡◌, ℕ, ◌≤◌, List, [], ◌∷◌, length, take, Some, Option, sym, refl, ap, ◌∙◌, subst, arith}
use Rattle.std.proofs.lemmas.List.{take_all}
use Rattle.lists.specs.Members.{In}
use Rattle.terms.specs.Term.{Term, Terms, nil, ◌▹◌, width}
use Rattle.terms.specs.Sig.{Sig}
use Rattle.terms.specs.Preorder.{row, alone, decode, Reads}
use Rattle.terms.specs.declared.pattern.Node.{Node}
use Rattle.linear.specs.Loose.{Loosely}
use Rattle.linear.proofs.Instances.{instance_fits, loosely_is_apart}
use Rattle.linear.proofs.Rows.{fits_loosely}
use Rattle.bank.specs.declared.cell.Cell.{Cell}
use Rattle.bank.specs.Rules.{Rules}
use Rattle.bank.specs.Means.{Means, none, and}
use Rattle.trie.specs.declared.trie.Trie.{Trie}
use Rattle.trie.specs.Contents.{tree_of, strings_of}
use Rattle.trie.proofs.Holding.{trim}
use Rattle.discrimination.specs.Retrieval.{walked, spelling, Candidate, Retrieved, Found}
use Rattle.discrimination.specs.Cells.{scanned}
use Rattle.discrimination.proofs.Starting.{whole}
use Rattle.discrimination.proofs.Walks.{scanned_walked}
use Rattle.discrimination.proofs.Retrieving.{Row, sound, complete, few, once}

alone_one : (ts : Terms) → width ts ≡ 1 → (p : Term) × (ts ≡ p ▹ nil)
alone_one nil h = absurd (let z : ⊥ = omega arith in z)
alone_one (t ▹ nil) h = (t, refl)
alone_one (t ▹ (u ▹ us)) h = absurd (let z : ⊥ = omega arith in z)

one_decodes : (o : Option Terms) → Reads o 1 → (p : Term) × (alone o ≡ Some p)
one_decodes o r = let a = alone_one r.terms r.tall in (a.0, ap alone (r.is ∙ ap Some a.1))

module _ (T : Trie) (t : Term) where
  abbrev xs : List ℕ
  xs = walked (tree_of T) (t ▹ nil)

  row_candidate : (n : ℕ) → Row (strings_of T) (t ▹ nil) n → Candidate (strings_of T) t n
  row_candidate n w =
      let s = (whole T).rows (spelling w.nodes n) w.member in
      let same : s.nodes ≡ w.nodes = let p = s.is in let q = w.spells in cc in
      let d = one_decodes (row w.nodes) (subst (λ ns. Reads (row ns) 1) same s.reads) in
      (w.nodes, d.0, w.member, d.1, (loosely_is_apart d.0 t).0 ((fits_loosely w.nodes d.0 t d.1).0 w.fits))

  finds : (n : ℕ) (ns : List Node) (p : Term) → In (spelling ns n) (strings_of T) → decode ns ≡ Some p → Loosely p t → In n xs
  finds n ns p i e h = complete (tree_of T) (t ▹ nil) n ns i ((fits_loosely ns p t e).1 h)

  pub retrieved : Retrieved (strings_of T) t xs
  retrieved = record {
    sound = λ n i. row_candidate n (sound (tree_of T) (t ▹ nil) n i);
    complete = λ n c. finds n c.0 c.1 c.2 c.3 ((loosely_is_apart c.1 t).1 c.4);
    instances = λ n ns p i e h. finds n ns p i e (instance_fits p t h);
    few = few (tree_of T) (t ▹ nil);
    once = once (tree_of T) (t ▹ nil) (trim T);
  }

  -- a tree holds at most 64 rows
  all_fit : (m : ℕ) → 64 ≤ m → take m xs ≡ xs
  all_fit m h = take_all m xs (let k = few (tree_of T) (t ▹ nil) in omega (arith, T.counted, T.few))

pub found : (T : Trie) (b : List Cell) (i : ℕ) (ys : List ℕ) (n : ℕ) → n ≤ length ys → take n ys ≡ take (length ys) (scanned b (tree_of T) (i ∷ [])) → Found T b i ys n
found T b i ys n h e =
    let numbers : (S : Sig) → Rules S b → (t : Term) → Means b i t → take n ys ≡ take (length ys) (walked (tree_of T) (t ▹ nil)) = λ S rules t means.
    e ∙ ap (take (length ys)) (scanned_walked S b rules (tree_of T) (i ∷ []) (t ▹ nil) (and means none)) in
    record {
      within = h;
      numbers = numbers;
      all = λ S rules t means room. subst (Retrieved (strings_of T) t) (sym (numbers S rules t means ∙ all_fit T t (length ys) room)) (retrieved T t);
    }
