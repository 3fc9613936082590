-- The test of the rows, as a relation.
use Rattle.std.proofs.Common.{◌≡◌, ℕ, Bool, true, false, List, [], ◌∷◌, Some, None, Option, sym, refl, ap, ◌∙◌, ap₂, inl, inr}
use Rattle.std.proofs.lemmas.Bool.{and_parts, and_from, or_cases, or_left, or_right, false≢true}
use Rattle.lists.specs.Members.{In}
use Rattle.terms.specs.Patterns.{nodes_of}
use Rattle.terms.specs.declared.pattern.Node.{Node}
use Rattle.terms.specs.declared.pattern.Node.TheVariants.{Var, App}
use Rattle.terms.specs.declared.pattern.Pattern.{Pattern}
use Rattle.trie.specs.declared.branch.Label.{Label}
use Rattle.trie.specs.Trees.{same_label}
use Rattle.trie.specs.Contents.{labels, string_of}
use Rattle.trie.proofs.Labels.{same_self, same_is}
use Rattle.index.specs.Maps.{Map}
use Rattle.discrimination_tree.specs.Rows.{same_row, is_row, number_in, is_row_of, is_stored_under, is_stored, Tied}

-- u is the row of a pattern in the map
pub record Stored (m : Map) (u : List Label) : Type 0 where
  pub number : ℕ
  pub pattern : Pattern
  pub under : m number ≡ Some pattern
  pub is : u ≡ string_of pattern number

abbrev pub Holds : Map → List (List Label) → Type 0
Holds m ss = (u : List Label) → (In u ss → Stored m u) × (Stored m u → In u ss)

row_is : (u v : List Label) → same_row u v ≡ true → u ≡ v
row_is [] [] e = refl
row_is [] (l ∷ v) e = absurd (false≢true e)
row_is (k ∷ u) [] e = absurd (false≢true e)
row_is (k ∷ u) (l ∷ v) e = let p = and_parts (same_label k l) (same_row u v) e in ap₂ ◌∷◌ (same_is k l p.0) (row_is u v p.1)

row_self : (u : List Label) → same_row u u ≡ true
row_self [] = refl
row_self (k ∷ u) = and_from (same_label k k) (same_row u u) (same_self k) (row_self u)

row_in : (u : List Label) (ss : List (List Label)) → is_row u ss ≡ true → In u ss
row_in u [] e = absurd (false≢true e)
row_in u (v ∷ vs) e = elim (or_cases (same_row u v) (is_row u vs) e) [ inl h ↦ inl (row_is u v h) | inr h ↦ inr (row_in u vs h) ]

in_row : (u : List Label) (ss : List (List Label)) → In u ss → is_row u ss ≡ true
in_row u [] h = absurd h
in_row u (v ∷ vs) (inl e) = or_left (same_row u v) (is_row u vs) (ap (same_row u) (sym e) ∙ row_self u)
in_row u (v ∷ vs) (inr h) = or_right (same_row u v) (is_row u vs) (in_row u vs h)

pub number_last : (ns : List Node) (n : ℕ) → number_in (labels ns n) ≡ Some n
number_last [] n = refl
number_last (Var x ∷ ns) n = number_last ns n
number_last (App f a ∷ ns) n = number_last ns n

-- a row has one number
pub one_number : (ns ms : List Node) (n k : ℕ) → labels ns n ≡ labels ms k → n ≡ k
one_number ns ms n k e = let h : Some n ≡ Some k = sym (number_last ns n) ∙ ap number_in e ∙ number_last ms k in cc

test_row : (m : Map) (u : List Label) (n : ℕ) (o : Option Pattern) → m n ≡ o → is_row_of u n o ≡ true → Stored m u
test_row m u n None h e = absurd (false≢true e)
test_row m u n (Some p) h e = record { number = n; pattern = p; under = h; is = row_is u (string_of p n) e }

test_under : (m : Map) (u : List Label) (o : Option ℕ) → is_stored_under m u o ≡ true → Stored m u
test_under m u None e = absurd (false≢true e)
test_under m u (Some n) e = test_row m u n (m n) refl e

stored_test : (m : Map) (u : List Label) → Stored m u → is_stored m u ≡ true
stored_test m u s =
    let n = s.number in
    let p = s.pattern in
    ap (is_stored_under m u) (ap number_in s.is ∙ number_last (nodes_of p) n) ∙ ap (is_row_of u n) s.under ∙ ap (same_row u) (sym s.is) ∙ row_self u

same_test : (a b : Bool) → (a ≡ true → b ≡ true) → (b ≡ true → a ≡ true) → a ≡ b
same_test true b h k = sym (h refl)
same_test false true h k = k refl
same_test false false h k = refl

pub holds : (m : Map) (ss : List (List Label)) → Tied m ss → Holds m ss
holds m ss t u = (λ i. test_under m u (number_in u) (sym (t u) ∙ in_row u ss i), λ s. row_in u ss (t u ∙ stored_test m u s))

pub tied : (m : Map) (ss : List (List Label)) → Holds m ss → Tied m ss
tied m ss h u = same_test (is_row u ss) (is_stored m u) (λ e. stored_test m u ((h u).0 (row_in u ss e))) (λ e. in_row u ss ((h u).1 (test_under m u (number_in u) e)))
