-- What stands first in a text stands first in a front of it that reaches further.
use Rattle.std.proofs.Common.{◌≡◌, ℕ, zero, suc, ◌+◌, ◌-◌, ◌<◌, ◌≤◌, Bool, true, false, cond, ◌&&◌, eqb, ◌⊎◌, List, [], ◌∷◌, take, drop, Some, None, Option, sym, refl, ap, ◌∙◌, subst, inl, inr, arith}
use Rattle.std.specs.Option.{option_map}
use Rattle.std.specs.List.{prefix_len}
use Rattle.std.proofs.lemmas.List.{drop-take}
use Rattle.std.proofs.lemmas.Bool.{cases_Bool, cond-true, cond-false, and_right}
use Rattle.signature.specs.Words.{lower, upper, wordly}
use Rattle.lexer.specs.Tokens.{in_line, length_of_block, starts, blank, block, mark, front, first}
use Rattle.lexer.specs.declared.token.Kind.TheVariants.{Word, Variable, Unequal}
use Rattle.lexer.specs.declared.token.Front.{Front}
use Rattle.lexer.specs.declared.token.Front.TheVariants.{Gap, Piece}

front_cut : (p : ℕ → Bool) (bs : List ℕ) (j : ℕ) → prefix_len p bs < j → prefix_len p (take j bs) ≡ prefix_len p bs
front_cut p [] zero h = refl
front_cut p [] (suc j) h = refl
front_cut p (b ∷ bs) zero h = absurd (omega arith)
front_cut p (b ∷ bs) (suc j) h = by (cases_Bool (p b)) (λ k. front_cut p bs j k)
  where
    by : (p b ≡ true) ⊎ (p b ≡ false) → (prefix_len p bs < j → prefix_len p (take j bs) ≡ prefix_len p bs) → prefix_len p (b ∷ take j bs) ≡ prefix_len p (b ∷ bs)
    by (inl e) ih =
        let one : prefix_len p (b ∷ bs) ≡ 1 + prefix_len p bs = cond-true _ _ _ e in
        cond-true _ _ _ e ∙ ap (λ n. 1 + n) (ih (omega (arith, one))) ∙ sym one
    by (inr e) ih = cond-false _ _ _ e ∙ sym (cond-false _ _ _ e)

starts_cut : (c : ℕ) (bs : List ℕ) (j : ℕ) → 1 ≤ j → starts c (take j bs) ≡ starts c bs
starts_cut c bs zero h = absurd (omega arith)
starts_cut c [] (suc j) h = refl
starts_cut c (b ∷ bs) (suc j) h = refl

some_same : {x y : ℕ} → Some x ≡ Some y → x ≡ y
some_same e = cc

none_some : {A : Type 0} {x : ℕ} → ◌≡◌ {A = Option ℕ} None (Some x) → A
none_some e = let z : ◌≡◌ {A = ℕ} 0 1 = cc in absurd (omega arith)

mapped_some : (o : Option ℕ) (m : ℕ) → option_map (λ n. 1 + n) o ≡ Some m → (k : ℕ) × (o ≡ Some k) × (m ≡ 1 + k)
mapped_some None m e = none_some e
mapped_some (Some k) m e = (k, refl, sym (some_same e))

block_least : (bs : List ℕ) (m : ℕ) → length_of_block bs ≡ Some m → 2 ≤ m
block_least [] m e = none_some e
block_least (b ∷ bs) m e = by (cases_Bool (eqb b 42 && starts 47 bs)) (λ k. block_least bs k)
  where
    by : ((eqb b 42 && starts 47 bs) ≡ true) ⊎ ((eqb b 42 && starts 47 bs) ≡ false) → ((k : ℕ) → length_of_block bs ≡ Some k → 2 ≤ k) → 2 ≤ m
    by (inl t) ih = let s = some_same (sym (cond-true _ _ _ t) ∙ e) in omega (arith, s)
    by (inr t) ih = let r = mapped_some (length_of_block bs) m (sym (cond-false _ _ _ t) ∙ e) in omega (arith, ih r.0 r.1, r.2)

block_cut : (bs : List ℕ) (j m : ℕ) → length_of_block bs ≡ Some m → m ≤ j → length_of_block (take j bs) ≡ Some m
block_cut [] j m e h = none_some e
block_cut (b ∷ bs) zero m e h = absurd (omega (arith, block_least (b ∷ bs) m e))
block_cut (b ∷ bs) (suc j) m e h = by (cases_Bool (eqb b 42 && starts 47 bs)) (λ k. block_cut bs j k)
  where
    same : 1 ≤ j → (eqb b 42 && starts 47 (take j bs)) ≡ (eqb b 42 && starts 47 bs)
    same k = ap (λ t. eqb b 42 && t) (starts_cut 47 bs j k)

    by : ((eqb b 42 && starts 47 bs) ≡ true) ⊎ ((eqb b 42 && starts 47 bs) ≡ false) → ((k : ℕ) → length_of_block bs ≡ Some k → k ≤ j → length_of_block (take j bs) ≡ Some k) → length_of_block (b ∷ take j bs) ≡ Some m
    by (inl t) ih =
        let s = some_same (sym (cond-true _ _ _ t) ∙ e) in
        cond-true _ _ _ (same (omega (arith, s)) ∙ t) ∙ ap Some s
    by (inr t) ih =
        let r = mapped_some (length_of_block bs) m (sym (cond-false _ _ _ t) ∙ e) in
        let two = block_least bs r.0 r.1 in
        cond-false _ _ _ (same (omega (arith, two, r.2)) ∙ t) ∙ ap (option_map (λ n. 1 + n)) (ih r.0 r.1 (omega (arith, r.2))) ∙ ap Some (sym r.2)

-- how far it reaches
abbrev pub reach : Front → ℕ
reach (Gap n) = n
reach (Piece k n) = n

mapped_none : (o : Option ℕ) → option_map (λ n. 1 + n) o ≡ None → o ≡ None
mapped_none None e = refl
mapped_none (Some k) e = none_some (sym e)

block_none : (bs : List ℕ) (j : ℕ) → length_of_block bs ≡ None → length_of_block (take j bs) ≡ None
block_none [] zero e = refl
block_none [] (suc j) e = refl
block_none (b ∷ bs) zero e = refl
block_none (b ∷ bs) (suc j) e = by (cases_Bool (eqb b 42 && starts 47 bs)) (block_none bs j)
  where
    cut_test : (i : ℕ) → (eqb b 42 && starts 47 bs) ≡ false → (eqb b 42 && starts 47 (take i bs)) ≡ false
    cut_test zero t = and_right (eqb b 42) false refl
    cut_test (suc i) t = ap (λ x. eqb b 42 && x) (starts_cut 47 bs (suc i) (omega arith)) ∙ t

    by : ((eqb b 42 && starts 47 bs) ≡ true) ⊎ ((eqb b 42 && starts 47 bs) ≡ false) → (length_of_block bs ≡ None → length_of_block (take j bs) ≡ None) → length_of_block (b ∷ take j bs) ≡ None
    by (inl t) ih = none_some (sym (sym (cond-true _ _ _ t) ∙ e))
    by (inr t) ih = cond-false _ _ _ (cut_test j t) ∙ ap (option_map (λ n. 1 + n)) (ih (mapped_none (length_of_block bs) (sym (cond-false _ _ _ t) ∙ e)))

-- a choice between two: the same test, and the same answer on the side that is taken
pick : (j : ℕ) (t u : Bool) (f g f' g' : Front) → u ≡ t → (reach f ≤ j → g ≡ f) → (reach f' ≤ j → g' ≡ f') → reach (cond t f f') ≤ j → cond u g g' ≡ cond t f f'
pick j true u f g f' g' e h k r = cond-true u g g' e ∙ h r
pick j false u f g f' g' e h k r = cond-false u g g' e ∙ k r

block_same : (j : ℕ) (bs : List ℕ) → 1 ≤ j → reach (block (length_of_block (drop 1 bs))) ≤ j → block (length_of_block (drop 1 (take j bs))) ≡ block (length_of_block (drop 1 bs))
block_same j bs some r = by (length_of_block (drop 1 bs)) refl
  where
    size : 1 + (j - 1) ≡ j
    size = omega arith

    cut_is : drop 1 (take j bs) ≡ take (j - 1) (drop 1 bs)
    cut_is = ap (λ k. drop 1 (take k bs)) (sym size) ∙ drop-take 1 (j - 1) bs

    by : (o : Option ℕ) → length_of_block (drop 1 bs) ≡ o → block (length_of_block (drop 1 (take j bs))) ≡ block (length_of_block (drop 1 bs))
    by None e = ap block (ap length_of_block cut_is ∙ block_none (drop 1 bs) (j - 1) e ∙ sym e)
    by (Some m) e =
        let far : 2 + m ≤ j = subst (λ o. reach (block o) ≤ j) e r in
        ap block (ap length_of_block cut_is ∙ block_cut (drop 1 bs) (j - 1) m e (omega arith) ∙ sym e)

-- what ends before the cut is not changed by it
pub front_of_cut : (b : ℕ) (bs : List ℕ) (j : ℕ) → 1 ≤ j → reach (front b bs) ≤ j → front b (take j bs) ≡ front b bs
front_of_cut b bs j some =
    pick j (blank b) (blank b) (Gap 1) (Gap 1) _ _ refl (λ _. refl)
    (pick j (eqb b 37) (eqb b 37) (Gap (1 + prefix_len in_line bs)) (Gap (1 + prefix_len in_line (take j bs))) _ _ refl (λ r. ap (λ n. Gap (1 + n)) (front_cut in_line bs j (omega arith)))
    (pick j (eqb b 47 && starts 42 bs) (eqb b 47 && starts 42 (take j bs)) (block (length_of_block (drop 1 bs))) (block (length_of_block (drop 1 (take j bs)))) _ _ (ap (λ t. eqb b 47 && t) (starts_cut 42 bs j some)) (block_same j bs some)
    (pick j (eqb b 33 && starts 61 bs) (eqb b 33 && starts 61 (take j bs)) (Piece Unequal 2) (Piece Unequal 2) _ _ (ap (λ t. eqb b 33 && t) (starts_cut 61 bs j some)) (λ _. refl)
    (pick j (lower b) (lower b) (Piece Word (1 + prefix_len wordly bs)) (Piece Word (1 + prefix_len wordly (take j bs))) _ _ refl (λ r. ap (λ n. Piece Word (1 + n)) (front_cut wordly bs j (omega arith)))
    (pick j (upper b) (upper b) (Piece Variable (1 + prefix_len wordly bs)) (Piece Variable (1 + prefix_len wordly (take j bs))) (Piece (mark b) 1) (Piece (mark b) 1) refl (λ r. ap (λ n. Piece Variable (1 + n)) (front_cut wordly bs j (omega arith)))
    (λ _. refl))))))

pub first_cut : (b : ℕ) (bs : List ℕ) (j : ℕ) → 1 ≤ j → reach (front b bs) ≤ j → first (b ∷ take j bs) ≡ first (b ∷ bs)
first_cut b bs j some far = ap Some (front_of_cut b bs j some far)
