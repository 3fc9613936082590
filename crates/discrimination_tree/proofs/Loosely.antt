-- What the walk finds, told of the stored patterns.
use Rattle.std.proofs.Common.{◌≡◌, ℕ, true, List, [], ◌∷◌, ◌++◌, map, length, take, is_some, Some, None, Option, unwrap_or, sym, refl, ap, ◌∙◌, subst, arith}
use Rattle.std.proofs.lemmas.Bool.{false≢true}
use Rattle.terms.specs.Term.{Term, Terms, var, app, nil, ◌▹◌, sub}
use Rattle.terms.specs.Sig.{Sig}
use Rattle.terms.specs.Preorder.{decode}
use Rattle.terms.specs.Patterns.{nodes_of, term_of}
use Rattle.terms.specs.declared.pattern.Node.{Node}
use Rattle.terms.specs.declared.pattern.Node.TheVariants.{Var, App}
use Rattle.terms.specs.declared.pattern.Pattern.{Pattern}
use Rattle.linear.specs.Apart.{apart}
use Rattle.linear.specs.Loose.{InstanceOf, FitsRow, joined}
use Rattle.linear.proofs.Instances.{instance_fits, loosely_is_apart}
use Rattle.linear.proofs.Rows.{fits_loosely}
use Rattle.bank.specs.declared.cell.Cell.{Cell}
use Rattle.bank.specs.Means.{Means}
use Rattle.bank.proofs.Readings.{reads, means_one}
use Rattle.trie.specs.declared.branch.Label.{Label}
use Rattle.trie.specs.declared.branch.Label.TheVariants.{Number}
use Rattle.trie.specs.declared.trie.Trie.{Trie}
use Rattle.trie.specs.Contents.{strings_of, label_of, labels, string_of}
use Rattle.discrimination.specs.Retrieval.{Candidate, Numbered, Retrieved, Found}
use Rattle.index.specs.Maps.{Map}
use Rattle.index.specs.Questions.{Asked}
use Rattle.index.specs.Found.{Generalizes, Candidates}
use Rattle.discrimination_tree.specs.Rows.{Tied}
use Rattle.discrimination_tree.specs.Loose.{LooselyGeneralizes, LooseGeneralizations}
use Rattle.discrimination_tree.proofs.Ties.{Holds, one_number, holds}

clash : {A : Type 0} → ◌≡◌ {A = ℕ} 0 1 → A
clash e = absurd (let z : ⊥ = omega arith in z)

-- rows with their numbers are equal only if the labels before the numbers are
same_front : (us vs : List Label) (n k : ℕ) → us ++ (Number n ∷ []) ≡ vs ++ (Number k ∷ []) → us ≡ vs
same_front [] [] n k e = refl
same_front [] (v ∷ []) n k e = clash cc
same_front [] (v ∷ (w ∷ vs)) n k e = clash cc
same_front (u ∷ []) [] n k e = clash cc
same_front (u ∷ (w ∷ us)) [] n k e = clash cc
same_front (u ∷ us) (v ∷ vs) n k e =
    let rest : us ++ (Number n ∷ []) ≡ vs ++ (Number k ∷ []) = cc in
    let same = same_front us vs n k rest in
    cc

-- whether terms fit a row is a matter of its labels
fits_same : (ns ms : List Node) (ts : Terms) → map label_of ns ≡ map label_of ms → FitsRow ns ts → FitsRow ms ts
fits_same [] [] ts e f = f
fits_same [] (m ∷ ms) ts e f = clash cc
fits_same (n ∷ ns) [] ts e f = clash cc
fits_same (n ∷ ns) (m ∷ ms) nil e f = f
fits_same (Var x ∷ ns) (Var y ∷ ms) (t ▹ ts) e f = fits_same ns ms ts (cc) f
fits_same (Var x ∷ ns) (App g b ∷ ms) (t ▹ ts) e f = clash cc
fits_same (App f a ∷ ns) (Var y ∷ ms) (t ▹ ts) e h = clash cc
fits_same (App f a ∷ ns) (App g b ∷ ms) (var y ▹ ts) e h = h
fits_same (App f a ∷ ns) (App g b ∷ ms) (app k us ▹ ts) e h =
    let p : g ≡ f = cc in
    let q : b ≡ a = cc in
    (p ∙ h.0, q ∙ h.1, fits_same ns ms (joined us ts) (cc) h.2)

decoded : (o : Option Term) → is_some o ≡ true → o ≡ Some (unwrap_or o (var 0))
decoded None e = absurd (false≢true e)
decoded (Some t) e = refl

decodes : (p : Pattern) → decode (nodes_of p) ≡ Some (term_of p)
decodes p = decoded (decode (nodes_of p)) p.whole

-- two terms whose rows have the same labels have the same instances, with their variables apart
same_instances : (ns ms : List Node) (p q t : Term) → decode ns ≡ Some p → decode ms ≡ Some q → map label_of ns ≡ map label_of ms → InstanceOf (apart p) t → InstanceOf (apart q) t
same_instances ns ms p q t dp dq e i =
    (loosely_is_apart q t).0 ((fits_loosely ms q t dq).0 (fits_same ns ms (t ▹ nil) e ((fits_loosely ns p t dp).1 ((loosely_is_apart p t).1 i))))

module _ (m : Map) (ss : List (List Label)) (h : Holds m ss) where
  numbered : Numbered ss
  numbered n ns ms i j =
      let s = (h (labels ns n)).0 i in
      let r = (h (labels ms n)).0 j in
      let a : n ≡ s.number = one_number ns (nodes_of s.pattern) n s.number s.is in
      let b : n ≡ r.number = one_number ms (nodes_of r.pattern) n r.number r.is in
      let c : m n ≡ Some s.pattern = ap m a ∙ s.under in
      let d : m n ≡ Some r.pattern = ap m b ∙ r.under in
      let p : s.pattern ≡ r.pattern = cc in
      same_front (map label_of ns) (map label_of ms) n n (s.is ∙ ap (λ x. string_of x s.number) p ∙ ap (string_of r.pattern) (sym a ∙ b) ∙ sym r.is)

  module _ (b : List Cell) (i : ℕ) (t : Term) (means : Means b i t) where
    candidate : (n : ℕ) → Candidate ss t n → LooselyGeneralizes m b i n
    candidate n c =
        let s = (h (labels c.0 n)).0 c.2 in
        let q = s.pattern in
        let e : n ≡ s.number = one_number c.0 (nodes_of q) n s.number s.is in
        let same = same_front (map label_of c.0) (map label_of (nodes_of q)) n s.number s.is in
        let x = same_instances c.0 (nodes_of q) c.1 (term_of q) t c.3 (decodes q) same c.4 in
        record { pattern = q; stored = ap m e ∙ s.under; fits = record { inst = x.0; means = subst (Means b i) (sym x.1) means } }

    generalizing : (n : ℕ) → LooselyGeneralizes m b i n → Candidate ss t n
    generalizing n g =
        let p = g.pattern in
        (nodes_of p, term_of p, (h (string_of p n)).1 record { number = n; pattern = p; under = g.stored; is = refl }, decodes p, (g.fits.inst, means_one b g.fits.means means))

    pub loosely : (xs : List ℕ) → Retrieved ss t xs → LooseGeneralizations m b i xs
    loosely xs r = record {
      once = r.once numbered;
      only = λ n k. candidate n (r.sound n k);
      all = λ n g. r.complete n (generalizing n g);
    }

pub found : (m : Map) (T : Trie) (b : List Cell) (i : ℕ) (list ys : List ℕ) (k : ℕ) → Tied m (strings_of T) → length list ≡ length ys → Found T b i ys k
    → (S : Sig) → Asked S b i 64 list → LooseGeneralizations m b i (take k ys)
found m T b i list ys k tied long f S a =
    let r = reads S b a.rules i a.counted in
    loosely m (strings_of T) (holds m (strings_of T) tied) b i r.0 r.1 (take k ys) (f.all S a.rules r.0 r.1 (omega (arith, a.room)))

loosely_more : (m : Map) (b : List Cell) (i n : ℕ) → Generalizes m b i n → LooselyGeneralizes m b i n
loosely_more m b i n g =
    let p = term_of g.pattern in
    let t = sub g.fits.inst p in
    let x = (loosely_is_apart p t).0 (instance_fits p t (g.fits.inst, refl)) in
    record { pattern = g.pattern; stored = g.stored; fits = record { inst = x.0; means = subst (Means b i) (sym x.1) g.fits.means } }

pub candidates : (m : Map) (b : List Cell) (i : ℕ) (xs : List ℕ) → LooseGeneralizations m b i xs → Candidates m b i xs
candidates m b i xs g = record { once = g.once; only = λ n k. ap is_some (g.only n k).stored; all = λ n k. g.all n (loosely_more m b i n k) }
