-- What the walk over the entries keeps: those passed are chosen or not, and the front of the list has the chosen numbers.
use Rattle.std.proofs.Common.{◌≡◌, ℕ, ◌+◌, ◌<◌, ◌≤◌, Bool, true, false, cond, List, [], ◌∷◌, ◌++◌, length, get_or, take, set, Decides, sym, refl, ap, ◌∙◌, subst, inl, inr, arith}
use Rattle.std.proofs.lemmas.List.{append-nil, length-set, map-append, length_push, length-map, get_or-map, get_or_append_left, get_or_push, take_more, take_more_set, take_all}
use Rattle.std.proofs.lemmas.Bool.{cases_lt}
use Rattle.lent_list.specs.Words.{Appended}
use Rattle.lists.specs.Members.{Once}
use Rattle.lists.specs.Chosen.{chosen_of}
use Rattle.lists.proofs.Members.{in_at}
use Rattle.lists.proofs.Chosen.{chosen_push}
use Rattle.terms.specs.Sig.{Sig}
use Rattle.terms.specs.Patterns.{term_of}
use Rattle.bank.specs.declared.cell.Cell.{Cell}
use Rattle.bank.specs.Rules.{Rules}
use Rattle.bank.specs.Bindings.{Instance}
use Rattle.index.specs.Found.{Generalizes, Generalizations}
use Rattle.index.specs.Questions.{Asked}
use Rattle.index.proofs.Choosing.{chosen, all_stored, decides_stored}
use Rattle.entries.specs.Lookup.{lookup, numbers}
use Rattle.entries.specs.Stored.{entries_of, numbers_of, map_of}
use Rattle.entries.specs.declared.Entry.{Entry}
use Rattle.entries.specs.declared.Entries.{Entries}
use Rattle.entries.proofs.Lookups.{listed, in_numbers, numbers_in}
use Rattle.entries.proofs.Stores.{apart, fits}

pub record Passed (b : List Cell) (i : ℕ) (es : List Entry) (ns : List ℕ) : Type 0 where
  pub choice : List Bool
  pub long : length choice ≡ length es
  pub is : ns ≡ chosen_of choice (numbers es)
  pub right : (k : ℕ) (d : Entry) → k < length es → Decides (get_or choice k false) (Instance b (term_of (get_or es k d).pattern) i)

pub record Going (b : List Cell) (i : ℕ) (es : List Entry) (list : List ℕ) (len k : ℕ) : Type 0 where
  pub few : len ≤ k
  pub within : len ≤ length list
  pub passed : (S : Sig) → Asked S b i (length es) list → Passed b i (take k es) (take len list)

pub start : (b : List Cell) (i : ℕ) (es : List Entry) (list : List ℕ) → Going b i es list 0 0
start b i es list = record {
  few = omega arith;
  within = omega arith;
  passed = λ S a. record { choice = []; long = refl; is = refl; right = λ k d l. absurd (let z : ⊥ = omega arith in z) };
}

passed_push : {b : List Cell} {i : ℕ} {es : List Entry} {ns : List ℕ} (e : Entry) (c : Bool) → Passed b i es ns → Decides c (Instance b (term_of e.pattern) i) → Passed b i (es ++ e ∷ []) (ns ++ cond c (e.number ∷ []) [])
passed_push {b = b} {i = i} {es = es} {ns = ns} e c p h =
    let cs = p.choice in
    let size : length cs ≡ length (numbers es) = p.long ∙ sym (length-map es (λ x. x.number)) in
    record {
      choice = cs ++ c ∷ [];
      long = omega (arith, length_push cs c, length_push es e, p.long);
      is = ap (λ zs. zs ++ cond c (e.number ∷ []) []) p.is ∙ sym (chosen_push cs (numbers es) c e.number size) ∙ ap (chosen_of (cs ++ c ∷ [])) (sym (map-append (λ x. x.number) es (e ∷ [])));
      right = λ k d l.
          let D = λ (r : Bool). λ (x : Entry). Decides r (Instance b (term_of x.pattern) i) in
          elim (cases_lt k (length es)) [
            | inl q ↦
                let f : get_or cs k false ≡ get_or (cs ++ c ∷ []) k false = sym (get_or_append_left cs (c ∷ []) false k (omega (arith, p.long))) in
                let g : get_or es k d ≡ get_or (es ++ e ∷ []) k d = sym (get_or_append_left es (e ∷ []) d k q) in
                subst (λ r. D r (get_or (es ++ e ∷ []) k d)) f (subst (D (get_or cs k false)) g (p.right k d q))
            | inr q ↦
                let at : k ≡ length es = omega (arith, length_push es e) in
                let f : c ≡ get_or (cs ++ c ∷ []) k false = sym (get_or_push cs c false k (p.long ∙ sym at)) in
                let g : e ≡ get_or (es ++ e ∷ []) k d = sym (get_or_push es e d k (sym at)) in
                subst (λ r. D r (get_or (es ++ e ∷ []) k d)) f (subst (D c) g h)
          ];
    }

module _ {b : List Cell} {i : ℕ} {es : List Entry} {list : List ℕ} {len k : ℕ} (g : Going b i es list len k) (e : Entry) (l : k < length es) (is : e ≡ get_or es k e) where
  one_more : take (k + 1) es ≡ take k es ++ e ∷ []
  one_more = take_more es k e l ∙ ap (λ x. take k es ++ x ∷ []) (sym is)

  abbrev Right : Bool → Type 0
  Right c = (S : Sig) → Rules S b → i < length b → Decides c (Instance b (term_of e.pattern) i)

  pub takes : len < length list → Right true → Going b i es (set list len e.number) (len + 1) (k + 1)
  takes room right = record {
    few = omega (arith, g.few);
    within = omega (arith, length-set list len e.number);
    passed = λ S a.
        let was : Asked S b i (length es) list = record { few = a.few; rules = a.rules; counted = a.counted; room = omega (arith, a.room, length-set list len e.number) } in
        subst (λ zs. Passed b i zs (take (len + 1) (set list len e.number))) (sym one_more)
        (subst (Passed b i (take k es ++ e ∷ [])) (sym (take_more_set list len e.number room)) (passed_push e true (g.passed S was) (right S a.rules a.counted)));
  }

  pub skips : Right false → Going b i es list len (k + 1)
  skips right = record {
    few = omega (arith, g.few);
    within = g.within;
    passed = λ S a.
        subst (λ zs. Passed b i zs (take len list)) (sym one_more)
        (subst (Passed b i (take k es ++ e ∷ [])) (append-nil (take len list)) (passed_push e false (g.passed S a) (right S a.rules a.counted)));
  }

  -- there is room wherever the list is long enough
  pub no_room : length list ≤ len → Going b i es list len (k + 1)
  no_room full = record {
    few = omega (arith, g.few);
    within = g.within;
    passed = λ S a. absurd (let z : ⊥ = omega (arith, a.room, g.few) in z);
  }

  pub appends : (r : Bool) (ys : List ℕ) (m : ℕ) → Appended list len ys m e.number r → Right true → Going b i es ys m (k + 1) × (length ys ≡ length list)
  appends true ys m h right = (rw (h.1, h.2) (takes h.0 right), ap length h.1 ∙ length-set list len e.number)
  appends false ys m h right = (rw (h.1, h.2) (no_room h.0), ap length h.1)

decided : (b : List Cell) (i : ℕ) (es : List Entry) (d : Entry) (j : ℕ) (r : Bool) → Once (numbers es) → j < length es → Decides r (Instance b (term_of (get_or es j d).pattern) i)
    → Decides r (Generalizes (lookup es) b i (get_or (numbers es) j 0))
decided b i es d j r once l h =
    let e = get_or es j d in
    subst (λ n. Decides r (Generalizes (lookup es) b i n)) (sym (get_or-map (λ x. x.number) es j d 0 l)) (decides_stored (lookup es) b i e.number e.pattern r (listed es e once (in_at es j d l)) h)

generalized : (b : List Cell) (i : ℕ) (es : List Entry) (ns : List ℕ) → Once (numbers es) → Passed b i es ns → Generalizations (lookup es) b i ns
generalized b i es ns once p =
    let candidates = all_stored (lookup es) b i (numbers es) record { once = once; all = in_numbers es; only = numbers_in es } in
    subst (Generalizations (lookup es) b i) (sym p.is) (chosen (lookup es) b i p.choice (numbers es) candidates (λ j l.
    let k : j < length es = omega (arith, length-map es (λ x. x.number)) in
    let e = some_entry es j k in
    decided b i es e j (get_or p.choice j false) once k (p.right j e k)))
  where
    some_entry : (xs : List Entry) (j : ℕ) → j < length xs → Entry
    some_entry [] j l = absurd (let z : ⊥ = omega arith in z)
    some_entry (x ∷ xs) j l = x

-- the list as it was lent, as it is now, and as it is given back
pub finished : {b : List Cell} {i : ℕ} {es : List Entry} {was list list' : List ℕ} {len len' k : ℕ} → Going b i es list len k → length list ≡ length was → length es ≤ k → list' ≡ list → len' ≡ len
    → (S : Sig) → Asked S b i (length es) was → Once (numbers es) → Generalizations (lookup es) b i (take len' list')
finished {b = b} {i = i} {es = es} {list = list} {len = len} {k = k} g long past e f S a once =
    let asked : Asked S b i (length es) list = record { few = a.few; rules = a.rules; counted = a.counted; room = omega (arith, a.room) } in
    let p : Passed b i es (take len list) = subst (λ zs. Passed b i zs (take len list)) (take_all k es past) (g.passed S asked) in
    rw (e, f) (generalized b i es (take len list) once p)

-- an index over the entries is asked about the cell
pub answers : (s : Entries 128) (es : List Entry) (b : List Cell) (i len : ℕ) (list list' : List ℕ) → es ≡ entries_of s
    → ((S : Sig) → Asked S b i (length es) list → Once (numbers es) → Generalizations (lookup es) b i (take len list'))
    → (S : Sig) → Asked S b i 128 list → Generalizations (map_of s) b i (take len list')
answers s es b i len list list' is finds S a =
    let size : length es ≡ length (numbers_of s) = ap length is ∙ sym (length-map (entries_of s) (λ x. x.number)) in
    subst (λ zs. Generalizations (lookup zs) b i (take len list')) is
    (finds S record { few = a.few; rules = a.rules; counted = a.counted; room = omega (arith, a.room, size, fits s) } (subst (λ zs. Once (numbers zs)) (sym is) (apart s)))
