-- What stands at a place of a row that is the preorder of one term.
use Rattle.std.proofs.Common.{◌≡◌, ℕ, zero, suc, ◌+◌, ◌-◌, ◌<◌, ◌≤◌, List, [], ◌∷◌, ◌++◌, length, get_or, take, drop, Some, unwrap_or, sym, refl, ap, ◌∙◌, ap₂, arith}
use Rattle.std.proofs.lemmas.List.{length-append, length-drop, drop_more, drop-drop, drop_at, take_at}
use Rattle.terms.specs.Term.{Term, Terms, var, app, nil, ◌▹◌, width, cells}
use Rattle.terms.specs.Preorder.{in_front, row, decode, Whole, preorder, preorders}
use Rattle.terms.specs.declared.pattern.Node.{Node}
use Rattle.terms.specs.declared.pattern.Node.TheVariants.{Var, App}
use Rattle.subterms.specs.Places.{from, at, leading, arguments}
use Rattle.subterms.proofs.Preorders.{first, rest, rest_cons, rest_rest, width_rest, behind, read_var, read_app, read_wide, row_is, row_of_preorders, length_preorder, width_cells, whole_row}

reads_later : (p : ℕ) (ns : List Node) (ts : Terms) → row ns ≡ Some ts → (us : Terms) × (row (drop p ns) ≡ Some us)
reads_later zero ns ts e = (ts, e)
reads_later (suc p) [] ts e = (ts, e)
reads_later (suc p) (n ∷ ns) ts e = let b = behind n (row ns) ts e in reads_later p ns b.terms b.is

module _ (ns : List Node) (whole : Whole ns) where
  reads : (p : ℕ) → row (drop p ns) ≡ Some (from ns p)
  reads p =
      let w = whole_row ns whole in
      let r = reads_later p ns (w.0 ▹ nil) w.1 in
      r.1 ∙ ap Some (sym (ap (λ o. unwrap_or o nil) r.1))

  pub from_is : (p : ℕ) → preorders (from ns p) ≡ drop p ns
  from_is p = row_is (drop p ns) (from ns p) (reads p)

  pub from_whole : from ns 0 ≡ unwrap_or (decode ns) (var 0) ▹ nil
  from_whole = let w = whole_row ns whole in ap (λ o. unwrap_or o nil) w.1 ∙ sym (ap (λ o. unwrap_or o (var 0) ▹ nil) w.2)

  pub width_from : (p : ℕ) → width (from ns p) ≤ length ns - p
  width_from p = omega (arith, width_cells (from ns p), ap length (from_is p), length-drop p ns)

  pub step : (p : ℕ) (n : Node) → p < length ns → get_or ns p (Var 0) ≡ n → in_front n (Some (from ns (p + 1))) ≡ Some (from ns p)
  step p n h e = ap₂ in_front (sym e) (sym (reads (p + 1))) ∙ sym (ap row (drop_more ns p (Var 0) h)) ∙ reads p

  pub from_var : (p x : ℕ) → p < length ns → get_or ns p (Var 0) ≡ Var x → from ns p ≡ var x ▹ from ns (p + 1)
  from_var p x h e = read_var x (from ns (p + 1)) (from ns p) (step p (Var x) h e)

  pub from_app : (p f a : ℕ) → p < length ns → get_or ns p (Var 0) ≡ App f a → from ns p ≡ app f (first a (from ns (p + 1))) ▹ rest a (from ns (p + 1))
  from_app p f a h e = read_app f a (from ns (p + 1)) (from ns p) (step p (App f a) h e)

  pub args_there : (p f a : ℕ) → p < length ns → get_or ns p (Var 0) ≡ App f a → a ≤ width (from ns (p + 1))
  args_there p f a h e = read_wide f a (from ns (p + 1)) (from ns p) (step p (App f a) h e)

  from_some : (p : ℕ) → p < length ns → (ts : Terms) × (from ns p ≡ at ns p ▹ ts)
  from_some p h = by (from ns p) (from_is p)
    where
      by : (us : Terms) → preorders us ≡ drop p ns → (ts : Terms) × (us ≡ leading us ▹ ts)
      by nil e = absurd (omega (arith, ap length e, length-drop p ns))
      by (t ▹ ts) e = (ts, refl)

  -- the row from p on is the preorder of the subterm there and of what follows it
  pub slice : (p : ℕ) (ts : Terms) → from ns p ≡ at ns p ▹ ts → preorder (at ns p) ++ preorders ts ≡ drop p ns
  slice p ts e = ap preorders (sym e) ∙ from_is p

  -- what follows a subterm begins where it ends
  pub from_next : (p : ℕ) → p < length ns → from ns p ≡ at ns p ▹ from ns (p + cells (at ns p))
  from_next p h =
      let f = from_some p h in
      let t = at ns p in
      let after : drop (p + cells t) ns ≡ preorders f.0 = sym (drop-drop (cells t) p ns) ∙ ap (drop (cells t)) (sym (slice p f.0 f.1)) ∙ drop_at (preorder t) (preorders f.0) (cells t) (length_preorder t) in
      let there : from ns (p + cells t) ≡ f.0 = ap (λ o. unwrap_or o nil) (ap row after ∙ row_of_preorders f.0) in
      f.1 ∙ ap (λ us. t ▹ us) (sym there)

  pub end_within : (p : ℕ) → p < length ns → p + cells (at ns p) ≤ length ns
  end_within p h =
      let f = from_some p h in
      omega (arith, ap length (slice p f.0 f.1), length-append (preorder (at ns p)) (preorders f.0), length_preorder (at ns p), length-drop p ns)

  pub slice_is : (p : ℕ) → p < length ns → take (cells (at ns p)) (drop p ns) ≡ preorder (at ns p)
  slice_is p h =
      let f = from_some p h in
      ap (take (cells (at ns p))) (sym (slice p f.0 f.1)) ∙ take_at (preorder (at ns p)) (preorders f.0) (cells (at ns p)) (length_preorder (at ns p))

  -- where the rest of the row is what follows a subterm, the subterm ends
  pub ends_here : (p e : ℕ) → p < length ns → e ≤ length ns → from ns p ≡ at ns p ▹ from ns e → e ≡ p + cells (at ns p)
  ends_here p e h within is =
      omega (arith, ap length (slice p (from ns e) is), length-append (preorder (at ns p)) (preorders (from ns e)), length_preorder (at ns p), ap length (from_is e), length-drop e ns, length-drop p ns)

  -- a walk over the row: k terms are open before place i
  behind_node : (i : ℕ) → i < length ns → (t : Term) × (from ns i ≡ t ▹ rest (arguments (get_or ns i (Var 0))) (from ns (i + 1))) × (arguments (get_or ns i (Var 0)) ≤ width (from ns (i + 1)))
  behind_node i h = by (get_or ns i (Var 0)) refl
    where
      by : (n : Node) → get_or ns i (Var 0) ≡ n → (t : Term) × (from ns i ≡ t ▹ rest (arguments n) (from ns (i + 1))) × (arguments n ≤ width (from ns (i + 1)))
      by (Var x) e = (var x, from_var i x h e, omega arith)
      by (App f a) e = (app f (first a (from ns (i + 1))), from_app i f a h e, args_there i f a h e)

  pub walk_rest : (i k : ℕ) → i < length ns → 0 < k → rest k (from ns i) ≡ rest (k - 1 + arguments (get_or ns i (Var 0))) (from ns (i + 1))
  walk_rest i k h some =
      let b = behind_node i h in
      let a = arguments (get_or ns i (Var 0)) in
      ap (rest k) b.1 ∙ rest_cons k b.0 (rest a (from ns (i + 1))) some ∙ rest_rest (k - 1) a (from ns (i + 1))

  pub walk_width : (i k : ℕ) → i < length ns → 0 < k → k ≤ width (from ns i) → k - 1 + arguments (get_or ns i (Var 0)) ≤ width (from ns (i + 1))
  walk_width i k h some most =
      let b = behind_node i h in
      let a = arguments (get_or ns i (Var 0)) in
      omega (arith, ap width b.1, b.2, width_rest a (from ns (i + 1)) b.2)
