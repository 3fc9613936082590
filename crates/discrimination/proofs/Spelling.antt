-- A row of labels, one label further on.
use Rattle.std.proofs.Common.{◌≡◌, ℕ, ◌+◌, ◌-◌, ◌≤◌, true, false, ltb, List, [], ◌∷◌, length, Some, None, Option, sym, refl, ap, ◌∙◌, subst, arith}
use Rattle.std.proofs.lemmas.Bool.{and_parts, ltb-true, true≢false}
use Rattle.terms.specs.Term.{Terms, nil, ◌▹◌, width}
use Rattle.terms.specs.Preorder.{row, small, all_small}
use Rattle.terms.specs.declared.pattern.Node.{Node}
use Rattle.terms.specs.declared.pattern.Node.TheVariants.{Var, App}
use Rattle.linear.specs.Loose.{joined}
use Rattle.linear.proofs.Rows.{behind_var, behind_app}
use Rattle.trie.specs.declared.branch.Label.{Label}
use Rattle.trie.specs.declared.branch.Label.TheVariants.{Star, Symbol, Number}
use Rattle.trie.specs.Trees.{nodes_in, is_number}
use Rattle.discrimination.specs.Cells.{wants}
use Rattle.discrimination.specs.Frames.{Spells}

pub none_some : {X : Type 0} {x : X} → None ≡ Some x → ⊥
none_some e = let z : ◌≡◌ {A = ℕ} 0 1 = cc in omega arith

abbrev With : Node → Option (List Node) → Option (List Node)
With n None = None
With n (Some ns) = Some (n ∷ ns)

with_node : (n : Node) (o : Option (List Node)) (ns : List Node) → With n o ≡ Some ns → (ms : List Node) × (o ≡ Some ms) × (ns ≡ n ∷ ms)
with_node n None ns e = absurd (none_some e)
with_node n (Some ms) ns e = (ms, refl, cc)

star_with : (o : Option (List Node)) → ◌≡◌ {A = Option (List Node)} (elim o [ None ↦ None | Some ns ↦ Some (Var 0 ∷ ns) ]) (With (Var 0) o)
star_with None = refl
star_with (Some ns) = refl

symbol_with : (f a : ℕ) (o : Option (List Node)) → ◌≡◌ {A = Option (List Node)} (elim o [ None ↦ None | Some ns ↦ Some (App f a ∷ ns) ]) (With (App f a) o)
symbol_with f a None = refl
symbol_with f a (Some ns) = refl

joined_width : (ts us : Terms) → width (joined ts us) ≡ width ts + width us
joined_width nil us = omega arith
joined_width (t ▹ ts) us = let h = joined_width ts us in omega arith

row_width : (ns : List Node) (ts : Terms) → row ns ≡ Some ts → width ts ≤ length ns
row_width [] ts e = let z : nil ≡ ts = cc in omega (arith, ap width z)
row_width (Var x ∷ ns) ts e =
    let b = behind_var x (row ns) ts e in
    let h = row_width ns b.0 b.1 in
    omega (arith, ap width b.2)
row_width (App f a ∷ ns) ts e =
    let b = behind_app f a (row ns) ts e in
    let h = row_width ns b.all b.is in
    omega (arith, ap width b.heads, ap width b.cuts.joins, joined_width b.parts.0 b.parts.1)

pub spells_wide : {m d : ℕ} {s : List Label} → Spells m d s → d ≤ m
spells_wide h = let w = row_width h.nodes h.reads.terms h.reads.is in omega (arith, h.short, h.reads.tall)

abbrev pub Arity : Label → Type 0
Arity Star = Unit {0}
Arity (Symbol f a) = a ≤ 4
Arity (Number n) = Unit {0}

pub record Stepped (l : Label) (m d : ℕ) (s : List Label) : Type 0 where
  pub deeper : 1 ≤ m
  pub wanted : 1 ≤ d
  pub arity : Arity l
  pub rest : Spells (m - 1) (wants l d) s

pub spells_step : (l : Label) (m d : ℕ) (s : List Label) → is_number l ≡ false → Spells m d (l ∷ s) → Stepped l m d s
spells_step Star m d s e h =
    let w = with_node (Var 0) (nodes_in s) h.nodes (sym (star_with (nodes_in s)) ∙ h.is) in
    let b = behind_var 0 (row w.0) h.reads.terms (sym (ap row w.2) ∙ h.reads.is) in
    let size = ap length w.2 in
    let tall = ap width b.2 in
    let small = (and_parts (small (Var 0)) (all_small w.0) (subst (λ ns. all_small ns ≡ true) w.2 h.small)).1 in
    record {
      deeper = omega (arith, h.short);
      wanted = omega (arith, h.reads.tall);
      arity = tt;
      rest = record {
        nodes = w.0;
        is = w.1;
        short = omega (arith, h.short);
        small = small;
        reads = record { terms = b.0; is = b.1; tall = omega (arith, h.reads.tall) };
      };
    }
spells_step (Symbol f a) m d s e h =
    let w = with_node (App f a) (nodes_in s) h.nodes (sym (symbol_with f a (nodes_in s)) ∙ h.is) in
    let b = behind_app f a (row w.0) h.reads.terms (sym (ap row w.2) ∙ h.reads.is) in
    let size = ap length w.2 in
    let tall = ap width b.heads in
    let both = joined_width b.parts.0 b.parts.1 in
    let all = ap width b.cuts.joins in
    let both_small = and_parts (small (App f a)) (all_small w.0) (subst (λ ns. all_small ns ≡ true) w.2 h.small) in
    let few = ltb-true a 5 (and_parts (ltb f 64) (ltb a 5) both_small.0).1 in
    record {
      deeper = omega (arith, h.short);
      wanted = omega (arith, h.reads.tall);
      arity = omega arith;
      rest = record {
        nodes = w.0;
        is = w.1;
        short = omega (arith, h.short);
        small = both_small.1;
        reads = record { terms = b.all; is = b.is; tall = omega (arith, h.reads.tall, b.cuts.wide) };
      };
    }
spells_step (Number n) m d s e h = absurd (true≢false e)
