-- One turn, argued from what its calls give.
use Rattle.std.proofs.Common.{◌≡◌, ℕ, ◌+◌, ◌<◌, ◌≤◌, Bool, false, List, ◌++◌, length, get_or, take, set, Some, None, Decides, Option, sym, refl, ap, ◌∙◌, subst, arith, length-append}
use Rattle.std.proofs.lemmas.List.{length-take-le}
use Rattle.terms.specs.Term.{sub}
use Rattle.terms.specs.Sig.{Sig}
use Rattle.terms.specs.Patterns.{term_of}
use Rattle.bank.specs.declared.cell.Cell.{Cell}
use Rattle.bank.specs.Rules.{Rules}
use Rattle.bank.specs.Means.{Means}
use Rattle.bank.proofs.Readings.{reads, grown, means_one}
use Rattle.index.specs.Maps.{Map, Same}
use Rattle.index.specs.Found.{Generalizes}
use Rattle.reach.specs.Marks.{Marked}
use Rattle.reduction.specs.declared.outcome.Outcome.TheVariants.{Finished, Spent, NoRoom}
use Rattle.reduction.specs.Reaches.{Reaches}
use Rattle.reduction.specs.Redexes.{Equations, highers, Picked}
use Rattle.reduction.specs.Steps.{Stepped}
use Rattle.reduction.proofs.Subterms.{reached_below}
use Rattle.strategy.specs.Searches.{Searchable, Settled, Choice, Searched}
use Rattle.strategy.specs.declared.Redex.{Redex}
use Rattle.apply.specs.Applies.{Redo, Applies}
use Rattle.apply.specs.declared.Applied.{Applied}
use Rattle.terms.specs.declared.side.Side.{Side}
use Rattle.trace.specs.declared.Step.{Step}
use Rattle.run.specs.Sides.{Ready, Onward, Halted}

-- one map for another
module _ (m m' : Map) (same : Same m' m) where
  pub other_map : (b : List Cell) (i n : ℕ) → Generalizes m b i n → Generalizes m' b i n
  other_map b i n g = record { pattern = g.pattern; stored = sym (same n) ∙ g.stored; fits = g.fits }

  pub back_map : (b : List Cell) (i n : ℕ) → Generalizes m' b i n → Generalizes m b i n
  back_map b i n g = record { pattern = g.pattern; stored = same n ∙ g.stored; fits = g.fits }

  pub other_picked : (b : List Cell) (r j n : ℕ) → Picked m b r j n → Picked m' b r j n
  other_picked b r j n p = record {
    reached = p.reached;
    applies = other_map b j n p.applies;
    earliest = λ i k q g. p.earliest i k q (back_map b i k g);
    lowest = λ k g. p.lowest k (back_map b j k g);
  }

-- a cell of the old bank is an instance in the grown bank only if it was
pub was_instance : (S : Sig) (m : Map) (b more : List Cell) → Rules S b → (k n : ℕ) → k < length b → Generalizes m (b ++ more) k n → Generalizes m b k n
was_instance S m b more rules k n l g =
    let t = reads S b rules k l in
    let same-term : t.0 ≡ sub g.fits.inst (term_of g.pattern) = means_one (b ++ more) (grown b more t.0 t.1) g.fits.means in
    record { pattern = g.pattern; stored = g.stored; fits = record { inst = g.fits.inst; means = subst (Means b k) same-term t.1 } }

pub settled_grown : (S : Sig) (m : Map) (b b' more : List Cell) (settled : List Bool) → Rules S b → b' ≡ b ++ more → Settled m b settled → Settled m b' settled
settled_grown S m b b' more settled rules e h = subst (λ z. Settled m z settled) (sym e) (record {
  within = λ k on. (let l = h.within k on in let long = length-append b more in omega (arith, l, long));
  none = λ k n on g. h.none k n on (was_instance S m b more rules k n (h.within k on) g);
})

module _ (S : Sig) (E : Equations) (m low : Map) (side : Side) (r : ℕ) (cells : List Cell) (n : ℕ) (trace : List Step) (k : ℕ) (settled : List Bool) (h : Ready S E m low r cells n (length trace) k settled) where
  abbrev b : List Cell
  b = take n cells

  size : length b ≡ n
  size = length-take-le n cells h.counted

  searchable : Searchable S b r
  searchable = record { few = omega (arith, size, h.counted, h.few); rules = h.rules; within = omega (arith, size, h.root) }

  module _ (marks settled' : List Bool) (long : length marks ≡ 2048) (same-long : length settled' ≡ length settled) (marked : Marked b r marks) where
    decided : (i : ℕ) → Decides (get_or marks i false) (Reaches b r i)
    decided = marked.reaches S h.rules (omega (arith, searchable.few, long)) searchable.within

    search : (o : Option Redex) → Searched m b r marks settled settled' o → Settled m b settled' × Choice m b r o
    search o s = s S searchable (omega (arith, long, h.root, h.counted, h.few)) (omega (arith, h.marks, h.root, h.counted, h.few)) decided h.settled_none

    still_ready : Settled m b settled' → Ready S E m low r cells n (length trace) k settled'
    still_ready s = record {
      filed = h.filed;
      counted = h.counted;
      few = h.few;
      rules = h.rules;
      root = h.root;
      records = h.records;
      marks = same-long ∙ h.marks;
      settled_none = s;
    }

    pub finishes : Searched m b r marks settled settled' None → Halted S E m low r cells n trace k cells n trace k settled' Finished
    finishes s =
        let c = search None s in
        record {
          by = λ j i q g. c.1 j i q (back_map m (highers E) h.filed.higher b j i g);
          same_bank = (refl, refl, refl);
          same_trace = (refl, refl);
          ready = still_ready c.0;
        }

    module _ (x : Redex) (s : Searched m b r marks settled settled' (Some x)) where
      chosen : Settled m b settled' × Picked m b r x.cell x.equation
      chosen = search (Some x) s

      picked : Picked (highers E) b r x.cell x.equation
      picked = other_picked m (highers E) h.filed.higher b r x.cell x.equation chosen.1

      pub spends : length trace ≤ k → Halted S E m low r cells n trace k cells n trace k settled' Spent
      spends full = record {
        by = (x.cell, x.equation, picked, omega (arith, full));
        same_bank = (refl, refl, refl);
        same_trace = (refl, refl);
        ready = still_ready chosen.0;
      }

      given : Redo S E m low cells n r x.cell x.equation marks
      given = record {
        filed = h.filed;
        counted = h.counted;
        few = h.few;
        rules = h.rules;
        root = h.root;
        redex = (let up = reached_below S b r h.rules searchable.within chosen.1.reached in omega (arith, up, h.root));
        room = omega (arith, long, h.root, h.counted, h.few);
        marked = decided;
        applies = chosen.1.applies;
      }

      module _ (cells' : List Cell) (n' : ℕ) (room : k < length trace) where
        pub blocks : Applies m low cells n r x.cell x.equation marks cells' n' None → Halted S E m low r cells n trace k cells' n' trace k settled' NoRoom
        blocks a =
            let o = a.1 S E given in
            let same_cells : take n' cells' ≡ b = ap (λ z. take z cells') o.0 ∙ o.1 in
            record {
              by = (x.cell, x.equation, picked, o.2, omega (arith, room));
              same_bank = (a.0, o.0, o.1);
              same_trace = (refl, refl);
              ready = record {
                filed = h.filed;
                counted = omega (arith, o.0, a.0, h.counted);
                few = omega (arith, a.0, h.few);
                rules = subst (Rules S) (sym same_cells) h.rules;
                root = omega (arith, o.0, h.root);
                records = h.records;
                marks = same-long ∙ h.marks;
                settled_none = subst (λ z. Settled m z settled') (sym same_cells) chosen.0;
              };
            }

        pub goes_on : (y : Applied) (step : Step) → Applies m low cells n r x.cell x.equation marks cells' n' (Some y)
            → step ≡ record { side = side; equation = x.equation; replaced = x.cell; put_in = y.put_in; after = y.after }
            → Onward S E m low side r cells n trace k cells' n' (set trace k step) (k + 1) settled' y.after
        goes_on y step a e =
            let o = a.1 S E given in
            record {
              step = step;
              room = room;
              picked = subst (λ (z : Step). Picked (highers E) b r z.replaced z.equation) (sym e) picked;
              stepped = subst (λ (z : Step). Stepped (length cells) E b r z.replaced z.equation z.put_in (take n' cells') y.after) (sym e) o.stepped;
              after = ap (λ (z : Step). z.after) e;
              of_side = ap (λ (z : Step). z.side) e;
              written = (refl, refl);
              grown = record { size = a.0; more = o.more; grows = o.grows };
              ready = record {
                filed = h.filed;
                counted = o.within;
                few = omega (arith, a.0, h.few);
                rules = o.rules;
                root = o.after;
                records = omega (arith, room);
                marks = same-long ∙ h.marks;
                settled_none = settled_grown S m b (take n' cells') o.more settled' h.rules o.grows chosen.0;
              };
            }
