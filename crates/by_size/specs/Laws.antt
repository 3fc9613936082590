-- The order by size keeps the laws of a reduction order: a cell is a weight of 1.
use Rattle.std.specs.Prelude.{◌≡◌, ℕ, ◌+◌, ◌≤◌, refl}
use Rattle.std.proofs.Common.{ap₂, arith}
use mathlib.Core.WellFounded.InvImage
use mathlib.Core.WellFounded.Subrelation
use lib.WfN.{lt-wf_rel}
use Rattle.terms.specs.Term.{Term, Terms, var, app, nil, ◌▹◌, sub, cells, cellss}
use Rattle.rewriting.specs.Replace.{Arg}
use Rattle.rewriting.specs.Count.{weigh, weighs}
use Rattle.rewriting.proofs.Over.{Lawful}
use Rattle.rewriting.proofs.Count.{covers_stable, covers_occ, arg_counts, arg_weighs, heavier}
use Rattle.by_size.specs.Size.{Larger}

one : ℕ → ℕ
one f = 1

one_least : (f : ℕ) → 1 ≤ one f
unfolding one
one_least f = omega arith

mutual
  unfolding one

  cells_weigh : (t : Term) → weigh one t ≡ cells t
  cells_weigh (var x) = refl
  cells_weigh (app f ts) = let e = cellss_weigh ts in omega arith

  cellss_weigh : (ts : Terms) → weighs one ts ≡ cellss ts
  cellss_weigh nil = refl
  cellss_weigh (t ▹ ts) = ap₂ ◌+◌ (cells_weigh t) (cellss_weigh ts)

stable : (σ : ℕ → Term) (s t : Term) → Larger s t → Larger (sub σ s) (sub σ t)
stable σ s t h = (
  covers_stable σ s t h.0,
  omega (arith, h.1, heavier one one_least σ s t h.0, cells_weigh s, cells_weigh t, cells_weigh (sub σ s), cells_weigh (sub σ t)),
)

inside : (f : ℕ) (s t : Term) (ts us : Terms) → Arg s t ts us → Larger s t → Larger (app f ts) (app f us)
inside f s t ts us a h = (
  λ x. omega (arith, h.0 x, arg_counts x a),
  omega (arith, h.1, arg_weighs one a, cells_weigh s, cells_weigh t, cellss_weigh ts, cellss_weigh us),
)

pub larger_lawful : Lawful Larger
larger_lawful = record {
  stable = stable;
  inside = inside;
  ends = λ s. Subrelation.accessible (λ u v h. h.1) ((InvImage.wf cells lt-wf_rel.wf).apply s);
  bound = λ s t h x o. covers_occ s t h.0 x o;
}
