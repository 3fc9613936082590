use Rattle.std.proofs.Common.{◌≡◌, ◌<◌, List, get_or, sym, ap, ◌∙◌, subst, ap₂, arith, rules}
use Rattle.std.proofs.lemmas.Bool.{both_ways}
use Rattle.terms.specs.Term.{Term}
use Rattle.terms.specs.Preorder.{preorder}
use Rattle.terms.specs.declared.pattern.Node.{Node}
use Rattle.terms.specs.declared.pattern.Node.TheVariants.{Var}
use Rattle.signature.specs.Signatures.{sig_of}
use Rattle.signature.proofs.Symbols.{weight_some}
use Rattle.rewriting.specs.Count.{weigh}
use Rattle.rewriting.specs.Kbo.{Kbo}
use Rattle.rewriting.proofs.Kbo.{kbo_covers, kbo_weigh}
use Rattle.subterms.proofs.Counting.{covers_preorder}
use Rattle.kbo.specs.Weights.{row_weight}
use Rattle.kbo.specs.Verdicts.{Says, by_heads}
use Rattle.kbo.specs.declared.heads.Verdict.{Verdict}
use Rattle.kbo.proofs.Rows.{weight_preorder}
use Rattle.kbo.proofs.Verdicts.{heads_say}
use Rattle.kbo.proofs.heads.judge.Goals as goal
use Rattle.kbo.proofs.heads.judge.Goals.{After-weight-2}

pub returns-then-not-covers : goal.returns-then-not-covers
returns-then-not-covers c u v eu ev h =
    let g = c.args.signature.now in
    let d = covers_preorder u v _ _ eu ev _ c.covers.ensures in
    both_ways _ c.if-not-covers.true (d.1 (kbo_covers (sig_of g).weight (weight_some g) h))

-- the weights of the two terms
heavy : (c : After-weight-2) (u : Term) → c.args.s.now ≡ preorder u → c.weight.result ≡ weigh (sig_of c.args.signature.now).weight u
heavy c u e = let w = (sig_of c.args.signature.now).weight in c.weight.ensures ∙ ap (row_weight w) e ∙ weight_preorder w u

light : (c : After-weight-2) (v : Term) → c.args.t.now ≡ preorder v → c.weight-2.result ≡ weigh (sig_of c.args.signature.now).weight v
light c v e = let w = (sig_of c.args.signature.now).weight in c.weight-2.ensures ∙ ap (row_weight w) e ∙ weight_preorder w v

pub returns-in-Greater : goal.returns-in-Greater
returns-in-Greater c u v eu ev =
    let d = covers_preorder u v _ _ eu ev _ c.covers.ensures in
    let o = (goal.at.returns-in-Greater c).After-weight-2 in
    let more : c.weight-2.result < c.weight.result = search rules in
    Kbo.by_weight (d.0 c.if-not-covers.false) (omega (arith, heavy o u eu, light o v ev, more))

pub returns-in-Less : goal.returns-in-Less
returns-in-Less c u v eu ev h =
    let g = c.args.signature.now in
    let o = (goal.at.returns-in-Less c).After-weight-2 in
    let less : c.weight.result < c.weight-2.result = search rules in
    omega (arith, heavy o u eu, light o v ev, kbo_weigh (sig_of g).weight (weight_some g) h, less)

pub returns-in-Equal : goal.returns-in-Equal
returns-in-Equal c u v eu ev =
    let g = c.args.signature.now in
    let d = covers_preorder u v _ _ eu ev _ c.covers.ensures in
    let o = (goal.at.returns-in-Equal c).After-weight-2 in
    let same : c.weight.result ≡ c.weight-2.result = search rules in
    let even : weigh (sig_of g).weight v ≡ weigh (sig_of g).weight u = omega (arith, heavy o u eu, light o v ev, same) in
    let read : by_heads (get_or (preorder u) 0 (Var 0)) (get_or (preorder v) 0 (Var 0)) ≡ c.compare_heads.result = sym (c.compare_heads.ensures ∙ ap₂ (λ (ms ns : List Node). by_heads (get_or ms 0 (Var 0)) (get_or ns 0 (Var 0))) eu ev) in
    subst (λ (r : Verdict). Says (sig_of g).weight r u v) read (heads_say (sig_of g).weight u v (d.0 c.if-not-covers.false) even)
