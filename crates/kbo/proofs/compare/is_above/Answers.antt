use Rattle.std.proofs.Common.{ℕ, ◌<◌, ◌≤◌, length, ap, ◌∙◌, arith}
use Rattle.std.proofs.lemmas.Bool.{false≢true}
use Rattle.terms.specs.Term.{cells}
use Rattle.signature.specs.Signatures.{sig_of}
use Rattle.subterms.specs.Places.{at}
use Rattle.subterms.specs.Rows.{row_of}
use Rattle.subterms.specs.declared.Subterms.{Subterms}
use Rattle.subterms.proofs.Preorders.{length_preorder, cells_some}
use Rattle.subterms.proofs.Patterns.{pattern_short}
use Rattle.subterms.proofs.Tables.{end_is, end_most}
use Rattle.kbo.specs.Verdicts.{Says}
use Rattle.kbo.specs.declared.heads.Verdict.TheVariants.{ByArguments}
use Rattle.kbo.proofs.Verdicts.{same_widths, args_down, args_up}
use Rattle.kbo.proofs.compare.is_above.Goals as goal
use Rattle.kbo.proofs.compare.is_above.Goals.{In-ByArguments}

few : (s : Subterms) (p : ℕ) → p < length (row_of s) → cells (at (row_of s) p) ≤ 32
few s p h = omega (arith, end_is s p h, end_most s p h, pattern_short s.pattern)

pub judge-requires : goal.judge-requires
judge-requires c =
    let s = c.args.s.now in
    let t = c.args.t.now in
    let p = c.loop-i.p in
    let q = c.loop-i.q in
    let inv = c.loop-i.invariant in
    let m = ap length (c.subterm.ensures.there inv.0) ∙ length_preorder (at (row_of s) p) in
    let n = ap length (c.subterm-in-loop-i.ensures.there inv.1) ∙ length_preorder (at (row_of t) q) in
    (omega (arith, m, few s p inv.0), (omega (arith, n, few t q inv.1), (omega (arith, m, cells_some (at (row_of s) p)), omega (arith, n, cells_some (at (row_of t) q)))))

said : (c : In-ByArguments) → Says (sig_of c.args.signature.now).weight ByArguments (at (row_of c.args.s.now) c.loop-i.p) (at (row_of c.args.t.now) c.loop-i.q)
said c = c.in-ByArguments.ensures _ _ (c.subterm.ensures.there c.loop-i.invariant.0) (c.subterm-in-loop-i.ensures.there c.loop-i.invariant.1)

pub first_difference-requires : goal.first_difference-requires
first_difference-requires c =
    same_widths (sig_of c.args.signature.now).weight _ _ (said c).2

pub returns-in_default : goal.returns-in_default
returns-in_default c =
    let w = (sig_of c.args.signature.now).weight in
    let says = said (goal.at.returns-in_default c).In-ByArguments in
    (λ e. absurd (false≢true e), λ h. absurd (c.in_default.ensures w (args_down w _ _ says (c.loop-i.invariant.2 h))))

pub loop-i-preserved : goal.loop-i-preserved
loop-i-preserved c =
    let w = (sig_of c.args.signature.now).weight in
    let says = said (goal.at.loop-i-preserved c).In-ByArguments in
    let d = c.in-Some.ensures in
    (d.inside, d.inside', λ h. d.down w (args_down w _ _ says (c.loop-i.invariant.2 h)), λ h. c.loop-i.invariant.3 (args_up w _ _ says (d.up w h)))
