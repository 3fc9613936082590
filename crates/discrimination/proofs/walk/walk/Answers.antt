use Rattle.std.proofs.Common.{◌≡◌, [], ◌++◌, length, reverse, sym, ap, ◌∙◌, arith}
use Rattle.discrimination.specs.Frames.{frames, laid, total}
use Rattle.discrimination.proofs.Starting.{start_ready, start_total, end_total}
use Rattle.discrimination.proofs.Finding.{found}
use Rattle.discrimination.proofs.walk.walk.Goals as goal

pub loop-frame-init : goal.loop-frame-init
loop-frame-init c =
    let T = c.args.trie.now in
    let p = c.one-pending.result in
    let fs = frames c.lay.new.agenda in
    let one = ap length c.one-pending.ensures in
    let start : fs ≡ laid T.marks.root p ++ [] = grind arith in
    record {
      ready = start_ready T p one fs start;
      counted = omega arith;
      same = start_total T p one c.args.bank.now c.args.cell fs c.args.list.now c.one-pending.ensures start;
    }

pub returns : goal.returns
returns c =
    let T = c.args.trie.now in
    let b = c.args.bank.now in
    let ys = c.loop-frame.list in
    let n = c.loop-frame.found.len in
    let inv = c.loop-frame.invariant in
    let none = c.in_default.ensures.0 in
    found T b c.args.cell ys n inv.counted (end_total b T ys _ n inv.counted (sym (ap (λ xs. total b T.nodes (reverse xs) ys n) none) ∙ inv.same))
