use Rattle.std.proofs.Common.{◌<◌, ◌≤◌, length, sym, refl, ◌∙◌, arith, rules}
use Rattle.trie.specs.Contents.{labels}
use Rattle.trie.proofs.Spelling.{labels_length}
use Rattle.trie.proofs.Seeking.{start, missing, v_within, turn_right, turn_down, turn_end, below_other}
use Rattle.trie.proofs.trie.seek.seek.Goals as goal

pub loop-v-init : goal.loop-v-init
loop-v-init c = let len = labels_length c.args.row.now c.args.number in start c.args.nodes.now c.args.root _ (labels c.args.row.now c.args.number) c.requires (omega arith)

pub bounds-nodes-v : goal.bounds-nodes-v
bounds-nodes-v c = v_within c.args.nodes.now c.args.root _ c.args.row.now c.args.number c.loop-v.link c.loop-v.cut c.loop-v.at c.in-Some.v c.loop-v.invariant c.follow.result c.follow.ensures c.in-Some.is _ refl

pub label_at-requires : goal.label_at-requires
label_at-requires c = let len = labels_length c.args.row.now c.args.number in omega (arith, c.loop-v.invariant.within)

pub returns-then-at-row : goal.returns-then-at-row
returns-then-at-row c =
    turn_end c.args.nodes.now c.args.root _ c.args.row.now c.args.number c.loop-v.link c.loop-v.cut c.loop-v.at c.in-Some.v c.loop-v.invariant c.follow.result c.follow.ensures c.in-Some.is c.label_at.result c.label_at.ensures c.eq.result c.cut_at-cut.result
    (search rules) c.if-eq.true c.if-at-row.true c.cut_at-cut.ensures

pub overflow_add-at : goal.overflow_add-at
overflow_add-at c =
    let len = labels_length c.args.row.now c.args.number in
    let le : c.loop-v.at ≤ length c.args.row.now = omega (arith, c.loop-v.invariant.within) in
    let inside : c.loop-v.at < length c.args.row.now = below_other le c.if-at-row.false in
    search rules

pub loop-v-smaller-then-eq : goal.loop-v-smaller-then-eq
loop-v-smaller-then-eq c =
    (turn_down c.args.nodes.now c.args.root _ c.args.row.now c.args.number c.loop-v.link c.loop-v.cut c.loop-v.at c.in-Some.v c.loop-v.invariant c.follow.result c.follow.ensures c.in-Some.is c.label_at.result c.label_at.ensures c.eq.result c.cut_at-cut.result
    (search rules) c.if-eq.true c.if-at-row.false c.cut_at-cut.ensures).less

pub loop-v-preserved-then-eq : goal.loop-v-preserved-then-eq
loop-v-preserved-then-eq c =
    (turn_down c.args.nodes.now c.args.root _ c.args.row.now c.args.number c.loop-v.link c.loop-v.cut c.loop-v.at c.in-Some.v c.loop-v.invariant c.follow.result c.follow.ensures c.in-Some.is c.label_at.result c.label_at.ensures c.eq.result c.cut_at-cut.result
    (search rules) c.if-eq.true c.if-at-row.false c.cut_at-cut.ensures).seeking

pub loop-v-smaller : goal.loop-v-smaller
loop-v-smaller c = (turn_right c.args.nodes.now c.args.root _ c.args.row.now c.args.number c.loop-v.link c.loop-v.cut c.loop-v.at c.in-Some.v c.loop-v.invariant c.follow.result c.follow.ensures c.in-Some.is c.label_at.result c.label_at.ensures c.eq.result (search rules) c.if-eq.false).less

pub loop-v-preserved : goal.loop-v-preserved
loop-v-preserved c = (turn_right c.args.nodes.now c.args.root _ c.args.row.now c.args.number c.loop-v.link c.loop-v.cut c.loop-v.at c.in-Some.v c.loop-v.invariant c.follow.result c.follow.ensures c.in-Some.is c.label_at.result c.label_at.ensures c.eq.result (search rules) c.if-eq.false).seeking

pub returns : goal.returns
returns c = missing c.args.nodes.now c.args.root _ (labels c.args.row.now c.args.number) c.loop-v.link c.loop-v.cut c.loop-v.at c.loop-v.invariant (sym c.follow.ensures ∙ c.in_default.is)
