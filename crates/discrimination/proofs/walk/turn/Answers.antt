use Rattle.std.proofs.Common.{get_or, refl, arith}
use Rattle.trie.specs.Trees.{blank}
use Rattle.discrimination.specs.Frames.{frames}
use Rattle.discrimination.proofs.Turning.{holds_place, right_fits, label_fits, down_room, turned_none, turned_some}
use Rattle.discrimination.proofs.walk.turn.Goals as goal

pub returns-in_default-branch : goal.returns-in_default-branch
returns-in_default-branch c =
    let ns = c.args.trie.now.nodes in
    let f = c.args.frame in
    let z : ⊥ = omega (arith, holds_place c.args.bank.now ns f (frames c.args.agenda.now) (get_or ns f.place blank) c.requires.ready refl, c.in_default-branch.ensures) in
    absurd z

pub lay-requires : goal.lay-requires
lay-requires c = right_fits c.args.bank.now c.args.trie.now.nodes c.args.frame (frames c.args.agenda.now) c.in_Some-branch.branch c.requires.ready c.in_Some-branch.ensures.1

pub after-requires : goal.after-requires
after-requires c = label_fits c.args.bank.now c.args.trie.now.nodes c.args.frame (frames c.args.agenda.now) c.in_Some-branch.branch c.requires.ready c.in_Some-branch.ensures.1

pub lay-requires-in-Some : goal.lay-requires-in-Some
lay-requires-in-Some c =
    down_room c.args.bank.now c.args.trie.now.nodes c.args.frame (frames c.args.agenda.now) c.in_Some-branch.branch c.requires.ready c.in_Some-branch.ensures.1
    (frames c.lay.new.agenda) c.lay.ensures c.args.list.now c.args.found.now.len c.note.new.list c.note.new.found.len c.note.auto.list c.note.ensures c.in-Some.rest c.in-Some.ensures

pub returns-in-Some : goal.returns-in-Some
returns-in-Some c =
    turned_some c.args.bank.now c.args.trie.now.nodes c.args.frame (frames c.args.agenda.now) c.in_Some-branch.branch c.requires.ready c.in_Some-branch.ensures.1
    (frames c.lay.new.agenda) c.lay.ensures c.args.list.now c.args.found.now.len c.note.new.list c.note.new.found.len c.note.auto.list c.note.ensures c.in-Some.rest c.in-Some.ensures
    (frames c.lay-in-Some.new.agenda) c.lay-in-Some.ensures

pub returns-in_default : goal.returns-in_default
returns-in_default c =
    turned_none c.args.bank.now c.args.trie.now.nodes c.args.frame (frames c.args.agenda.now) c.in_Some-branch.branch c.requires.ready c.in_Some-branch.ensures.1
    (frames c.lay.new.agenda) c.lay.ensures c.args.list.now c.args.found.now.len c.note.new.list c.note.new.found.len c.note.auto.list c.note.ensures c.in_default.ensures
