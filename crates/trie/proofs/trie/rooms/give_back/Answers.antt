use Rattle.trie.proofs.Lending.{back, all_back}
use Rattle.trie.proofs.trie.rooms.give_back.Goals as goal

pub bounds-nodes-v : goal.bounds-nodes-v
bounds-nodes-v c = (back c.loop-at.nodes c.loop-at.marks _ c.in-Some.v c.loop-at.at c.in-Some.is c.loop-at.invariant).below

pub bounds-nodes-v-in-Some : goal.bounds-nodes-v-in-Some
bounds-nodes-v-in-Some c = (back c.loop-at.nodes c.loop-at.marks _ c.in-Some.v c.loop-at.at c.in-Some.is c.loop-at.invariant).below

pub loop-at-smaller : goal.loop-at-smaller
loop-at-smaller c = (back c.loop-at.nodes c.loop-at.marks _ c.in-Some.v c.loop-at.at c.in-Some.is c.loop-at.invariant).less

pub loop-at-preserved : goal.loop-at-preserved
loop-at-preserved c = (back c.loop-at.nodes c.loop-at.marks _ c.in-Some.v c.loop-at.at c.in-Some.is c.loop-at.invariant).rest

pub returns : goal.returns
returns c = all_back c.loop-at.nodes c.loop-at.marks _ c.loop-at.at c.in_default.is c.loop-at.invariant
