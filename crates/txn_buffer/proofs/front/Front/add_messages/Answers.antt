use Rattle.std.proofs.Common.{length, ◌∙◌, ◌≤◌, arith}
use Rattle.txn_buffer.specs.Adding.{IsMessageOf}
use Rattle.txn_buffer.proofs.Adding.{at_each, AddsMessage, adds_message, added_more, unmarked_still}
use Rattle.txn_buffer.proofs.front.Front.add_messages.Goals as goal
use Rattle.txn_buffer.proofs.front.Front.add_messages.Goals.{After-of}

facts : (c : After-of) → AddsMessage c.loop-bytes.self.entries c.loop-bytes.self.opens (length c.args.batch.now) c.loop-bytes.bytes-index c.args.txn c.of.result
facts c = adds_message _ _ _ _ _ _ _ c.bytes-item.is c.loop-bytes-test.true c.requires.each c.of.ensures c.loop-bytes.invariant.unmarked c.loop-bytes.invariant.opens

pub of-requires-clause-grammar : goal.of-requires-clause-grammar
of-requires-clause-grammar c = (at_each (IsMessageOf c.args.txn) _ _ _ c.bytes-item.is c.loop-bytes-test.true c.requires.each).grammar

pub of-requires-clause-skeleton : goal.of-requires-clause-skeleton
of-requires-clause-skeleton c = c.kind_of-kind.ensures ∙ (at_each (IsMessageOf c.args.txn) _ _ _ c.bytes-item.is c.loop-bytes-test.true c.requires.each).kind

pub add-requires-clause-allowed : goal.add-requires-clause-allowed
add-requires-clause-allowed c = (facts (goal.at.add-requires-clause-allowed c).After-of).allowed

pub add-requires-clause-opens : goal.add-requires-clause-opens
add-requires-clause-opens c = (facts (goal.at.add-requires-clause-opens c).After-of).opens_enough

pub add-requires-clause-ends : goal.add-requires-clause-ends
add-requires-clause-ends c = let none = (facts (goal.at.add-requires-clause-ends c).After-of).no_end in omega (arith, none)

pub loop-bytes-preserved : goal.loop-bytes-preserved
loop-bytes-preserved c =
    let one = facts (goal.at.loop-bytes-preserved c).After-of in
    let after = c.add-in-loop-bytes.ensures in
    let ends : c.args.self.now.ends ≤ c.add-in-loop-bytes.new.self.ends = omega (arith, c.loop-bytes.invariant.ends, after.ends, one.no_end) in
    record {
      entries = added_more _ _ _ _ _ _ _ c.bytes-item.is c.loop-bytes-test.true c.of.ensures c.loop-bytes.invariant.entries after.entries;
      unmarked = unmarked_still _ _ _ _ after.entries one.kind c.loop-bytes.invariant.unmarked;
      opens = one.opens_after _ after.opens;
      ends = ends;
    }
