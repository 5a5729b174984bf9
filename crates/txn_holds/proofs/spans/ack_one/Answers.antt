use Rattle.std.proofs.Common.{◌∙◌}
use Rattle.std.specs.Ordering.{nat_cmp}
use Rattle.std.specs.BTreeMap.{get}
use Rattle.txn_holds.proofs.Joins.{acked, acked_taken}
use Rattle.txn_holds.proofs.spans.ack_one.Goals as goal

pub join-requires : goal.join-requires
join-requires c = acked (get nat_cmp c.args.spans.now) (get nat_cmp c.ack_span.new.spans) c.args.place c.requires.spans c.requires.there c.ack_span.ensures.at c.ack_span.ensures.others

pub returns-in-Some-clause-taken : goal.returns-in-Some-clause-taken
returns-in-Some-clause-taken c = λ q. c.join-in-Some.ensures.taken q ∙ c.join.ensures.taken q
    ∙ acked_taken (get nat_cmp c.args.spans.now) (get nat_cmp c.ack_span.new.spans) c.args.place c.requires.spans c.requires.there c.ack_span.ensures.at c.ack_span.ensures.others q

pub returns-in_default-clause-taken : goal.returns-in_default-clause-taken
returns-in_default-clause-taken c = λ q. c.join.ensures.taken q
    ∙ acked_taken (get nat_cmp c.args.spans.now) (get nat_cmp c.ack_span.new.spans) c.args.place c.requires.spans c.requires.there c.ack_span.ensures.at c.ack_span.ensures.others q

pub returns-else-place-gt0-clause-taken : goal.returns-else-place-gt0-clause-taken
returns-else-place-gt0-clause-taken c = λ q. c.join.ensures.taken q
    ∙ acked_taken (get nat_cmp c.args.spans.now) (get nat_cmp c.ack_span.new.spans) c.args.place c.requires.spans c.requires.there c.ack_span.ensures.at c.ack_span.ensures.others q
