use Rattle.std.proofs.Common.{◌∙◌}
use Rattle.txn_records.specs.Topics.{entry_in_place}
use Rattle.txn_records.proofs.Topics.{topic_again, skeleton_again}
use Rattle.txn_records.proofs.topic.topic_skeleton_of.Goals as goal

pub returns-clause-read : goal.returns-clause-read
returns-clause-read c = topic_again c.args.bytes.now (entry_in_place c.in_ok-found.found) c.in_ok-found.ensures.some

pub returns-clause-skeleton : goal.returns-clause-skeleton
returns-clause-skeleton c =
    c.skeleton_in_place.ensures ∙ skeleton_again c.args.bytes.now (entry_in_place c.in_ok-found.found) c.in_ok-found.ensures.some
