use Rattle.txn_records.proofs.Topics.{topic_one}
use Rattle.txn_records.proofs.record_laws.topic_records_are_one.Goals as goal

pub returns : goal.returns
returns c = topic_one
