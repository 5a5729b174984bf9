use Rattle.txn_records.proofs.Topics.{topic_reads_back}
use Rattle.txn_records.proofs.record_laws.topic_records_read_back.Goals as goal

pub returns : goal.returns
returns c = topic_reads_back
