use Rattle.txn_records.proofs.Topics.{topic_decodes}
use Rattle.txn_records.proofs.record_laws.topic_records_decode.Goals as goal

pub returns : goal.returns
returns c = topic_decodes
