use Rattle.txn_records.proofs.AckRecords.{ack_reads_back}
use Rattle.txn_records.proofs.record_laws.ack_records_read_back.Goals as goal

pub returns : goal.returns
returns c = ack_reads_back
