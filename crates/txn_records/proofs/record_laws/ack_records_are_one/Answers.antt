use Rattle.txn_records.proofs.AckRecords.{ack_one}
use Rattle.txn_records.proofs.record_laws.ack_records_are_one.Goals as goal

pub returns : goal.returns
returns c = ack_one
