use Rattle.txn_records.proofs.AckRecords.{ack_decodes}
use Rattle.txn_records.proofs.record_laws.ack_records_decode.Goals as goal

pub returns : goal.returns
returns c = ack_decodes
