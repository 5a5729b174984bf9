use Rattle.std.proofs.Common.{sym}
use Rattle.txn_records.proofs.AckRecords.{ack_decodes}
use Rattle.txn_records.proofs.ack.read_ack.Goals as goal

pub returns-clause-entry : goal.returns-clause-entry
returns-clause-entry c = sym (ack_decodes c.args.bytes.now c.in_ok-entry.entry c.in_ok-entry.ensures.read)
