use Rattle.std.proofs.Common.{ap, ◌∙◌}
use Rattle.txn_base.specs.Decoded.{ack_entry_of}
use Rattle.txn_records.proofs.AckRecords.{ack_decoded}
use Rattle.txn_records.proofs.ack_write.write_ack.Goals as goal

pub returns-clause-entry : goal.returns-clause-entry
returns-clause-entry c = ap ack_entry_of c.in_ok-bytes.ensures ∙ ack_decoded c.args.entry.now c.requires
