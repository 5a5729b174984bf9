use Rattle.txn_records.proofs.Catalog.{name_reads_back}
use Rattle.txn_records.proofs.record_laws.name_records_read_back.Goals as goal

pub returns : goal.returns
returns c = name_reads_back
