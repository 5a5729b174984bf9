use Rattle.txn_records.proofs.Coords.{coord_reads_back}
use Rattle.txn_records.proofs.record_laws.coord_records_read_back.Goals as goal

pub returns : goal.returns
returns c = coord_reads_back
