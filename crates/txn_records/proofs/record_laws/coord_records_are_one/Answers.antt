use Rattle.txn_records.proofs.Coords.{coord_one}
use Rattle.txn_records.proofs.record_laws.coord_records_are_one.Goals as goal

pub returns : goal.returns
returns c = coord_one
