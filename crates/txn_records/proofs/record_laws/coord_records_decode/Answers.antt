use Rattle.txn_records.proofs.Coords.{coord_decodes}
use Rattle.txn_records.proofs.record_laws.coord_records_decode.Goals as goal

pub returns : goal.returns
returns c = coord_decodes
