use Rattle.txn_records.proofs.Catalog.{name_decodes}
use Rattle.txn_records.proofs.record_laws.name_records_decode.Goals as goal

pub returns : goal.returns
returns c = name_decodes
