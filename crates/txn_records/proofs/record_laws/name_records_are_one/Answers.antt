use Rattle.txn_records.proofs.Catalog.{name_one}
use Rattle.txn_records.proofs.record_laws.name_records_are_one.Goals as goal

pub returns : goal.returns
returns c = name_one
