-- The record of a batch is that of its entry.
use Rattle.std.proofs.Common.{[], ◌∷◌, refl}
use Rattle.txn_base.specs.Frames.{records}
use Rattle.txn_base.specs.Records.{IsCoordEntry, IsCoordRecord}
use Rattle.txn_base.specs.declared.entry.CoordEntry.{CoordEntry}
use Rattle.txn_coordinator.specs.View.{coord_batch}
use Rattle.txn_model.specs.Sound.{RecordsOf}

pub entry_records : (e : CoordEntry) → IsCoordEntry e → RecordsOf IsCoordRecord (records (coord_batch e ∷ [])) (e ∷ [])
entry_records e fits = (record { bytes_are = refl; fits = fits }, tt)
