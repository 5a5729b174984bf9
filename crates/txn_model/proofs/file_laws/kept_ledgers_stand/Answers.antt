use Rattle.txn_model.proofs.KeptStands.{ledgers_stand, kept_sound}
use Rattle.txn_model.proofs.file_laws.kept_ledgers_stand.Goals as goal

pub returns-clause-ledgers : goal.returns-clause-ledgers
returns-clause-ledgers c = ledgers_stand

pub returns-clause-sound : goal.returns-clause-sound
returns-clause-sound c = kept_sound
