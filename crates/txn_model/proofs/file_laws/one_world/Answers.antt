use Rattle.txn_model.proofs.OneWorld.{stands_for_one}
use Rattle.txn_model.proofs.file_laws.one_world.Goals as goal

pub returns : goal.returns
returns c = stands_for_one
