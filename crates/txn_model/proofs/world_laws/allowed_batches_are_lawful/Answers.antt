use Rattle.txn_model.specs.World.{no_flights}
use Rattle.txn_model.specs.Table.{world_with, flights_with}
use Rattle.txn_model.proofs.Chosen.{lawful_choice, lawful_kept}
use Rattle.txn_model.proofs.FlightsOver.{batch_choice}
use Rattle.txn_model.proofs.world_laws.allowed_batches_are_lawful.Goals as goal

pub returns-clause-batch : goal.returns-clause-batch
returns-clause-batch c = λ b w l a. lawful_choice w (world_with b w) (flights_with b no_flights) (batch_choice b w) l a

pub returns-clause-kept : goal.returns-clause-kept
returns-clause-kept c = lawful_kept
