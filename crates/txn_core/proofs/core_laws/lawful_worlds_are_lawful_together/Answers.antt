use Rattle.txn_model.proofs.Laws.Names.{few_names}
use Rattle.txn_core.proofs.Worlds.{world_stands, world_lawful, kept_skeletons}
use Rattle.txn_core.proofs.core_laws.lawful_worlds_are_lawful_together.Goals as goal

pub returns-clause-lawful : goal.returns-clause-lawful
returns-clause-lawful c = world_lawful

pub returns-clause-flights : goal.returns-clause-flights
returns-clause-flights c = world_stands

pub returns-clause-kept : goal.returns-clause-kept
returns-clause-kept c = λ w f stays p s h. kept_skeletons w f stays s p h

pub returns-clause-few : goal.returns-clause-few
returns-clause-few c = λ w l. few_names w.names l.names
