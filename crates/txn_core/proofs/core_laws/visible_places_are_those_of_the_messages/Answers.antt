use Rattle.txn_model.proofs.Laws.Topics.{places_are}
use Rattle.txn_core.proofs.Reading.{read_told, read_can}
use Rattle.txn_core.proofs.core_laws.visible_places_are_those_of_the_messages.Goals as goal

pub returns-clause-visible : goal.returns-clause-visible
returns-clause-visible c = places_are

pub returns-clause-read : goal.returns-clause-read
returns-clause-read c = read_told

pub returns-clause-allowed : goal.returns-clause-allowed
returns-clause-allowed c = read_can
