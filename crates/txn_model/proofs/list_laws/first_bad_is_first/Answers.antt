use Rattle.txn_model.specs.Names.{name_allows}
use Rattle.txn_model.specs.Coord.{coord_allows}
use Rattle.txn_model.specs.Topic.{part_allows}
use Rattle.txn_model.specs.Ack.{ack_allows}
use Rattle.txn_model.proofs.Fronts.{first_is_bad}
use Rattle.txn_model.proofs.list_laws.first_bad_is_first.Goals as goal

pub returns-clause-names : goal.returns-clause-names
returns-clause-names c = first_is_bad name_allows

pub returns-clause-coord : goal.returns-clause-coord
returns-clause-coord c = λ n es. first_is_bad (coord_allows n) es

pub returns-clause-part : goal.returns-clause-part
returns-clause-part c = first_is_bad part_allows

pub returns-clause-sub : goal.returns-clause-sub
returns-clause-sub c = first_is_bad ack_allows
