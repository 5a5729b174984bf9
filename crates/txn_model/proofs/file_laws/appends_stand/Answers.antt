use Rattle.txn_model.proofs.AppendStands.{coord_append_stands, topic_append_stands, sub_append_stands}
use Rattle.txn_model.proofs.file_laws.appends_stand.Goals as goal

pub returns-clause-coord : goal.returns-clause-coord
returns-clause-coord c = coord_append_stands

pub returns-clause-topic : goal.returns-clause-topic
returns-clause-topic c = topic_append_stands

pub returns-clause-sub : goal.returns-clause-sub
returns-clause-sub c = sub_append_stands
