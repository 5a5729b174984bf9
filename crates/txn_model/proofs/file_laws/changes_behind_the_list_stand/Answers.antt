use Rattle.txn_model.proofs.AppendStands.{coord_change_stands, topic_change_stands, sub_change_stands}
use Rattle.txn_model.proofs.file_laws.changes_behind_the_list_stand.Goals as goal

pub returns-clause-coord : goal.returns-clause-coord
returns-clause-coord c = coord_change_stands

pub returns-clause-topic : goal.returns-clause-topic
returns-clause-topic c = topic_change_stands

pub returns-clause-sub : goal.returns-clause-sub
returns-clause-sub c = sub_change_stands
