use Rattle.txn_base.specs.Records.{IsCoordRecord, IsAckRecord}
use Rattle.txn_base.specs.Decoded.{coord_entry_of, topic_entry_of, ack_entry_of}
use Rattle.txn_model.specs.Sound.{IsBareRecord}
use Rattle.txn_model.proofs.Decodings.{coord_of, topic_of_record, ack_of_record}
use Rattle.txn_model.proofs.OneWorld.{entries_of_batches, stands_with}
use Rattle.txn_model.proofs.file_laws.entries_are_read_off.Goals as goal

pub returns-clause-coord : goal.returns-clause-coord
returns-clause-coord c = entries_of_batches IsCoordRecord coord_entry_of coord_of

pub returns-clause-topic : goal.returns-clause-topic
returns-clause-topic c = entries_of_batches IsBareRecord topic_entry_of topic_of_record

pub returns-clause-sub : goal.returns-clause-sub
returns-clause-sub c = entries_of_batches IsAckRecord ack_entry_of ack_of_record

pub returns-clause-all_coord : goal.returns-clause-all_coord
returns-clause-all_coord c = stands_with IsCoordRecord coord_entry_of

pub returns-clause-all_topic : goal.returns-clause-all_topic
returns-clause-all_topic c = stands_with IsBareRecord topic_entry_of

pub returns-clause-all_sub : goal.returns-clause-all_sub
returns-clause-all_sub c = stands_with IsAckRecord ack_entry_of
