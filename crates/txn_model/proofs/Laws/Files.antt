-- Laws of files and the worlds for which they stand.

-- Files stand for one world.
pub use Rattle.txn_model.proofs.OneWorld.{stands_for_one}
-- The entries for which bytes stand are read off their records, also behind each other.
pub use Rattle.txn_model.proofs.OneWorld.{entries_of_records, entries_of_batches, records_behind}
pub use Rattle.txn_model.proofs.Decodings.{coord_decoded, ack_decoded, coord_of, topic_of_record}
-- Where one ledger's file changes alone, the files stand for the world in which its list did.
pub use Rattle.txn_model.proofs.AppendStands.{coord_append_stands, coord_change_stands, topic_append_stands, topic_change_stands}
-- Where each ledger's file stands for its list with its flight or without, the files stand for what a stop keeps; and they are
-- sound where the table's state is lawful.
pub use Rattle.txn_model.proofs.KeptStands.{ledgers_stand, kept_sound}
