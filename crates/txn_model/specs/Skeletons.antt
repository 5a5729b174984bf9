-- The skeleton of an entry: its kind, its transaction, and the part that it adds.
use Rattle.std.specs.Prelude.{◌==◌, ◌&&◌, Bool, List, map}
use Rattle.txn_base.specs.declared.txn.TxnId.{TxnId}
use Rattle.txn_base.specs.declared.txn.Decision.TheVariants.{Commit, Abort}
use Rattle.txn_base.specs.declared.core_entry.CoreEntry.{CoreEntry}
use Rattle.txn_base.specs.declared.core_entry.CoreEntry.TheVariants as core
use Rattle.txn_base.specs.declared.entry.CoordEntry.{CoordEntry}
use Rattle.txn_base.specs.declared.entry.CoordEntry.TheVariants as coord
use Rattle.txn_base.specs.declared.entry.TopicEntry.{TopicEntry}
use Rattle.txn_base.specs.declared.entry.TopicEntry.TheVariants as topic
use Rattle.txn_base.specs.declared.entry.AckEntry.{AckEntry}
use Rattle.txn_base.specs.declared.entry.AckEntry.TheVariants as ack

-- Both are the same transaction.
abbrev pub same_txn : TxnId → TxnId → Bool
same_txn x y = (x.most == y.most) && (x.least == y.least)

-- The skeleton of an entry of the coordinator's log, which leaves out the deadline.
abbrev pub coord_skeleton : CoordEntry → CoreEntry
coord_skeleton (coord.New x deadline) = core.New x
coord_skeleton (coord.AddPart x part) = core.AddPart x part
coord_skeleton (coord.Committing x) = core.Committing x
coord_skeleton (coord.Aborting x) = core.Aborting x
coord_skeleton (coord.Committed x) = core.Committed x
coord_skeleton (coord.Aborted x) = core.Aborted x

-- The skeleton of an entry of a topic's ledger, which leaves out the body.
abbrev pub topic_skeleton : TopicEntry → CoreEntry
topic_skeleton (topic.Plain body) = core.Plain
topic_skeleton (topic.Opened x body) = core.Inside x
topic_skeleton (topic.Commit x) = core.Marker x Commit
topic_skeleton (topic.Abort x) = core.Marker x Abort

-- The skeleton of an entry of a subscription's ledger, which leaves out the places.
abbrev pub ack_skeleton : AckEntry → CoreEntry
ack_skeleton (ack.Plain places) = core.Plain
ack_skeleton (ack.PlainUpTo place) = core.Plain
ack_skeleton (ack.Hold x places) = core.Inside x
ack_skeleton (ack.HoldUpTo x place) = core.Inside x
ack_skeleton (ack.Commit x) = core.Marker x Commit
ack_skeleton (ack.Abort x) = core.Marker x Abort

-- The skeletons of a coordinator's log, of a topic's ledger, of a subscription's ledger.
abbrev pub coord_skeletons : List CoordEntry → List CoreEntry
coord_skeletons es = map coord_skeleton es

abbrev pub topic_skeletons : List TopicEntry → List CoreEntry
topic_skeletons es = map topic_skeleton es

abbrev pub ack_skeletons : List AckEntry → List CoreEntry
ack_skeletons es = map ack_skeleton es
