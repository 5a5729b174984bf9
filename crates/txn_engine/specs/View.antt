-- What an engine is seen as.
use Rattle.std.specs.Prelude.{◌≡◌, ℕ, zero, suc, ◌-◌, List, [], ◌∷◌, All, IsTrue, Option, Some, None, slice_index_or}
use Rattle.txn_base.specs.declared.txn.TxnId.{TxnId}
use Rattle.txn_base.specs.declared.limits.Limits.{Limits}
use Rattle.txn_base.specs.Disk.{Files}
use Rattle.txn_coordinator.specs.View as coordinator
use Rattle.txn_coordinator.specs.View.{CoordView}
use Rattle.txn_buffer.specs.View as topic
use Rattle.txn_buffer.specs.View.{TopicView}
use Rattle.txn_ledger.specs.Ledger.{Stored}
use Rattle.txn_model.specs.Names.{part_of}

-- The names of its parts, which are topics, numbered from 1; its coordinator; the topics, in order of their number; the
-- greatest moment told; and the bounds.
pub record EngineView : Type 0 where
  pub names : List (List ℕ)
  pub coord : CoordView
  pub topics : List TopicView
  pub latest : ℕ
  pub limits : Limits

-- With this coordinator; with these topics.
abbrev pub with_coord : EngineView → CoordView → EngineView
with_coord v c = record { names = v.names; coord = c; topics = v.topics; latest = v.latest; limits = v.limits }

abbrev pub with_topics : EngineView → List TopicView → EngineView
with_topics v ts = record { names = v.names; coord = v.coord; topics = ts; latest = v.latest; limits = v.limits }

-- These topics, with another one at this index.
abbrev pub replaced : List TopicView → ℕ → TopicView → List TopicView
replaced [] i t = []
replaced (u ∷ us) zero t = t ∷ us
replaced (u ∷ us) (suc i) t = u ∷ replaced us i t

-- Every part is rebuilt.
pub record IsWhole (v : EngineView) : Type 0 where
  pub coord : IsTrue v.coord.whole
  pub topics : All (λ t. IsTrue t.whole) v.topics

-- What was rebuilt is what the ledgers hold. On a disk that doesn't tell what it holds, nobody knows whether it is.
pub record IsTied (v : EngineView) : Type 0 where
  pub coord : coordinator.IsFrontOf v.coord
  pub topics : All topic.IsFrontOf v.topics

-- Each image of a disk is as the ledgers tell.
pub record IsBacked (image : Files → Type 0) (v : EngineView) : Type 0 where
  pub coord : Stored image v.coord.content
  pub topics : All (λ t. Stored image t.content) v.topics

-- What a line uses is rebuilt: the coordinator, where it is of a transaction.
abbrev pub UsesLog : EngineView → Option TxnId → Type 0
UsesLog v None = Unit {0}
UsesLog v (Some x) = IsTrue v.coord.whole

-- The topic at an index is rebuilt.
abbrev pub IsWholeAt : EngineView → ℕ → Type 0
IsWholeAt v j = (d : TopicView) → IsTrue (slice_index_or v.topics j d).whole

-- So is the topic of this name, if there is one.
abbrev pub IsWholeTopic : EngineView → List ℕ → Type 0
IsWholeTopic v topic = (number : ℕ) → part_of v.names topic ≡ Some number → IsWholeAt v (number - 1)
