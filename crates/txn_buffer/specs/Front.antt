-- The front of a topic's list that was replayed, and the tables that were kept of it.
use Rattle.std.specs.Prelude.{◌≡◌, ℕ, suc, ◌==◌, ◌&&◌, Bool, if◌then◌else◌, List, [], ◌∷◌, length, All, Option, is_none}
use Rattle.txn_base.specs.declared.txn.TxnId.{TxnId}
use Rattle.txn_base.specs.declared.txn.Decision.{Decision}
use Rattle.txn_base.specs.declared.core_entry.CoreEntry.{CoreEntry}
use Rattle.txn_base.specs.declared.core_entry.CoreEntry.TheVariants as core
use Rattle.txn_base.specs.declared.entry.TopicEntry.{TopicEntry}
use Rattle.txn_base.specs.declared.entry.TopicEntry.TheVariants as topic
use Rattle.txn_base.specs.Records.{IsTopicEntry}
use Rattle.txn_model.specs.Skeletons.{topic_skeletons}
use Rattle.txn_model.specs.Topic.{marker_of, TopicLawful}

-- The entries of the front, for how many messages of transactions there is room, and for how many markers.
pub record FrontView : Type 0 where
  pub entries : List TopicEntry
  pub opens : ℕ
  pub ends : ℕ

-- From place k on, the places and transactions of the messages of transactions.
abbrev pub inside_from : ℕ → List CoreEntry → List (ℕ × TxnId)
inside_from k [] = []
inside_from k (core.Inside x ∷ es) = (k, x) ∷ inside_from (suc k) es
inside_from k (_ ∷ es) = inside_from (suc k) es

-- Of such a list, by these decisions, what is left from the first transaction on that isn't decided.
abbrev pub waiting : (TxnId → Option Decision) → List (ℕ × TxnId) → List (ℕ × TxnId)
waiting decisions [] = []
waiting decisions (p ∷ ps) = if is_none (decisions p.1) then p ∷ ps else waiting decisions ps

-- The messages of transactions at or past the limit.
abbrev pub pending_of : List CoreEntry → List (ℕ × TxnId)
pending_of all = waiting (marker_of all) (inside_from 0 all)

-- The first of these places, or else the end.
abbrev pub first_place : List (ℕ × TxnId) → ℕ → ℕ
first_place [] end = end
first_place (p ∷ ps) end = p.0

-- A transaction as the key of a table.
abbrev pub key_of : TxnId → ℕ × ℕ
key_of x = (x.most, x.least)

-- Both keys are the same.
abbrev pub same_key : ℕ × ℕ → ℕ × ℕ → Bool
same_key a b = (a.0 == b.0) && (a.1 == b.1)

-- What a front keeps: how many entries there are, the decision of each marker, and the messages at or past the limit.
pub record IsFrontTable (entries : List TopicEntry) (count : ℕ) (decisions : TxnId → Option Decision) (pending : List (ℕ × TxnId)) : Type 0 where
  pub count_is : count ≡ length entries
  pub marked : (x : TxnId) → decisions x ≡ marker_of (topic_skeletons entries) x
  pub pending_is : pending ≡ pending_of (topic_skeletons entries)
  pub lawful : TopicLawful entries
  pub each : All IsTopicEntry entries

-- How many messages of transactions an entry is, and how many markers.
abbrev pub opens_of : TopicEntry → ℕ
opens_of (topic.Opened x body) = 1
opens_of _ = 0

abbrev pub ends_of : TopicEntry → ℕ
ends_of (topic.Commit x) = 1
ends_of (topic.Abort x) = 1
ends_of _ = 0
