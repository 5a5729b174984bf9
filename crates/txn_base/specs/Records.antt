-- The bytes of records, ledger by ledger. Numbers are big-endian. The first byte is the version, the second the kind of
-- entry, and then come its fields and nothing else; every other list of bytes is outside the grammar.
use Rattle.std.specs.Prelude.{◌≡◌, ℕ, ◌^◌, ◌<◌, ◌≤◌, true, if◌then◌else◌, List, [], ◌∷◌, ◌++◌, length, All, IsUtf8}
use Rattle.std.specs.List.{flat_map}
use Rattle.std.specs.List.Sorted.{IsStrictlyIncreasing}
use Rattle.byteorder.specs.Endian.{big_bytes}
use Rattle.txn_base.specs.declared.txn.TxnId.{TxnId}
use Rattle.txn_base.specs.declared.txn.Decision.{Decision}
use Rattle.txn_base.specs.declared.txn.Decision.TheVariants as decision
use Rattle.txn_base.specs.declared.entry.CoordEntry.{CoordEntry}
use Rattle.txn_base.specs.declared.entry.CoordEntry.TheVariants as coord
use Rattle.txn_base.specs.declared.entry.TopicEntry.{TopicEntry}
use Rattle.txn_base.specs.declared.entry.TopicEntry.TheVariants as topic
use Rattle.txn_base.specs.declared.entry.AckEntry.{AckEntry}
use Rattle.txn_base.specs.declared.entry.AckEntry.TheVariants as ack
use Rattle.txn_base.specs.Room.{Roomy}
use Rattle.txn_base.specs.Names.{is_sub, is_name}

-- ---- Fields.

-- A number of 64 bits.
abbrev pub IsWord : ℕ → Type 0
IsWord n = n < 2 ^ 64

-- The most significant number of a transaction, then the least.
abbrev pub txn_bytes : TxnId → List ℕ
txn_bytes x = big_bytes 8 x.most ++ big_bytes 8 x.least

pub record IsTxnId (x : TxnId) : Type 0 where
  pub most : IsWord x.most
  pub least : IsWord x.least

-- The body of a message: a text of at most 32,768 bytes.
pub record IsBody (body : Roomy) : Type 0 where
  pub text : IsUtf8 body.bytes
  pub size : length body.bytes ≤ 32768

-- A count of places, and the places.
abbrev pub places_bytes : List ℕ → List ℕ
places_bytes places = big_bytes 2 (length places) ++ flat_map (big_bytes 8) places

-- 1 to 256 places, in strictly ascending order.
pub record ArePlaces (places : List ℕ) : Type 0 where
  pub some : 1 ≤ length places
  pub few : length places ≤ 256
  pub each : All IsWord places
  pub ascending : IsStrictlyIncreasing places

-- ---- The catalog: one name a record.

abbrev pub name_record : List ℕ → List ℕ
name_record name = 1 ∷ (if is_sub name then 2 else 1) ∷ name

-- These bytes are the record of this name.
pub record IsNameRecord (bytes name : List ℕ) : Type 0 where
  pub bytes_are : bytes ≡ name_record name
  pub form : is_name name ≡ true

-- ---- The coordinator's log.

abbrev pub coord_record : CoordEntry → List ℕ
coord_record (coord.New x deadline) = 1 ∷ 1 ∷ (txn_bytes x ++ big_bytes 8 deadline)
coord_record (coord.AddPart x part) = 1 ∷ 2 ∷ (txn_bytes x ++ big_bytes 4 part)
coord_record (coord.Committing x) = 1 ∷ 3 ∷ txn_bytes x
coord_record (coord.Committed x) = 1 ∷ 4 ∷ txn_bytes x
coord_record (coord.Aborting x) = 1 ∷ 5 ∷ txn_bytes x
coord_record (coord.Aborted x) = 1 ∷ 6 ∷ txn_bytes x

-- The fields of an entry lie in their ranges.
abbrev pub IsCoordEntry : CoordEntry → Type 0
IsCoordEntry (coord.New x deadline) = IsTxnId x × IsWord deadline
IsCoordEntry (coord.AddPart x part) = IsTxnId x × (1 ≤ part) × (part ≤ 62)
IsCoordEntry (coord.Committing x) = IsTxnId x
IsCoordEntry (coord.Committed x) = IsTxnId x
IsCoordEntry (coord.Aborting x) = IsTxnId x
IsCoordEntry (coord.Aborted x) = IsTxnId x

-- These bytes are the record of this entry.
pub record IsCoordRecord (bytes : List ℕ) (entry : CoordEntry) : Type 0 where
  pub bytes_are : bytes ≡ coord_record entry
  pub fits : IsCoordEntry entry

-- ---- A topic's ledger.

abbrev pub topic_record : TopicEntry → List ℕ
topic_record (topic.Plain body) = 1 ∷ 1 ∷ body.bytes
topic_record (topic.Opened x body) = 1 ∷ 2 ∷ (txn_bytes x ++ body.bytes)
topic_record (topic.Commit x) = 1 ∷ 3 ∷ txn_bytes x
topic_record (topic.Abort x) = 1 ∷ 4 ∷ txn_bytes x

abbrev pub IsTopicEntry : TopicEntry → Type 0
IsTopicEntry (topic.Plain body) = IsBody body
IsTopicEntry (topic.Opened x body) = IsTxnId x × IsBody body
IsTopicEntry (topic.Commit x) = IsTxnId x
IsTopicEntry (topic.Abort x) = IsTxnId x

-- These bytes are the record of this entry.
pub record IsTopicRecord (bytes : List ℕ) (entry : TopicEntry) : Type 0 where
  pub bytes_are : bytes ≡ topic_record entry
  pub fits : IsTopicEntry entry

-- ---- A subscription's ledger.

abbrev pub ack_record : AckEntry → List ℕ
ack_record (ack.Plain places) = 1 ∷ 1 ∷ places_bytes places
ack_record (ack.PlainUpTo place) = 1 ∷ 2 ∷ big_bytes 8 place
ack_record (ack.Hold x places) = 1 ∷ 3 ∷ (txn_bytes x ++ places_bytes places)
ack_record (ack.HoldUpTo x place) = 1 ∷ 4 ∷ (txn_bytes x ++ big_bytes 8 place)
ack_record (ack.Commit x) = 1 ∷ 5 ∷ txn_bytes x
ack_record (ack.Abort x) = 1 ∷ 6 ∷ txn_bytes x

abbrev pub IsAckEntry : AckEntry → Type 0
IsAckEntry (ack.Plain places) = ArePlaces places
IsAckEntry (ack.PlainUpTo place) = IsWord place
IsAckEntry (ack.Hold x places) = IsTxnId x × ArePlaces places
IsAckEntry (ack.HoldUpTo x place) = IsTxnId x × IsWord place
IsAckEntry (ack.Commit x) = IsTxnId x
IsAckEntry (ack.Abort x) = IsTxnId x

-- These bytes are the record of this entry.
pub record IsAckRecord (bytes : List ℕ) (entry : AckEntry) : Type 0 where
  pub bytes_are : bytes ≡ ack_record entry
  pub fits : IsAckEntry entry

-- ---- A snapshot's records: a head, and lists of ends. The rule on snapshot files is another.

-- How many entries were summed up, the maximum read position, and how many ends there are.
abbrev pub head_record : ℕ → ℕ → ℕ → List ℕ
head_record entries limit ends = 1 ∷ 1 ∷ (big_bytes 8 entries ++ big_bytes 8 limit ++ big_bytes 8 ends)

pub record IsHeadRecord (bytes : List ℕ) (entries limit ends : ℕ) : Type 0 where
  pub bytes_are : bytes ≡ head_record entries limit ends
  pub entries_fit : IsWord entries
  pub limit_fits : IsWord limit
  pub ends_fit : IsWord ends

abbrev pub decision_byte : Decision → ℕ
decision_byte decision.Commit = 1
decision_byte decision.Abort = 2

-- A transaction and how it ended.
abbrev pub end_bytes : TxnId × Decision → List ℕ
end_bytes end = txn_bytes end.0 ++ decision_byte end.1 ∷ []

abbrev pub ends_record : List (TxnId × Decision) → List ℕ
ends_record ends = 1 ∷ 2 ∷ (big_bytes 2 (length ends) ++ flat_map end_bytes ends)

abbrev pub IsEnd : TxnId × Decision → Type 0
IsEnd end = IsTxnId end.0

pub record IsEndsRecord (bytes : List ℕ) (ends : List (TxnId × Decision)) : Type 0 where
  pub bytes_are : bytes ≡ ends_record ends
  pub count_fits : length ends < 2 ^ 16
  pub each : All IsEnd ends
