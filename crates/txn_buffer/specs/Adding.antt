-- The messages that a publish adds.
use Rattle.std.specs.Prelude.{◌≡◌, ℕ, ◌≤◌, List, length, map, All, Option, Some, None, IsUtf8}
use Rattle.txn_base.specs.declared.entry.TopicEntry.{TopicEntry}
use Rattle.txn_base.specs.declared.core_entry.CoreEntry.{CoreEntry}
use Rattle.txn_base.specs.declared.core_entry.CoreEntry.TheVariants as core
use Rattle.txn_base.specs.declared.limits.Limits.{Limits}
use Rattle.txn_base.specs.declared.txn.TxnId.{TxnId}
use Rattle.txn_base.specs.Decoded.{topic_entry_of}
use Rattle.txn_base.specs.Frames.{Record}
use Rattle.txn_model.specs.Entries.{message_entry}
use Rattle.txn_model.specs.Skeletons.{topic_skeleton, topic_skeletons}
use Rattle.txn_model.specs.Topic.{marker_of}
use Rattle.txn_buffer.specs.Record.{IsInGrammar}

-- A text within the bound on one message.
pub record IsBodyWithin (limits : Limits) (body : List ℕ) : Type 0 where
  pub text : IsUtf8 body
  pub size : length body ≤ limits.message

-- 1 to 64 texts within the bound on one message.
pub record AreBodies (limits : Limits) (bodies : List (List ℕ)) : Type 0 where
  pub some : 1 ≤ length bodies
  pub few : length bodies ≤ 64
  pub each : All (IsBodyWithin limits) bodies

-- A text that any record may have.
pub record IsPublished (body : List ℕ) : Type 0 where
  pub text : IsUtf8 body
  pub size : length body ≤ 32768

-- 1 to 64 of them.
pub record ArePublished (bodies : List (List ℕ)) : Type 0 where
  pub some : 1 ≤ length bodies
  pub few : length bodies ≤ 64
  pub each : All IsPublished bodies

-- Messages with these bodies, of a transaction or of none.
abbrev pub messages_of : Option TxnId → List (List ℕ) → List TopicEntry
messages_of txn bodies = map (message_entry txn) bodies

-- The skeleton of such a message.
abbrev pub message_kind : Option TxnId → CoreEntry
message_kind None = core.Plain
message_kind (Some x) = core.Inside x

-- A record in the grammar whose entry is a message of this transaction, or of none.
pub record IsMessageOf (txn : Option TxnId) (bytes : Record) : Type 0 where
  pub grammar : IsInGrammar bytes
  pub kind : message_kind txn ≡ topic_skeleton (topic_entry_of bytes)

-- No marker of the transaction stands among these entries.
abbrev pub IsUnmarked : List TopicEntry → Option TxnId → Type 0
IsUnmarked entries None = Unit {0}
IsUnmarked entries (Some x) = marker_of (topic_skeletons entries) x ≡ None

-- A message takes room for one of a transaction, or none.
abbrev pub opens_for : Option TxnId → ℕ → ℕ
opens_for None count = 0
opens_for (Some x) count = count
