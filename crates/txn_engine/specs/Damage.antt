-- What a reply of damage tells.
use Rattle.std.specs.Prelude.{◌≡◌, ℕ, ◌-◌, ◌<◌, ◌≤◌, Bool, true, false, Some, List, [], slice_index_or}
use Rattle.txn_base.specs.declared.request.Request.{Request}
use Rattle.txn_base.specs.declared.request.Request.TheVariants as request
use Rattle.txn_base.specs.declared.reply.Reply.{Reply}
use Rattle.txn_base.specs.declared.reply.Reply.TheVariants as reply
use Rattle.txn_base.specs.declared.reply.Refusal.TheVariants as no
use Rattle.txn_base.specs.Frames.{records}
use Rattle.txn_model.specs.Names.{part_of}
use Rattle.txn_model.specs.Topic.{limit_of}
use Rattle.txn_buffer.specs.Record.{IsOutside}
use Rattle.txn_buffer.specs.View.{TopicView}
use Rattle.txn_engine.specs.View.{EngineView}

-- A reply tells of damage.
abbrev pub is_damage : Reply → Bool
is_damage (reply.No (no.Damaged part place)) = true
is_damage _ = false

-- There is a topic of this name, and a read of it from the first place on comes by this place: it isn't before the first one,
-- and is before the limit of the topic's front. Where the disk tells what it holds, the record there is in no grammar of a
-- topic's ledger.
pub record IsDamagedPlace (tells : Type 0) (v : EngineView) (name : List ℕ) (first place : ℕ) : Type 0 where
  pub number : ℕ
  pub known : part_of v.names name ≡ Some number
  pub topic : TopicView
  pub at : (t : TopicView) → slice_index_or v.topics (number - 1) t ≡ topic
  pub behind : first ≤ place
  pub before : place < limit_of topic.front
  pub outside : tells → IsOutside (slice_index_or (records topic.content.batches) place [])

-- The request reads the topic of this name, which is damaged at this place so.
abbrev pub IsDamageIn : Type 0 → EngineView → Request → List ℕ → ℕ → Type 0
IsDamageIn tells v (request.Read topic first max) part place = (part ≡ topic) × IsDamagedPlace tells v topic first place
IsDamageIn tells v _ part place = ⊥
