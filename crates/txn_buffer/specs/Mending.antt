-- What a step of a replay does.
use Rattle.std.specs.Prelude.{◌≡◌, ◌⊎◌, ℕ, ◌+◌, ◌-◌, ◌<◌, ◌≤◌, ◌==◌, min, false, List, [], ◌++◌, length, take, All, slice_index_or, IsTrue}
use Rattle.txn_base.specs.declared.entry.TopicEntry.{TopicEntry}
use Rattle.txn_base.specs.declared.part.Progress.{Progress}
use Rattle.txn_base.specs.Content.{settled}
use Rattle.txn_base.specs.Decoded.{topic_entry_of, topic_entries}
use Rattle.txn_base.specs.Frames.{Record, Batch, records}
use Rattle.txn_model.specs.Skeletons.{topic_skeleton, topic_skeletons}
use Rattle.txn_model.specs.Topic.{part_allows, TopicLawful}
use Rattle.txn_buffer.specs.Record.{IsInGrammar, IsOutside}
use Rattle.txn_buffer.specs.View.{TopicView, topic_total}
-- What was in flight was settled, or nothing was.
pub use Rattle.txn_replay.specs.Settling.{MayHaveSettled}

-- With a list of so many records, a step goes over as many as the bound, or over all that are left.
abbrev pub step_of : TopicView → ℕ → ℕ
step_of v total = min v.limits.step (total - length v.front)

-- The list is settled, the front has grown by the records of the step, and the topic is whole exactly where none is left.
pub record Mends (before after : TopicView) (told : Progress) : Type 0 where
  pub settled_now : after.content.standing ≡ settled
  pub more : List TopicEntry
  pub front : after.front ≡ before.front ++ more
  pub count : length more ≡ step_of before (topic_total after)
  pub at : told.at ≡ length after.front
  pub total : told.total ≡ topic_total after
  pub whole : after.whole ≡ (told.at == told.total)
  pub part : after.part ≡ before.part
  pub reserved : after.reserved ≡ before.reserved
  pub limits : after.limits ≡ before.limits

-- A refused step leaves all but the content.
pub record IsRefusedStep (before after : TopicView) : Type 0 where
  pub front : after.front ≡ before.front
  pub part : after.part ≡ before.part
  pub whole : after.whole ≡ before.whole
  pub reserved : after.reserved ≡ before.reserved
  pub limits : after.limits ≡ before.limits

-- A recovery to the end: the list is settled, the front is that of all records, and the topic is whole.
pub record MendsWhole (before after : TopicView) : Type 0 where
  pub settled_now : after.content.standing ≡ settled
  pub more : List TopicEntry
  pub front : after.front ≡ before.front ++ more
  pub all : length after.front ≡ topic_total after
  pub whole : IsTrue after.whole
  pub part : after.part ≡ before.part
  pub reserved : after.reserved ≡ before.reserved
  pub limits : after.limits ≡ before.limits

-- One that is refused leaves what its steps added to the front, and all else but the content.
pub record IsRefusedWhole (before after : TopicView) : Type 0 where
  pub extends : before.front ≡ take (length before.front) after.front
  pub part : after.part ≡ before.part
  pub whole : after.whole ≡ before.whole
  pub reserved : after.reserved ≡ before.reserved
  pub limits : after.limits ≡ before.limits

-- The place is one of those of the step.
pub record IsInStep (v : TopicView) (total place : ℕ) : Type 0 where
  pub from : length v.front ≤ place
  pub to : place < length v.front + step_of v total

-- The record is in no grammar, or its entry isn't allowed after these.
abbrev pub IsBad : List TopicEntry → Record → Type 0
IsBad before bytes = IsOutside bytes ⊎ (part_allows (topic_skeletons before) (topic_skeleton (topic_entry_of bytes)) ≡ false)

-- The record at this place is the first bad one.
pub record IsFirstBadRecord (batches : List Batch) (place : ℕ) : Type 0 where
  pub bad : IsBad (take place (topic_entries batches)) (slice_index_or (records batches) place [])
  pub lawful : TopicLawful (take place (topic_entries batches))
  pub grammar : All IsInGrammar (take place (records batches))
