-- What a topic keeps.
use Rattle.std.specs.Prelude.{◌≡◌, ℕ, ◌*◌, ◌≤◌, Bool, true, false, [], length}
use Rattle.txn_base.specs.declared.limits.Limits.{Limits}
use Rattle.txn_base.specs.Content.{LedgerContent, settled}
use Rattle.txn_base.specs.Frames.{records}
use Rattle.txn_base.specs.Limits.{InRange}
use Rattle.txn_base.specs.Room.{Roomy}
use Rattle.txn_buffer.specs.Front.{FrontView}

-- The frame of a marker has 25 bytes, and its record 18 of them.
abbrev pub marker_frame : ℕ
marker_frame = 25

abbrev pub marker_size : ℕ
marker_size = 18

-- The front is at most as long as the ledger, and where the topic is whole as long and nothing in flight; and for each end
-- that is reserved there is room for its record, its frame and its marker.
pub record TopicInvariant (content : LedgerContent) (front : FrontView) (limits : Limits) (whole : Bool) (reserved spare room : ℕ) (marker : Roomy) : Type 0 where
  pub in_range : InRange limits
  pub within : length front.entries ≤ length (records content.batches)
  pub count : whole ≡ true → length front.entries ≡ length (records content.batches)
  pub settled : whole ≡ true → content.standing ≡ settled
  pub resting : whole ≡ false → reserved ≡ 0
  pub empty : marker.bytes ≡ []
  pub most : reserved ≤ 1
  pub ends_left : reserved ≤ front.ends
  pub spare_left : reserved ≤ spare
  pub room_left : marker_frame * reserved ≤ room
  pub marker_room : marker_size * reserved ≤ marker.room
