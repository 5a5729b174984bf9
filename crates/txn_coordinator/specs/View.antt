-- What a coordinator is seen as.
use Rattle.std.specs.Prelude.{◌≡◌, ℕ, ◌≤◌, Bool, false, if◌then◌else◌, IsTrue, List, [], ◌∷◌, ◌++◌, length, take}
use Rattle.txn_base.specs.declared.entry.CoordEntry.{CoordEntry}
use Rattle.txn_base.specs.declared.limits.Limits.{Limits}
use Rattle.txn_base.specs.declared.part.PartState.{PartState}
use Rattle.txn_base.specs.declared.part.PartState.TheVariants.{Whole, Mending}
use Rattle.txn_base.specs.Content.{LedgerContent, settled, landed, begun}
use Rattle.txn_base.specs.Frames.{Batch, records}
use Rattle.txn_base.specs.Decoded.{coord_entries}
use Rattle.txn_base.specs.Records.{coord_record}
use Rattle.txn_model.specs.Coord.{CoordLawful}
use Rattle.txn_model.specs.Skeletons.{coord_skeletons}

-- What its log holds; the entries that were replayed from it or added since, of which all its state speaks; whether these
-- are all of the log's; how many closes have room reserved, 0 or 1; the low watermark when it was whole for the first
-- time, and whether it was; its limits; and how many parts have a name.
pub record CoordView : Type 0 where
  pub content : LedgerContent
  pub front : List CoordEntry
  pub whole : Bool
  pub reserved : ℕ
  pub opened_low : ℕ
  pub was_whole : Bool
  pub limits : Limits
  pub named : ℕ

-- The number of records in its log.
abbrev pub coord_total : CoordView → ℕ
coord_total v = length (records v.content.batches)

-- The batch of one entry.
abbrev pub coord_batch : CoordEntry → Batch
coord_batch e = coord_record e ∷ []

-- With this entry behind the others.
abbrev pub with_entry : CoordView → CoordEntry → CoordView
with_entry v e =
    record {
      content = landed v.content (coord_batch e);
      front = v.front ++ e ∷ [];
      whole = v.whole;
      reserved = v.reserved;
      opened_low = v.opened_low;
      was_whole = v.was_whole;
      limits = v.limits;
      named = v.named;
    }

-- With this entry in flight, after its append failed: all that was rebuilt is thrown away.
abbrev pub with_failed_entry : CoordView → CoordEntry → CoordView
with_failed_entry v e =
    record {
      content = begun v.content (coord_batch e);
      front = [];
      whole = false;
      reserved = 0;
      opened_low = v.opened_low;
      was_whole = v.was_whole;
      limits = v.limits;
      named = v.named;
    }

-- With room for so many closes.
abbrev pub reserving : ℕ → CoordView → CoordView
reserving count v =
    record {
      content = v.content;
      front = v.front;
      whole = v.whole;
      reserved = count;
      opened_low = v.opened_low;
      was_whole = v.was_whole;
      limits = v.limits;
      named = v.named;
    }

-- The entries are the first of its log's. On a disk that doesn't tell what it holds, nobody knows whether they are.
abbrev pub IsFrontOf : CoordView → Type 0
IsFrontOf v = v.front ≡ take (length v.front) (coord_entries v.content.batches)

-- How far the coordinator is.
abbrev pub state_of : CoordView → PartState
state_of v = if v.whole then Whole else Mending (length v.front) (coord_total v)

-- What a coordinator over this log, where so many parts have a name, is at first.
abbrev pub first_view : ℕ → LedgerContent → Limits → CoordView
first_view named content limits =
    record {
      content = content;
      front = [];
      whole = false;
      reserved = 0;
      opened_low = 0;
      was_whole = false;
      limits = limits;
      named = named;
    }

-- What a coordinator keeps of its fields: how many names there may be, that its entries are lawful with so many, the number of
-- its entries, room in the log for a close that was reserved, and room for a record.
pub record CoordinatorInvariant (named : ℕ) (content : LedgerContent) (front : List CoordEntry) (at : ℕ) (whole was_whole reserved : Bool) (spare room bytes : ℕ) : Type 0 where
  pub at_is : at ≡ length front
  pub within : length front ≤ length (records content.batches)
  pub all_of : IsTrue whole → length front ≡ length (records content.batches)
  pub settled_when : IsTrue whole → content.standing ≡ settled
  pub opened_when : IsTrue whole → IsTrue was_whole
  pub spare_when : IsTrue reserved → 1 ≤ spare
  pub room_when : IsTrue reserved → 33 ≤ room
  pub bytes_room : 26 ≤ bytes
  pub few_named : named ≤ 62
  pub lawful : CoordLawful named (coord_skeletons front)
