-- What a step of a coordinator's replay does.
use Rattle.std.specs.Prelude.{◌≡◌, ◌⊎◌, ◌↔◌, ℕ, ◌+◌, ◌<◌, ◌≤◌, min, ◌||◌, false, if◌then◌else◌, IsTrue, List, length, take, All, slice_index_or}
use Rattle.txn_base.specs.declared.entry.CoordEntry.{CoordEntry}
use Rattle.txn_base.specs.Content.{LedgerContent, kept, dropped}
use Rattle.txn_base.specs.Frames.{Record, records}
use Rattle.txn_base.specs.Records.{IsCoordEntry, IsCoordRecord}
use Rattle.txn_base.specs.Decoded.{coord_entry_of, coord_entries}
use Rattle.txn_model.specs.Skeletons.{coord_skeleton, coord_skeletons}
use Rattle.txn_model.specs.Coord.{coord_allows, CoordLawful}
use Rattle.txn_model.specs.Deadlines.{low_of}
use Rattle.txn_replay.specs.Fronts.{record_at}
use Rattle.txn_coordinator.specs.View.{CoordView, coord_total}

-- In a ledger, the record at a place.
abbrev pub record_in : LedgerContent → ℕ → Record
record_in content place = record_at content.batches place

-- Of n named parts, these entries are lawful, and their fields lie in their ranges.
pub record AreNamedEntries (n : ℕ) (c : List CoordEntry) : Type 0 where
  pub few : n ≤ 62
  pub entries : All IsCoordEntry c
  pub lawful : CoordLawful n (coord_skeletons c)

-- From this place to before that one, the records of a ledger are those of these entries, at the same places.
abbrev pub AreRecordsTo : LedgerContent → ℕ → ℕ → List CoordEntry → Type 0
AreRecordsTo content from to entries = (k : ℕ) (e : CoordEntry) → from ≤ k → k < to → IsCoordRecord (record_in content k) (slice_index_or entries k e)

-- Up to this place, the records of a ledger are in the grammar.
abbrev pub AreInGrammar : LedgerContent → ℕ → Type 0
AreInGrammar content place = All (λ r. IsCoordRecord r (coord_entry_of r)) (take place (records content.batches))

-- Of n named parts, these entries are the first of a ledger's, whose records are in the grammar, and they are lawful.
pub record AreReplayed (n : ℕ) (content : LedgerContent) (front : List CoordEntry) : Type 0 where
  pub entries : front ≡ take (length front) (coord_entries content.batches)
  pub grammar : AreInGrammar content (length front)
  pub lawful : CoordLawful n (coord_skeletons front)

-- Of n named parts, the record at this place is the first that is outside its grammar, or isn't allowed after those before
-- it.
pub record IsFirstBadRecord (n : ℕ) (content : LedgerContent) (place : ℕ) : Type 0 where
  pub within : place < length (records content.batches)
  pub grammar : AreInGrammar content place
  pub before : CoordLawful n (coord_skeletons (take place (coord_entries content.batches)))
  pub bad : (e : CoordEntry) → IsCoordRecord (record_in content place) e → coord_allows n (coord_skeletons (take place (coord_entries content.batches))) (coord_skeleton e) ≡ false

-- What was in flight stands there now, or was dropped. Where nothing was, the two are the same.
abbrev pub IsSettledFrom : LedgerContent → LedgerContent → Type 0
IsSettledFrom old new = (new ≡ kept old) ⊎ (new ≡ dropped old)

-- The record at this place is one of those that a step reads: behind the front, at most `step` of them, and in the list.
pub record IsInStep (old new : CoordView) (place : ℕ) : Type 0 where
  pub from : length old.front ≤ place
  pub to : place < length old.front + old.limits.step
  pub within : place < coord_total new

-- A step that isn't refused: it settles the log, and adds the entries of the next records, `step` of them or all that are
-- left. The low watermark of the opening is that of the moment when the coordinator is whole for the first time.
pub record Mends (old new : CoordView) : Type 0 where
  pub settles : IsSettledFrom old.content new.content
  pub grows : length new.front ≡ min (coord_total new) (length old.front + old.limits.step)
  pub extends : old.front ≡ take (length old.front) new.front
  pub whole : IsTrue new.whole ↔ (length new.front ≡ coord_total new)
  pub opened : new.opened_low ≡ (if old.was_whole then old.opened_low else (if new.whole then low_of new.front else old.opened_low))
  pub was_whole : new.was_whole ≡ (old.was_whole || new.whole)
  pub reserved : new.reserved ≡ (if old.whole then old.reserved else 0)
  pub limits : new.limits ≡ old.limits
  pub named : new.named ≡ old.named

-- A step that is refused: it may have settled the log, and nothing else changes.
pub record IsRefusedStep (old new : CoordView) : Type 0 where
  pub settles : (new.content ≡ old.content) ⊎ IsSettledFrom old.content new.content
  pub front : new.front ≡ old.front
  pub whole : new.whole ≡ old.whole
  pub opened : new.opened_low ≡ old.opened_low
  pub was_whole : new.was_whole ≡ old.was_whole
  pub reserved : new.reserved ≡ 0
  pub limits : new.limits ≡ old.limits
  pub named : new.named ≡ old.named

-- A recovery to the end: it settles the log, and adds the entries of all records that are left.
pub record MendsWhole (old new : CoordView) : Type 0 where
  pub settles : IsSettledFrom old.content new.content
  pub all : length new.front ≡ coord_total new
  pub extends : old.front ≡ take (length old.front) new.front
  pub whole : IsTrue new.whole
  pub opened : new.opened_low ≡ (if old.was_whole then old.opened_low else low_of new.front)
  pub was_whole : IsTrue new.was_whole
  pub reserved : new.reserved ≡ (if old.whole then old.reserved else 0)
  pub limits : new.limits ≡ old.limits
  pub named : new.named ≡ old.named

-- One that is refused: it may have settled the log, what its steps added stands, and nothing else changes.
pub record IsRefusedWhole (old new : CoordView) : Type 0 where
  pub settles : (new.content ≡ old.content) ⊎ IsSettledFrom old.content new.content
  pub extends : old.front ≡ take (length old.front) new.front
  pub whole : new.whole ≡ old.whole
  pub opened : new.opened_low ≡ old.opened_low
  pub was_whole : new.was_whole ≡ old.was_whole
  pub reserved : new.reserved ≡ 0
  pub limits : new.limits ≡ old.limits
  pub named : new.named ≡ old.named
