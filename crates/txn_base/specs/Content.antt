-- What a ledger holds, and how it stands.
use Rattle.std.specs.Prelude.{◌≡◌, ◌⊎◌, List, [], ◌∷◌, ◌++◌}
use Rattle.txn_base.specs.declared.file_id.FileId.{FileId}
use Rattle.txn_base.specs.Disk.{Files}
use Rattle.txn_base.specs.Frames.{Batch}

-- settled; in flight: the last append failed with this batch, which may stand behind the others in whole or not at all;
-- or only looked at, so that nothing may be appended
pub data Standing : Type 0 where
  settled : Standing
  in_flight : Batch → Standing
  looked_at : Standing

-- the first file of a log, which names it for good, its batches in order, and how it stands
pub record LedgerContent : Type 0 where
  pub key : FileId
  pub batches : List Batch
  pub standing : Standing

-- with a batch behind the others
abbrev pub landed : LedgerContent → Batch → LedgerContent
landed content batch = record { key = content.key; batches = content.batches ++ batch ∷ []; standing = settled }

-- with a batch that stands behind the others or doesn't
abbrev pub begun : LedgerContent → Batch → LedgerContent
begun content batch = record { key = content.key; batches = content.batches; standing = in_flight batch }

-- with the batch that was in flight
abbrev pub with_flight : List Batch → Standing → List Batch
with_flight batches settled = batches
with_flight batches looked_at = batches
with_flight batches (in_flight batch) = batches ++ batch ∷ []

abbrev pub kept : LedgerContent → LedgerContent
kept content = record { key = content.key; batches = with_flight content.batches content.standing; standing = settled }

-- without it
abbrev pub dropped : LedgerContent → LedgerContent
dropped content = record { key = content.key; batches = content.batches; standing = settled }

abbrev pub IsInFlight : Standing → Type 0
IsInFlight settled = ⊥
IsInFlight looked_at = ⊥
IsInFlight (in_flight batch) = Unit {0}

-- What stands on a disk is the batches, and behind them the batch in flight or not.
abbrev pub KeptOrNot : (List Batch → Type 0) → List Batch → Standing → Type 0
KeptOrNot stands batches settled = stands batches
KeptOrNot stands batches looked_at = stands batches
KeptOrNot stands batches (in_flight batch) = stands batches ⊎ stands (batches ++ batch ∷ [])

-- Each image of a disk is as the log tells; where nothing is in doubt, its files are the log's batches and no more.
pub record Backed (stands exactly : FileId → Files → List Batch → Type 0) (image : Files → Type 0) (content : LedgerContent) : Type 0 where
  pub each : (c : Files) → image c → KeptOrNot (stands content.key c) content.batches content.standing
  pub exact : content.standing ≡ settled → (c : Files) → image c → exactly content.key c content.batches

-- The files of the log stand for its batches, with this one behind them or without, and no other file changes.
pub record Appends (mine : FileId → FileId → Type 0) (stands : FileId → Files → List Batch → Type 0) (content : LedgerContent) (batch : Batch) (before after : Files) : Type 0 where
  pub here : stands content.key after content.batches ⊎ stands content.key after (content.batches ++ batch ∷ [])
  pub others : (other : FileId) → (mine content.key other → ⊥) → after other ≡ before other

-- The same with the batch in flight, once more in doubt; but what the files stood for before, they stand for after, and where
-- nothing was in doubt, nothing changes.
pub record Settles (mine : FileId → FileId → Type 0) (stands : FileId → Files → List Batch → Type 0) (content : LedgerContent) (before after : Files) : Type 0 where
  pub here : KeptOrNot (stands content.key after) content.batches content.standing
  pub still : (batches : List Batch) → stands content.key before batches → stands content.key after batches
  pub quiet : content.standing ≡ settled → after ≡ before
  pub others : (other : FileId) → (mine content.key other → ⊥) → after other ≡ before other
