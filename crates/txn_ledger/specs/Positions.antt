-- Where the records of a ledger stand in its file.
use Rattle.std.specs.Prelude.{ℕ, ◌+◌, List, [], ◌∷◌, ◌++◌, length, get_or}
use Rattle.txn_base.specs.Frames.{Batch, Record, frame, records}
use Rattle.txn_ledger.specs.declared.position.Position.{Position}

-- The positions of a batch's records, the first of which has its length at this offset.
abbrev pub positions_of : ℕ → Batch → List Position
positions_of at [] = []
positions_of at (bytes ∷ batch) = record { offset = at + 2; len = length bytes } ∷ positions_of (at + (length bytes + 2)) batch

-- The positions of the records of batches, the first of which begins at this offset.
abbrev pub positions_in : ℕ → List Batch → List Position
positions_in at [] = []
positions_in at (batch ∷ batches) = positions_of (at + 5) batch ++ positions_in (at + length (frame batch)) batches

-- The record at this place, from 0.
abbrev pub record_at : List Batch → ℕ → Record
record_at batches place = get_or (records batches) place []
