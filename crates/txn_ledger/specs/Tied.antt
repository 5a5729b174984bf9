-- What ties the fields of a ledger to its content.
use Rattle.std.specs.Prelude.{◌≡◌, ℕ, ◌+◌, ◌^◌, ◌≤◌, List, length, All, vec_len, vec_capacity}
use Rattle.txn_base.specs.Frames.{IsBatch, frame, frames, records}
use Rattle.txn_base.specs.Room.{capacity}
use Rattle.txn_base.specs.declared.file_id.FileId.{FileId}
use Rattle.txn_base.specs.Content.{LedgerContent, Standing, settled, in_flight, looked_at, with_flight}
use Rattle.txn_ledger.specs.Positions.{positions_in}
use Rattle.txn_ledger.specs.declared.position.Position.{Position}
use Rattle.txn_ledger.specs.declared.state.State.{State}
use Rattle.txn_ledger.specs.declared.state.State.TheVariants.{Settled, InFlight, LookedAt}
use Rattle.txn_ledger.specs.declared.ledger.Ledger.TheInside.{Inside}

-- The frame of the batch in flight has so many bytes.
abbrev pub IsSent : Standing → ℕ → Type 0
IsSent settled sent = Unit {0}
IsSent looked_at sent = Unit {0}
IsSent (in_flight batch) sent = IsBatch batch × (sent ≡ length (frame batch))

abbrev pub ledger_state : Standing → State
ledger_state settled = Settled
ledger_state looked_at = LookedAt
ledger_state (in_flight batch) = InFlight

-- a ledger's content, its file, where the frames end, the bytes in flight, how many records are settled, how it stands,
-- and where each record stands, those in flight too
pub record TiedTo (content : LedgerContent) (file : FileId) (end sent count : ℕ) (state : State) (positions : List Position) : Type 0 where
  pub file_is : file ≡ content.key
  pub each : All IsBatch content.batches
  pub ends : end ≡ length (frames content.batches)
  pub bound : end ≤ 2 ^ 50
  pub count_is : count ≡ length (records content.batches)
  pub state_is : state ≡ ledger_state content.standing
  pub sent_is : IsSent content.standing sent
  pub positions_are : positions ≡ positions_in 0 (with_flight content.batches content.standing)

-- the fields agree, and what was reserved lies within what was allocated
pub record Tied (ledger : Inside) : Type 0 where
  pub tied : TiedTo ledger.carrier.content ledger.file ledger.end ledger.sent ledger.count ledger.state ledger.positions.items
  pub spare_fits : vec_len ledger.positions + ledger.spare ≤ vec_capacity ledger.positions
  pub room_fits : ledger.room ≤ capacity ledger.buffer

-- The same of a ledger that is being opened, with nothing in flight.
pub record IsScanned (content : LedgerContent) (end : ℕ) (positions : List Position) : Type 0 where
  pub tied : TiedTo content content.key end 0 (length positions) Settled positions
  pub settled_is : content.standing ≡ settled
