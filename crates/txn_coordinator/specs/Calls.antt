-- What the calls of a coordinator refuse, and which entries they add.
use Rattle.std.specs.Prelude.{◌≡◌, ◌⊎◌, ℕ, Bool, true, false, if◌then◌else◌, Option, Some, None, unwrap_or, Result, IfErr}
use Rattle.std.specs.Option.{option_or}
use Rattle.txn_base.specs.declared.txn.TxnId.{TxnId}
use Rattle.txn_base.specs.declared.txn.Decision.{Decision}
use Rattle.txn_base.specs.declared.txn.Decision.TheVariants.{Commit}
use Rattle.txn_base.specs.declared.txn.Status.{Status}
use Rattle.txn_base.specs.declared.txn.Status.TheVariants.{Open}
use Rattle.txn_base.specs.declared.reply.What.{What}
use Rattle.txn_base.specs.declared.reply.What.TheVariants.{Transactions, Log}
use Rattle.txn_base.specs.declared.entry.CoordEntry.{CoordEntry}
use Rattle.txn_base.specs.declared.entry.CoordEntry.TheVariants as coord
use Rattle.txn_model.specs.Skeletons.{coord_skeletons}
use Rattle.txn_model.specs.Coord.{status_of, decision_of, in_parts, count_new, is_open, deciding}
use Rattle.txn_model.specs.Deadlines.{txn}
use Rattle.txn_model.specs.EarlyRows.{is_bad_timeout}
use Rattle.txn_model.specs.LateRows.{opposes}
use Rattle.txn_model.specs.Full.{full_transactions, full_log}
use Rattle.txn_model.specs.Table.{decision_entry, closing_entry}
use Rattle.txn_coordinator.specs.declared.error.CoordError.{CoordError}
use Rattle.txn_coordinator.specs.declared.error.CoordError.TheVariants as coord_error
use Rattle.txn_coordinator.specs.View.{CoordView, coord_total, with_entry}

-- The call failed for want of memory, or since the disk failed.
abbrev pub MayFail : {T : Type 0} → Result T CoordError → Type 0
MayFail result = IfErr result (λ e. (e ≡ coord_error.Fault) ⊎ (e ≡ coord_error.NoMemory))

-- The status of a transaction, its decision, and whether it has this part.
abbrev pub status_in_view : CoordView → TxnId → Option Status
status_in_view v x = status_of (coord_skeletons v.front) x

abbrev pub has_part : CoordView → TxnId → ℕ → Bool
has_part v x p = in_parts (coord_skeletons v.front) x p

-- The refusal where so many are too many.
abbrev pub refused_full : What → Option ℕ → Option CoordError
refused_full what None = None
refused_full what (Some count) = Some (coord_error.Full what count)

-- The log has no room for what clients add.
abbrev pub log_refusal : CoordView → Option CoordError
log_refusal v = refused_full Log (full_log v.limits (coord_total v) 1)

-- There are as many transactions since the low watermark of the opening as the window has room for.
abbrev pub window_refusal : CoordView → Option CoordError
window_refusal v = refused_full Transactions (full_transactions v.limits v.opened_low (coord_skeletons v.front))

-- ---- A new transaction: the timeout is from 1 ms to a day, and there is room in the window, and in the log.

abbrev pub begin_refusal : CoordView → ℕ → Option CoordError
begin_refusal v timeout = if is_bad_timeout timeout then Some coord_error.BadTimeout else option_or (window_refusal v) (log_refusal v)

abbrev pub next_txn : CoordView → TxnId
next_txn v = txn (count_new (coord_skeletons v.front))

-- ---- A part of an open transaction. One that it has already adds nothing, and is never refused for want of room.

abbrev pub add_refusal_at : Option Status → Bool → Option CoordError → Option CoordError
add_refusal_at None repeats full = Some coord_error.NotFound
add_refusal_at (Some Open) true full = None
add_refusal_at (Some Open) false full = full
add_refusal_at (Some status) repeats full = Some (coord_error.NotOpen status)

abbrev pub add_refusal : CoordView → TxnId → ℕ → Option CoordError
add_refusal v x p = add_refusal_at (status_in_view v x) (has_part v x p) (log_refusal v)

abbrev pub with_part : CoordView → TxnId → ℕ → CoordView
with_part v x p = if has_part v x p then v else with_entry v (coord.AddPart x p)

-- ---- A decision. The same one again adds nothing, and the opposite one is refused.

abbrev pub decide_refusal_at : Option Status → Decision → Option CoordError
decide_refusal_at None d = Some coord_error.NotFound
decide_refusal_at (Some status) d = if opposes d status then Some (coord_error.NotOpen status) else None

abbrev pub decide_refusal : CoordView → TxnId → Decision → Option CoordError
decide_refusal v x d = decide_refusal_at (status_in_view v x) d

abbrev pub decided : CoordView → TxnId → Decision → CoordView
decided v x d = if is_open (status_in_view v x) then with_entry v (decision_entry x d) else v

-- The status that is told.
abbrev pub decided_status : CoordView → TxnId → Decision → Status
decided_status v x d = if is_open (status_in_view v x) then deciding d else unwrap_or (status_in_view v x) Open

-- ---- The close of a decided transaction, by its decision.

abbrev pub closing_of_view : CoordView → TxnId → CoordEntry
closing_of_view v x = closing_entry x (unwrap_or (decision_of (coord_skeletons v.front) x) Commit)
