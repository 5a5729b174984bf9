-- What is told where a part refuses.
use Rattle.std.specs.Prelude.{codes, Result, Ok, Err}
use Rattle.txn_base.specs.declared.reply.Refusal.{Refusal}
use Rattle.txn_base.specs.declared.reply.Refusal.TheVariants as no
use Rattle.txn_base.specs.declared.reply.Reply.{Reply}
use Rattle.txn_base.specs.declared.reply.Reply.TheVariants as reply
use Rattle.txn_base.specs.declared.txn.TxnId.{TxnId}
use Rattle.txn_coordinator.specs.declared.error.CoordError.{CoordError}
use Rattle.txn_coordinator.specs.declared.error.CoordError.TheVariants as coord_error

-- A refusal of the coordinator, as a client is told it.
abbrev pub coord_refusal : CoordError → Refusal
coord_refusal coord_error.NotFound = no.NotFound
coord_refusal (coord_error.NotOpen status) = no.NotOpen status
coord_refusal coord_error.BadTimeout = no.BadTimeout
coord_refusal (coord_error.Full what count) = no.Full what count
coord_refusal coord_error.Fault = no.Fault (codes "@coordinator")
coord_refusal coord_error.NoMemory = no.NoMemory

-- What is told of a transaction that was begun or not; of a part that was added or not.
abbrev pub begun_reply : Result TxnId CoordError → Reply
begun_reply (Ok x) = reply.New x
begun_reply (Err e) = reply.No (coord_refusal e)

abbrev pub added_reply : Result (Unit {0}) CoordError → Reply
added_reply (Ok u) = reply.Add
added_reply (Err e) = reply.No (coord_refusal e)
