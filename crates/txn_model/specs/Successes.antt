-- What a line does that isn't refused: the entries that it adds, its reply, and the delivered places afterwards.
use Rattle.std.specs.Prelude.{ℕ, ◌+◌, Bool, if◌then◌else◌, List, [], ◌∷◌, length, map, unwrap_or}
use Rattle.txn_base.specs.declared.limits.Limits.{Limits}
use Rattle.txn_base.specs.declared.txn.Status.TheVariants.{Open}
use Rattle.txn_base.specs.declared.messages.Message.{Message}
use Rattle.txn_base.specs.declared.entry.CoordEntry.TheVariants as coord
use Rattle.txn_base.specs.declared.entry.TopicEntry.{TopicEntry}
use Rattle.txn_base.specs.declared.entry.AckEntry.{AckEntry}
use Rattle.txn_base.specs.declared.request.Request.{Request}
use Rattle.txn_base.specs.declared.request.Request.TheVariants as request
use Rattle.txn_base.specs.declared.reply.Reply.{Reply}
use Rattle.txn_base.specs.declared.reply.Reply.TheVariants as reply
use Rattle.txn_base.specs.declared.reply.Refusal.TheVariants as no
use Rattle.txn_model.specs.Words.{list_at, set_at, nowhere}
use Rattle.txn_model.specs.Coord.{status_of, in_parts, count_new}
use Rattle.txn_model.specs.Deadlines.{txn}
use Rattle.txn_model.specs.Entries.{message_entry}
use Rattle.txn_model.specs.Topic.{limit_of, read_slice}
use Rattle.txn_model.specs.World.{log_of}
use Rattle.txn_model.specs.Table.{TableState, EntryBatch, nothing, in_coord, in_topic, in_sub}
use Rattle.txn_model.specs.Requests.{number_of}
use Rattle.txn_model.specs.Delivery.{given_with}
use Rattle.txn_model.specs.LateRows.{acks_in, deliverable_in}

pub record Success : Type 0 where
  pub adds : EntryBatch
  pub reply : Reply
  pub given : ℕ → ℕ → Bool

-- The batch is added and this is told; only this is told; this is told and these places are delivered.
abbrev pub adding : TableState → EntryBatch → Reply → Success
adding t batch told = record { adds = batch; reply = told; given = t.given }

abbrev pub only : TableState → Reply → Success
only t told = adding t nothing told

abbrev pub giving : (ℕ → ℕ → Bool) → Reply → Success
giving given told = record { adds = nothing; reply = told; given = given }

-- The batch of these entries for the subscription p, of which there is one or none.
abbrev pub acks_batch : ℕ → List AckEntry → EntryBatch
acks_batch p [] = nothing
acks_batch p (e ∷ es) = in_sub p e

-- The row of a request other than commit, abort and tick.
abbrev pub success_of : Limits → TableState → Request → Success
success_of limits t (request.New timeout) =
    adding t (in_coord (coord.New (txn (count_new (log_of t.world))) (t.latest + timeout))) (reply.New (txn (count_new (log_of t.world))))
success_of limits t (request.Add x part) =
    adding t (if in_parts (log_of t.world) x (number_of t.world part) then nothing else in_coord (coord.AddPart x (number_of t.world part))) reply.Add
success_of limits t (request.Publish topic who bodies) =
    adding t (in_topic (number_of t.world topic) (map (message_entry who) bodies)) (reply.Publish (length (list_at t.world.topics (number_of t.world topic))) (length bodies))
success_of limits t (request.Ack sub who places) =
    adding t (acks_batch (number_of t.world sub) (acks_in t.world (request.Ack sub who places))) reply.Ack
success_of limits t (request.AckUpTo sub who place) =
    adding t (acks_batch (number_of t.world sub) (acks_in t.world (request.AckUpTo sub who place))) reply.AckUpTo
success_of limits t (request.Status x) =
    only t (reply.Status (unwrap_or (status_of (log_of t.world) x) Open))
success_of limits t (request.Read topic first max) =
    let es : List TopicEntry = list_at t.world.topics (number_of t.world topic) in
    only t (reply.Read (limit_of es) (read_slice limits es first max))
success_of limits t (request.Receive sub max) =
    let messages : List Message = deliverable_in limits t (request.Receive sub max) max in
    giving (set_at t.given (number_of t.world sub) (given_with (t.given (number_of t.world sub)) messages)) (reply.Receive messages)
success_of limits t (request.Redeliver sub) =
    giving (set_at t.given (number_of t.world sub) nowhere) reply.Redeliver
success_of limits t _ = only t (reply.No no.BadLine)
