-- The state of the table, and how it changes.
use Rattle.std.specs.Prelude.{ℕ, ◌==◌, ◌&&◌, not, max, min, ◌^◌, Bool, true, false, if◌then◌else◌, List, [], ◌∷◌, ◌++◌, Option, Some, None, is_some}
use Rattle.txn_base.specs.declared.txn.TxnId.{TxnId}
use Rattle.txn_base.specs.declared.txn.Decision.{Decision}
use Rattle.txn_base.specs.declared.txn.Decision.TheVariants.{Commit, Abort}
use Rattle.txn_base.specs.declared.entry.CoordEntry.{CoordEntry}
use Rattle.txn_base.specs.declared.entry.CoordEntry.TheVariants as coord
use Rattle.txn_base.specs.declared.entry.TopicEntry.{TopicEntry}
use Rattle.txn_base.specs.declared.entry.TopicEntry.TheVariants as topic
use Rattle.txn_base.specs.declared.entry.AckEntry.{AckEntry}
use Rattle.txn_base.specs.declared.entry.AckEntry.TheVariants as ack
use Rattle.txn_model.specs.declared.world.World.{World}
use Rattle.txn_model.specs.Words.{list_at, append_at, set_at, nowhere}
use Rattle.txn_base.specs.Names.{is_sub}
use Rattle.txn_model.specs.Names.{name_of}
use Rattle.txn_model.specs.Coord.{status_of, is_open}
use Rattle.txn_model.specs.Topic.{marker_of}
use Rattle.txn_model.specs.Ack.{holder_of, is_held_by}
use Rattle.txn_model.specs.World.{Flights, log_of, part_skeletons, with_kept}

-- The settled world; the batches that are being written; which parts aren't rebuilt; the greatest moment told; the low
-- watermark when the log was first replayed; and which places of a subscription are delivered, which are none for one that
-- isn't rebuilt.
pub record TableState : Type 0 where
  pub world : World
  pub flights : Flights
  pub unrebuilt : ℕ → Bool
  pub latest : ℕ
  pub opened_low : ℕ
  pub given : ℕ → ℕ → Bool

-- Entries for the list of one part.
pub data EntryBatch : Type 0 where
  nothing : EntryBatch
  in_coord : CoordEntry → EntryBatch
  in_topic : (part : ℕ) → List TopicEntry → EntryBatch
  in_sub : (part : ℕ) → AckEntry → EntryBatch

-- The part for which a batch is.
abbrev pub batch_part : EntryBatch → Option ℕ
batch_part nothing = None
batch_part (in_coord e) = Some 0
batch_part (in_topic p es) = Some p
batch_part (in_sub p e) = Some p

-- The world in which the batch has followed the list of its part.
abbrev pub world_with : EntryBatch → World → World
world_with nothing w = w
world_with (in_coord e) w = record { names = w.names; coord = w.coord ++ e ∷ []; topics = w.topics; subs = w.subs }
world_with (in_topic p es) w = record { names = w.names; coord = w.coord; topics = append_at w.topics p es; subs = w.subs }
world_with (in_sub p e) w = record { names = w.names; coord = w.coord; topics = w.topics; subs = append_at w.subs p (e ∷ []) }

-- The flights where the batch is in flight.
abbrev pub flights_with : EntryBatch → Flights → Flights
flights_with nothing f = f
flights_with (in_coord e) f = record { coord = e ∷ []; topics = f.topics; subs = f.subs }
flights_with (in_topic p es) f = record { coord = f.coord; topics = set_at f.topics p es; subs = f.subs }
flights_with (in_sub p e) f = record { coord = f.coord; topics = f.topics; subs = set_at f.subs p (e ∷ []) }

-- The state in which the batch is settled.
abbrev pub with_batch : EntryBatch → TableState → TableState
with_batch b t = record t { world = world_with b t.world }

-- The state in which the append of the batch has failed: it is in flight, and its part, p, isn't rebuilt.
abbrev pub with_failed_batch : EntryBatch → ℕ → TableState → TableState
with_failed_batch b p t = record t { flights = flights_with b t.flights; unrebuilt = set_at t.unrebuilt p true; given = set_at t.given p nowhere }

-- The flights without that of the part p.
abbrev pub flights_without : ℕ → Flights → Flights
flights_without p f =
    record { coord = if p == 0 then [] else f.coord; topics = set_at f.topics p []; subs = set_at f.subs p [] }

-- The state in which the flight of the part p is kept or dropped.
abbrev pub resolved : ℕ → Bool → TableState → TableState
resolved p stays t =
    record t { world = if stays then with_kept t.world t.flights (λ q. q == p) else t.world; flights = flights_without p t.flights }

abbrev pub is_unrebuilt : TableState → ℕ → Bool
is_unrebuilt t p = t.unrebuilt p

-- The state in which the part p is rebuilt, its flight kept or dropped.
abbrev pub rebuilt : ℕ → Bool → TableState → TableState
rebuilt p stays t = record (resolved p stays t) { unrebuilt = set_at t.unrebuilt p false }

-- The greatest moment told becomes at least this one; one past 2 ^ 62 counts as 2 ^ 62.
abbrev pub at_moment : ℕ → TableState → TableState
at_moment m t = record t { latest = max t.latest (min m (2 ^ 62)) }

-- The batch of the decision d of x, which is none where x isn't open.
abbrev pub decision_entry : TxnId → Decision → CoordEntry
decision_entry x Commit = coord.Committing x
decision_entry x Abort = coord.Aborting x

abbrev pub decision_batch : TableState → TxnId → Decision → EntryBatch
decision_batch t x d = if is_open (status_of (log_of t.world) x) then in_coord (decision_entry x d) else nothing

-- The batch that closes x by the decision d.
abbrev pub closing_entry : TxnId → Decision → CoordEntry
closing_entry x Commit = coord.Committed x
closing_entry x Abort = coord.Aborted x

abbrev pub closing_batch : TxnId → Decision → EntryBatch
closing_batch x d = in_coord (closing_entry x d)

-- The batch of the marker d of x for the part p, which is none where the part has a marker of x.
abbrev pub topic_marker : TxnId → Decision → TopicEntry
topic_marker x Commit = topic.Commit x
topic_marker x Abort = topic.Abort x

abbrev pub ack_marker : TxnId → Decision → AckEntry
ack_marker x Commit = ack.Commit x
ack_marker x Abort = ack.Abort x

abbrev pub marker_batch : TableState → TxnId → Decision → ℕ → EntryBatch
marker_batch t x d p =
    if is_some (marker_of (part_skeletons t.world p) x) then nothing
    else (if is_sub (name_of t.world.names p) then in_sub p (ack_marker x d) else in_topic p (topic_marker x d ∷ []))

-- The delivered places, after a marker d of x for the part p. An abort's marker takes the places that x held out of them.
abbrev pub given_after : TableState → TxnId → Decision → ℕ → ℕ → ℕ → Bool
given_after t x Commit p = t.given
given_after t x Abort p = set_at t.given p (λ q. t.given p q && not (is_held_by x (holder_of (list_at t.world.subs p) q)))

-- The state in which the part p has the marker d of x.
abbrev pub marked : TxnId → Decision → ℕ → TableState → TableState
marked x d p t = record (with_batch (marker_batch t x d p) t) { given = given_after t x d p }
