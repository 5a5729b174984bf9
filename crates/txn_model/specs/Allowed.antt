-- Batches that may be in flight over a world, and states of the table that stay lawful whatever a stop keeps.
use Rattle.std.specs.Prelude.{◌≡◌, ℕ, true, false, if◌then◌else◌, List, [], ◌++◌, length}
use Rattle.txn_base.specs.declared.core_entry.CoreEntry.{CoreEntry}
use Rattle.txn_base.specs.Names.{is_sub}
use Rattle.txn_model.specs.declared.world.World.{World}
use Rattle.txn_model.specs.Words.{list_at}
use Rattle.txn_model.specs.Skeletons.{coord_skeletons, topic_skeletons, ack_skeletons}
use Rattle.txn_model.specs.Names.{name_of}
use Rattle.txn_model.specs.Coord.{CoordLawful}
use Rattle.txn_model.specs.Topic.{TopicLawful}
use Rattle.txn_model.specs.Ack.{AckLawful}
use Rattle.txn_model.specs.World.{log_of, part_skeletons, RegisteredFirst, MarkerDecided, MarkersStand, Lawful, Flights, no_flights}
use Rattle.txn_model.specs.Table.{TableState, EntryBatch, nothing, in_coord, in_topic, in_sub, flights_with, is_unrebuilt}
use Rattle.txn_model.specs.Shape.{Shaped}

-- The coordinator's log of a world, with the flight behind it.
abbrev pub log_with : World → Flights → List CoreEntry
log_with w f = log_of w ++ coord_skeletons f.coord

-- In a world, the flight of the part p, a topic or a subscription by its name, as skeletons.
abbrev pub flight_skeletons : World → Flights → ℕ → List CoreEntry
flight_skeletons w f p = if is_sub (name_of w.names p) then ack_skeletons (f.subs p) else topic_skeletons (f.topics p)

-- Over the world w these flights are allowed. Each list is lawful with its flight, and of what is in flight the three rules
-- across lists hold: registered first, a marker follows its decision, and markers stand before a closing.
pub record AllowedFlights (w : World) (f : Flights) : Type 0 where
  pub coord : CoordLawful (length w.names) (log_with w f)
  pub topics : (p : ℕ) → TopicLawful (list_at w.topics p ++ f.topics p)
  pub subs : (p : ℕ) → AckLawful (list_at w.subs p ++ f.subs p)
  pub registered : RegisteredFirst (log_of w) (flight_skeletons w f)
  pub decided : MarkerDecided (log_of w) (flight_skeletons w f)
  pub closed : MarkersStand (coord_skeletons f.coord) (log_with w f) (part_skeletons w)

-- Over the world w the batch is allowed: alone in flight, it would be.
abbrev pub IsAllowed : EntryBatch → World → Type 0
IsAllowed b w = AllowedFlights w (flights_with b no_flights)

-- In a state, the part of a batch is rebuilt.
abbrev pub IsPartRebuilt : EntryBatch → TableState → Type 0
IsPartRebuilt nothing t = Unit {0}
IsPartRebuilt (in_coord e) t = is_unrebuilt t 0 ≡ false
IsPartRebuilt (in_topic p es) t = is_unrebuilt t p ≡ false
IsPartRebuilt (in_sub p e) t = is_unrebuilt t p ≡ false

-- Only a part that isn't rebuilt has a flight.
pub record NoFlightWhereRebuilt (t : TableState) : Type 0 where
  pub coord : is_unrebuilt t 0 ≡ false → t.flights.coord ≡ []
  pub topics : (p : ℕ) → is_unrebuilt t p ≡ false → t.flights.topics p ≡ []
  pub subs : (p : ℕ) → is_unrebuilt t p ≡ false → t.flights.subs p ≡ []

-- A state of the table is lawful where its world is, has its shape, and its flights are allowed.
pub record LawfulState (t : TableState) : Type 0 where
  pub shaped : Shaped t.world
  pub lawful : Lawful t.world
  pub flights : AllowedFlights t.world t.flights
  pub unrebuilt : NoFlightWhereRebuilt t
