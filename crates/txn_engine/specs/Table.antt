-- The state of the table that an engine stands for.
use Rattle.std.specs.Prelude.{ℕ, suc, ◌==◌, Bool, false, not, if◌then◌else◌, List, [], ◌∷◌}
use Rattle.txn_base.specs.declared.entry.CoordEntry.{CoordEntry}
use Rattle.txn_base.specs.declared.entry.TopicEntry.{TopicEntry}
use Rattle.txn_base.specs.Content.{Standing, settled, in_flight, looked_at}
use Rattle.txn_base.specs.Decoded.{coord_entries, topic_entries}
use Rattle.txn_model.specs.declared.world.World.{World}
use Rattle.txn_model.specs.Words.{list_at, nowhere}
use Rattle.txn_model.specs.Table.{TableState}
use Rattle.txn_buffer.specs.View.{TopicView}
use Rattle.txn_engine.specs.View.{EngineView}

-- The entries that a coordinator has in flight; those that a topic has.
abbrev pub coord_flight : Standing → List CoordEntry
coord_flight settled = []
coord_flight (in_flight batch) = coord_entries (batch ∷ [])
coord_flight looked_at = []

abbrev pub topic_flight : Standing → List TopicEntry
topic_flight settled = []
topic_flight (in_flight batch) = topic_entries (batch ∷ [])
topic_flight looked_at = []

-- From part k on, the entries of these topics' ledgers, each list beside its part; what they have in flight; and which of
-- them aren't rebuilt.
abbrev pub lists_from : ℕ → List TopicView → List (ℕ × List TopicEntry)
lists_from k [] = []
lists_from k (t ∷ ts) = (k, topic_entries t.content.batches) ∷ lists_from (suc k) ts

abbrev pub flights_from : ℕ → List TopicView → List (ℕ × List TopicEntry)
flights_from k [] = []
flights_from k (t ∷ ts) = (k, topic_flight t.content.standing) ∷ flights_from (suc k) ts

abbrev pub unrebuilt_from : ℕ → List TopicView → ℕ → Bool
unrebuilt_from k [] p = false
unrebuilt_from k (t ∷ ts) p = if p == k then not t.whole else unrebuilt_from (suc k) ts p

-- The world of the ledgers, without what is in flight.
abbrev pub world_of : EngineView → World
world_of v = record { names = v.names; coord = coord_entries v.coord.content.batches; topics = lists_from 1 v.topics; subs = [] }

-- The table over it.
abbrev pub table_of : EngineView → TableState
table_of v =
    record {
      world = world_of v;
      flights = record { coord = coord_flight v.coord.content.standing; topics = λ p. list_at (flights_from 1 v.topics) p; subs = λ p. [] };
      unrebuilt = λ p. if p == 0 then not v.coord.whole else unrebuilt_from 1 v.topics p;
      latest = v.latest;
      opened_low = v.coord.opened_low;
      given = λ s. nowhere;
    }
