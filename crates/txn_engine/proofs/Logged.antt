-- The table over an engine, by what the parts that a line uses have rebuilt.
use Rattle.std.proofs.Common.{◌≡◌, ℕ, ◌+◌, ◌<◌, ◌≤◌, ◌==◌, not, Bool, true, false, if◌then◌else◌, List, [], ◌∷◌, length, Option, Some, None, IsTrue, refl, sym, ap, ◌∙◌, subst, arith}
use Rattle.std.proofs.Math.ListN.{get_or}
use Rattle.std.proofs.lemmas.Bool.Decides.{nat_tests}
use Rattle.std.proofs.lemmas.List.{take_all, length-map}
use Rattle.txn_base.specs.declared.entry.CoordEntry.{CoordEntry}
use Rattle.txn_base.specs.declared.entry.TopicEntry.{TopicEntry}
use Rattle.txn_base.specs.declared.limits.Limits.{Limits}
use Rattle.txn_base.specs.declared.request.Request.{Request}
use Rattle.txn_base.specs.declared.reply.Reply.{Reply}
use Rattle.txn_base.specs.declared.txn.TxnId.{TxnId}
use Rattle.txn_base.specs.Decoded.{coord_entry_of, topic_entry_of, coord_entries, topic_entries}
use Rattle.txn_base.specs.Frames.{records}
use Rattle.txn_model.specs.declared.world.World.{World}
use Rattle.txn_model.specs.Answers.{Answers}
use Rattle.txn_model.specs.Table.{TableState, is_unrebuilt}
use Rattle.txn_model.specs.Words.{list_at, nowhere}
use Rattle.txn_buffer.specs.View as topic
use Rattle.txn_buffer.specs.View.{TopicView}
use Rattle.txn_coordinator.specs.View as coordinator
use Rattle.txn_coordinator.specs.View.{CoordView}
use Rattle.txn_engine.specs.Kept.{IsCoordinator, IsTopic, IsEngine}
use Rattle.txn_engine.specs.Table.{coord_flight, lists_from, flights_from, unrebuilt_from, world_of, table_of}
use Rattle.txn_engine.specs.View.{EngineView, IsTied, UsesLog}
use Rattle.txn_engine.proofs.Lists.{list_in, unrebuilt_in, topic_at, at_index}

-- ---- One part: what it has rebuilt is all that its ledger has.

pub coord_front : (limits : Limits) (n : ℕ) (v : CoordView) → IsCoordinator limits n v → IsTrue v.whole → coordinator.IsFrontOf v → coord_entries v.content.batches ≡ v.front
coord_front limits n v is whole tied =
    let long : length (coord_entries v.content.batches) ≤ length v.front = omega (arith, length-map (records v.content.batches) coord_entry_of, is.all whole) in
    sym (tied ∙ take_all (length v.front) (coord_entries v.content.batches) long)

pub topic_front : (limits : Limits) (p : ℕ) (v : TopicView) → IsTopic limits p v → IsTrue v.whole → topic.IsFrontOf v → topic_entries v.content.batches ≡ v.front
topic_front limits p v is whole tied =
    let long : length (topic_entries v.content.batches) ≤ length v.front = omega (arith, length-map (records v.content.batches) topic_entry_of, is.all whole) in
    sym (tied.entries ∙ take_all (length v.front) (topic_entries v.content.batches) long)

-- the list of the topic at an index
pub topic_list : (v : EngineView) → IsEngine v → IsTied v → (j : ℕ) (d : TopicView) → j < length v.topics → IsTrue (get_or v.topics j d).whole → list_at (lists_from 1 v.topics) (1 + j) ≡ (get_or v.topics j d).front
topic_list v is tied j d below whole =
    list_in 1 v.topics j d (1 + j) refl below
    ∙ topic_front v.limits (1 + j) (get_or v.topics j d) (topic_at v.limits 1 v.topics j d (1 + j) refl below is.topics) whole (at_index topic.IsFrontOf v.topics j d below tied.topics)

-- ---- The table, by this list of the coordinator, what it has in flight, and whether it isn't rebuilt.

abbrev pub world_by : EngineView → List CoordEntry → World
world_by v log = record { names = v.names; coord = log; topics = lists_from 1 v.topics; subs = [] }

abbrev pub table_by : EngineView → List CoordEntry → List CoordEntry → Bool → TableState
table_by v log flight lost =
    record {
      world = world_by v log;
      flights = record { coord = flight; topics = λ p. list_at (flights_from 1 v.topics) p; subs = λ p. [] };
      unrebuilt = λ p. if p == 0 then lost else unrebuilt_from 1 v.topics p;
      latest = v.latest;
      opened_low = v.coord.opened_low;
      given = λ s. nowhere;
    }

-- there a topic is rebuilt where it is in the engine
pub topic_rebuilt : (v : EngineView) (j : ℕ) (d : TopicView) → j < length v.topics → IsTrue (get_or v.topics j d).whole → (log flight : List CoordEntry) (lost : Bool) (q : ℕ) → q ≡ 1 + j → is_unrebuilt (table_by v log flight lost) q ≡ false
topic_rebuilt v j d below whole log flight lost q e = by_test (q == 0) refl
  where
    never : (q : ℕ) → q ≡ 1 + j → (q == 0) ≡ true → ⊥
    never q e zero = grind (arith, nat_tests, e, zero)

    by_test : (b : Bool) → (q == 0) ≡ b → (if b then lost else unrebuilt_from 1 v.topics q) ≡ false
    by_test true zero = absurd (never q e zero)
    by_test false zero = unrebuilt_in 1 v.topics j d q e below ∙ ap not whole

-- by what the coordinator has rebuilt, where it is whole
abbrev pub logged_world : EngineView → World
logged_world v = world_by v v.coord.front

abbrev pub logged_table : EngineView → TableState
logged_table v = table_by v v.coord.front [] false

module _ (v : EngineView) (is : IsEngine v) (whole : IsTrue v.coord.whole) (tied : IsTied v) where
  pub log_is : coord_entries v.coord.content.batches ≡ v.coord.front
  log_is = coord_front v.limits (length v.names) v.coord is.coord whole tied.coord

  pub world_is : world_of v ≡ logged_world v
  world_is = ap (world_by v) log_is

  pub table_is : table_of v ≡ logged_table v
  table_is =
      let flight : coord_flight v.coord.content.standing ≡ [] = ap coord_flight (is.coord.settled_is whole) in
      let lost : not v.coord.whole ≡ false = ap not whole in
      λ i. table_by v (log_is i) (flight i) (lost i)

  -- what is told over it
  pub told_from : (limits : Limits) (rose : ℕ → Type 0) (r : Request) (told : Reply) (t' : TableState) → Answers limits rose (logged_table v) r told t' → Answers limits rose (table_of v) r told t'
  told_from limits rose r told t' h = subst (λ (t : TableState). Answers limits rose t r told t') (sym table_is) h

-- ---- The same for a line of a transaction or of none, which uses the coordinator or not.

abbrev pub log_for : EngineView → Option TxnId → List CoordEntry
log_for v None = coord_entries v.coord.content.batches
log_for v (Some x) = v.coord.front

abbrev pub flight_for : EngineView → Option TxnId → List CoordEntry
flight_for v None = coord_flight v.coord.content.standing
flight_for v (Some x) = []

abbrev pub lost_for : EngineView → Option TxnId → Bool
lost_for v None = not v.coord.whole
lost_for v (Some x) = false

abbrev pub world_for : EngineView → Option TxnId → World
world_for v who = world_by v (log_for v who)

abbrev pub table_for : EngineView → Option TxnId → TableState
table_for v who = table_by v (log_for v who) (flight_for v who) (lost_for v who)

module _ (v : EngineView) (is : IsEngine v) (tied : IsTied v) where
  pub table_for_is : (who : Option TxnId) → UsesLog v who → table_of v ≡ table_for v who
  table_for_is None whole = refl
  table_for_is (Some x) whole = table_is v is whole tied
