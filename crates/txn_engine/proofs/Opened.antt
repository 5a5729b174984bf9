-- An engine whose parts are all rebuilt: what each line uses is rebuilt, and its table is lawful where its world is.
use Rattle.std.proofs.Common.{◌≡◌, ℕ, suc, ◌-◌, ◌<◌, ◌==◌, not, Bool, true, false, if◌then◌else◌, List, [], ◌∷◌, length, Option, Some, None, All, IsTrue, refl, sym, ap, subst, arith}
use Rattle.std.proofs.Math.ListN.{get_or}
use Rattle.std.proofs.lemmas.List.Elements.{All-head, All-tail, All-cons, All-nil}
use Rattle.txn_base.specs.declared.limits.Limits.{Limits}
use Rattle.txn_base.specs.declared.txn.TxnId.{TxnId}
use Rattle.txn_base.specs.Content.{settled}
use Rattle.txn_base.specs.Disk.{Files}
use Rattle.txn_buffer.specs.View.{TopicView}
use Rattle.txn_model.specs.declared.world.World.{World}
use Rattle.txn_model.specs.Allowed.{AllowedFlights, LawfulState}
use Rattle.txn_model.specs.Sound.{StandsFor}
use Rattle.txn_model.specs.Table.{is_unrebuilt}
use Rattle.txn_model.specs.World.{Lawful, Flights, no_flights}
use Rattle.txn_model.proofs.Laws.Names.{known}
use Rattle.txn_model.proofs.Laws.Worlds.{no_flights_allowed}
use Rattle.txn_engine.specs.Kept.{AreTopics, IsEngine}
use Rattle.txn_engine.specs.Table.{coord_flight, unrebuilt_from, world_of, table_of}
use Rattle.txn_engine.specs.View.{EngineView, IsWhole, IsBacked, UsesLog, IsWholeAt, IsWholeTopic}
use Rattle.txn_engine.proofs.Lists.{at_index, no_flight, none_unrebuilt}
use Rattle.txn_engine.proofs.Worlds.{shaped_world, world_here, coord_backed, topics_backed}

-- ---- What a line uses.

module _ (v : EngineView) (whole : IsWhole v) where
  pub whole_log : (who : Option TxnId) → UsesLog v who
  whole_log None = tt
  whole_log (Some x) = whole.coord

  pub whole_index : (j : ℕ) → j < length v.topics → IsWholeAt v j
  whole_index j below d = at_index (λ t. IsTrue t.whole) v.topics j d below whole.topics

  pub whole_topic : IsEngine v → (topic : List ℕ) → IsWholeTopic v topic
  whole_topic is topic p e = let found = known v.names topic p e in whole_index (p - 1) (omega (arith, found.low, found.high, is.count))

  pub not_unrebuilt : (p : ℕ) → is_unrebuilt (table_of v) p ≡ false
  not_unrebuilt p = by_test (p == 0) (not v.coord.whole) (unrebuilt_from 1 v.topics p) (ap not whole.coord) (none_unrebuilt 1 v.topics whole.topics p)
    where
      by_test : (b x rest : Bool) → x ≡ false → rest ≡ false → (if b then x else rest) ≡ false
      by_test true x rest e h = e
      by_test false x rest e h = h

-- ---- Nothing is in flight.

are_settled : (limits : Limits) (k : ℕ) (ts : List TopicView) → AreTopics limits k ts → All (λ t. IsTrue t.whole) ts → All (λ t. t.content.standing ≡ settled) ts
are_settled limits k [] are whole = All-nil (λ t. t.content.standing ≡ settled)
are_settled limits k (t ∷ ts) are whole =
    All-cons (λ t. t.content.standing ≡ settled) t ts (are.0.settled_is (All-head (λ t. IsTrue t.whole) t ts whole)) (are_settled limits (suc k) ts are.1 (All-tail (λ t. IsTrue t.whole) t ts whole))

module _ (v : EngineView) (is : IsEngine v) (whole : IsWhole v) where
  settled_topics : All (λ t. t.content.standing ≡ settled) v.topics
  settled_topics = are_settled v.limits 1 v.topics is.topics whole.topics

  pub nothing_flies : (table_of v).flights ≡ no_flights
  nothing_flies = λ i. record {
    coord = ap coord_flight (is.coord.settled_is whole.coord) i;
    topics = λ p. no_flight 1 v.topics settled_topics p i;
    subs = λ p. no_flights.subs p;
  }

  lawful_table : Lawful (world_of v) → LawfulState (table_of v)
  lawful_table lawful = record {
    shaped = shaped_world v is;
    lawful = lawful;
    flights = subst (AllowedFlights (world_of v)) (sym nothing_flies) (no_flights_allowed (world_of v) lawful);
    unrebuilt = record {
      coord = λ rebuilt. ap (λ (f : Flights). f.coord) nothing_flies;
      topics = λ p rebuilt. ap (λ (f : Flights). f.topics p) nothing_flies;
      subs = λ p rebuilt. refl;
    };
  }

  -- where an image stands for a lawful world
  pub opened_lawful : (image : Files → Type 0) → IsBacked image v → (c : Files) → image c → (w : World) → StandsFor v.names c w → Lawful w → LawfulState (table_of v)
  opened_lawful image backed c at w stands lawful =
      lawful_table
      (subst Lawful (world_here v is c (coord_backed v is whole image backed c at) (topics_backed 1 v.topics settled_topics image backed.topics c at) w stands) lawful)
