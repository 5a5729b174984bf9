-- The table after one part of an engine has changed, whatever the others are.
use Rattle.std.proofs.Common.{◌≡◌, ℕ, ◌+◌, ◌<◌, ◌==◌, not, Bool, true, false, if◌then◌else◌, List, [], ◌∷◌, ◌++◌, length, map, IsTrue, refl, sym, ap, ◌∙◌, arith}
use Rattle.std.proofs.Math.ListN.{get_or}
use Rattle.std.proofs.lemmas.Bool.Decides.{nat_tests}
use Rattle.std.proofs.lemmas.Grind.{flat_map-append}
use Rattle.std.proofs.lemmas.List.{map-append}
use Rattle.txn_base.specs.declared.entry.CoordEntry.{CoordEntry}
use Rattle.txn_base.specs.declared.entry.TopicEntry.{TopicEntry}
use Rattle.txn_base.specs.Content.{settled}
use Rattle.txn_base.specs.Decoded.{coord_entry_of, topic_entry_of, coord_entries, topic_entries}
use Rattle.txn_base.specs.Frames.{records, Batch as FrameBatch}
use Rattle.txn_base.specs.Records.{IsCoordEntry}
use Rattle.txn_model.specs.Table.{TableState, in_coord, in_topic, with_batch, with_failed_batch}
use Rattle.txn_model.specs.Words.{append_at, set_at, nowhere, list_at}
use Rattle.txn_model.proofs.Laws.Files.{coord_decoded}
use Rattle.txn_buffer.specs.View as topic
use Rattle.txn_buffer.specs.View.{TopicView, topic_batch, with_entries}
use Rattle.txn_coordinator.specs.View.{CoordView, coord_batch, with_entry, with_failed_entry, reserving}
use Rattle.txn_engine.specs.Kept.{IsEngine}
use Rattle.txn_engine.specs.Table.{coord_flight, topic_flight, lists_from, flights_from, unrebuilt_from, table_of}
use Rattle.txn_engine.specs.View.{EngineView, with_coord, with_topics, replaced}
use Rattle.txn_engine.proofs.Lists.{lists_more, lists_replaced, flights_still, flights_set, unrebuilt_still, unrebuilt_set}

-- ---- Entries of a batch more.

pub coord_entries_more : (bs more : List FrameBatch) → coord_entries (bs ++ more) ≡ coord_entries bs ++ coord_entries more
coord_entries_more bs more = ap (map coord_entry_of) (flat_map-append (λ (b : FrameBatch). b) bs more) ∙ map-append coord_entry_of (records bs) (records more)

pub topic_entries_more : (bs more : List FrameBatch) → topic_entries (bs ++ more) ≡ topic_entries bs ++ topic_entries more
topic_entries_more bs more = ap (map topic_entry_of) (flat_map-append (λ (b : FrameBatch). b) bs more) ∙ map-append topic_entry_of (records bs) (records more)

-- ---- A part that has failed isn't rebuilt, and no place of it is delivered.

pub given_same : (p : ℕ) → set_at (λ (s : ℕ). nowhere) p nowhere ≡ (λ (s : ℕ). nowhere)
given_same p = λ i s. at (s == p) i
  where
    at : (b : Bool) → (if b then nowhere else nowhere) ≡ nowhere
    at true = refl
    at false = refl

module _ (v : EngineView) where
  -- ---- The coordinator.

  module _ (e : CoordEntry) (fits : IsCoordEntry e) (rests : v.coord.content.standing ≡ settled) where
    one_entry : coord_entries (coord_batch e ∷ []) ≡ e ∷ []
    one_entry = ap (λ (x : CoordEntry). x ∷ []) (coord_decoded e fits)

    -- with an entry more
    pub coord_follows : (k : ℕ) → table_of (with_coord v (reserving k (with_entry v.coord e))) ≡ with_batch (in_coord e) (table_of v)
    coord_follows k =
        let grown : coord_entries (v.coord.content.batches ++ coord_batch e ∷ []) ≡ coord_entries v.coord.content.batches ++ e ∷ [] =
        coord_entries_more v.coord.content.batches (coord_batch e ∷ []) ∙ ap (λ (l : List CoordEntry). coord_entries v.coord.content.batches ++ l) one_entry in
        let flight : [] ≡ coord_flight v.coord.content.standing = sym (ap coord_flight rests) in
        λ i. record {
          world = record { names = v.names; coord = grown i; topics = lists_from 1 v.topics; subs = [] };
          flights = record { coord = flight i; topics = λ p. list_at (flights_from 1 v.topics) p; subs = λ p. [] };
          unrebuilt = λ p. if p == 0 then not v.coord.whole else unrebuilt_from 1 v.topics p;
          latest = v.latest;
          opened_low = v.coord.opened_low;
          given = λ s. nowhere;
        }

    -- where the append of an entry failed
    pub coord_fails : table_of (with_coord v (with_failed_entry v.coord e)) ≡ with_failed_batch (in_coord e) 0 (table_of v)
    coord_fails = λ i. record {
      world = record { names = v.names; coord = coord_entries v.coord.content.batches; topics = lists_from 1 v.topics; subs = [] };
      flights = record { coord = one_entry i; topics = λ p. list_at (flights_from 1 v.topics) p; subs = λ p. [] };
      unrebuilt = λ p. unrebuilt_here p i;
      latest = v.latest;
      opened_low = v.coord.opened_low;
      given = sym (given_same 0) i;
    }
      where
        unrebuilt_here : (p : ℕ) → (if p == 0 then true else unrebuilt_from 1 v.topics p) ≡ (if p == 0 then true else (if p == 0 then not v.coord.whole else unrebuilt_from 1 v.topics p))
        unrebuilt_here p = by_test (p == 0)
          where
            by_test : (b : Bool) → (if b then true else unrebuilt_from 1 v.topics p) ≡ (if b then true else (if b then not v.coord.whole else unrebuilt_from 1 v.topics p))
            by_test true = refl
            by_test false = refl

  -- ---- A topic.

  module _ (j : ℕ) (d : TopicView) (below : j < length v.topics) (es : List TopicEntry) (back : topic_entries (topic_batch es ∷ []) ≡ es) where
    abbrev at : TopicView
    at = get_or v.topics j d

    zero_not : (p : ℕ) → (p == 0) ≡ true → (p == (1 + j)) ≡ false
    zero_not p h = grind (arith, nat_tests, h)

    -- with entries more
    pub topic_follows : (ends : ℕ) → at.content.standing ≡ settled → table_of (with_topics v (replaced v.topics j (with_entries at es ends))) ≡ with_batch (in_topic (1 + j) es) (table_of v)
    topic_follows ends rests =
        let t : TopicView = with_entries at es ends in
        let lists : lists_from 1 (replaced v.topics j t) ≡ append_at (lists_from 1 v.topics) (1 + j) es =
        lists_more 1 v.topics j t d es (1 + j) refl below
        (topic_entries_more at.content.batches (topic_batch es ∷ []) ∙ ap (λ (l : List TopicEntry). topic_entries at.content.batches ++ l) back) in
        let flights : flights_from 1 (replaced v.topics j t) ≡ flights_from 1 v.topics = flights_still 1 v.topics j t d below (sym (ap topic_flight rests)) in
        λ i. record {
          world = record { names = v.names; coord = coord_entries v.coord.content.batches; topics = lists i; subs = [] };
          flights = record { coord = coord_flight v.coord.content.standing; topics = λ p. list_at (flights i) p; subs = λ p. [] };
          unrebuilt = λ p. if p == 0 then not v.coord.whole else unrebuilt_still 1 v.topics j t d below refl p i;
          latest = v.latest;
          opened_low = v.coord.opened_low;
          given = λ s. nowhere;
        }

    -- where the append of entries failed
    pub topic_fails : table_of (with_topics v (replaced v.topics j (topic.with_failed_entries at es))) ≡ with_failed_batch (in_topic (1 + j) es) (1 + j) (table_of v)
    topic_fails =
        let t : TopicView = topic.with_failed_entries at es in
        let lists : lists_from 1 (replaced v.topics j t) ≡ lists_from 1 v.topics = lists_replaced 1 v.topics j t d below refl in
        λ i. record {
          world = record { names = v.names; coord = coord_entries v.coord.content.batches; topics = lists i; subs = [] };
          flights = record { coord = coord_flight v.coord.content.standing; topics = λ p. flight_here p i; subs = λ p. [] };
          unrebuilt = λ p. unrebuilt_here p i;
          latest = v.latest;
          opened_low = v.coord.opened_low;
          given = sym (given_same (1 + j)) i;
        }
      where
        flight_here : (p : ℕ) → list_at (flights_from 1 (replaced v.topics j (topic.with_failed_entries at es))) p ≡ (if p == (1 + j) then es else list_at (flights_from 1 v.topics) p)
        flight_here p =
            flights_set 1 v.topics j (topic.with_failed_entries at es) (1 + j) refl below p
            ∙ ap (λ (l : List TopicEntry). if p == (1 + j) then l else list_at (flights_from 1 v.topics) p) back

        unrebuilt_here : (p : ℕ) → (if p == 0 then not v.coord.whole else unrebuilt_from 1 (replaced v.topics j (topic.with_failed_entries at es)) p)
            ≡ (if p == (1 + j) then true else (if p == 0 then not v.coord.whole else unrebuilt_from 1 v.topics p))
        unrebuilt_here p = by_test (p == 0) refl
          where
            by_test : (b : Bool) → (p == 0) ≡ b → (if p == 0 then not v.coord.whole else unrebuilt_from 1 (replaced v.topics j (topic.with_failed_entries at es)) p)
                ≡ (if p == (1 + j) then true else (if p == 0 then not v.coord.whole else unrebuilt_from 1 v.topics p))
            by_test true e = rw (e, zero_not p e) refl
            by_test false e = rw e (unrebuilt_set 1 v.topics j (topic.with_failed_entries at es) (1 + j) refl below p)

-- ---- The table by the coordinator that an engine has then.
pub table_grown : (v : EngineView) → IsEngine v → (e : CoordEntry) → IsCoordEntry e → IsTrue v.coord.whole → (c' : CoordView) (k : ℕ) → c' ≡ reserving k (with_entry v.coord e) → table_of (with_coord v c') ≡ with_batch (in_coord e) (table_of v)
table_grown v is e fits whole c' k now = ap (λ (c : CoordView). table_of (with_coord v c)) now ∙ coord_follows v e fits (is.coord.settled_is whole) k

pub table_failed : (v : EngineView) → IsEngine v → (e : CoordEntry) → IsCoordEntry e → IsTrue v.coord.whole → (c' : CoordView) → c' ≡ with_failed_entry v.coord e → table_of (with_coord v c') ≡ with_failed_batch (in_coord e) 0 (table_of v)
table_failed v is e fits whole c' now = ap (λ (c : CoordView). table_of (with_coord v c)) now ∙ coord_fails v e fits (is.coord.settled_is whole)
