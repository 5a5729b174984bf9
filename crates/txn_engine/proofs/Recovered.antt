-- The table after one part was settled or rebuilt, and what a line is told over parts that are rebuilt.
use Rattle.std.proofs.Common.{◌≡◌, ℕ, zero, suc, ◌+◌, ◌<◌, ◌≤◌, ◌==◌, not, Bool, true, false, if◌then◌else◌, List, [], ◌∷◌, ◌++◌, length, IsTrue, MatchBool, refl, sym, ap, ap₂, ◌∙◌, subst, arith, append-nil}
use Rattle.std.proofs.Math.ListN.{get_or}
use Rattle.std.proofs.lemmas.Bool.Decides.{nat_tests}
use Rattle.txn_base.specs.declared.entry.CoordEntry.{CoordEntry}
use Rattle.txn_base.specs.declared.entry.TopicEntry.{TopicEntry}
use Rattle.txn_base.specs.Content.{LedgerContent, Standing, settled, in_flight, looked_at, kept, dropped, with_flight}
use Rattle.txn_base.specs.Decoded.{coord_entries, topic_entries}
use Rattle.txn_base.specs.Frames.{Batch as FrameBatch}
use Rattle.txn_model.specs.declared.world.World.{World}
use Rattle.txn_model.specs.Table.{TableState, resolved, rebuilt, flights_without, is_unrebuilt}
use Rattle.txn_model.specs.Words.{list_at, set_at, nowhere}
use Rattle.txn_model.specs.World.{Flights, followed, with_kept}
use Rattle.txn_buffer.specs.View.{TopicView}
use Rattle.txn_coordinator.specs.View.{CoordView}
use Rattle.txn_engine.specs.Table.{coord_flight, topic_flight, lists_from, flights_from, unrebuilt_from, world_of, table_of}
use Rattle.txn_engine.specs.View.{EngineView, with_coord, with_topics, replaced}
use Rattle.txn_engine.proofs.Lists.{never_below, here, past, lists_replaced, flight_in, flights_set, unrebuilt_still, unrebuilt_set}
use Rattle.txn_engine.proofs.Tables.{coord_entries_more, topic_entries_more}

-- ---- The batch in flight follows the list of its part, and no other list.

-- the entries of a ledger that kept what was in flight
coord_with : (bs : List FrameBatch) (at : Standing) → coord_entries (with_flight bs at) ≡ coord_entries bs ++ coord_flight at
coord_with bs settled = sym (append-nil (coord_entries bs))
coord_with bs looked_at = sym (append-nil (coord_entries bs))
coord_with bs (in_flight b) = coord_entries_more bs (b ∷ [])

topic_with : (bs : List FrameBatch) (at : Standing) → topic_entries (with_flight bs at) ≡ topic_entries bs ++ topic_flight at
topic_with bs settled = sym (append-nil (topic_entries bs))
topic_with bs looked_at = sym (append-nil (topic_entries bs))
topic_with bs (in_flight b) = topic_entries_more bs (b ∷ [])

module _ (p : ℕ) (flights : ℕ → List TopicEntry) where
  -- lists of parts behind p
  followed_past : (k : ℕ) (ts : List TopicView) → p < k → followed (λ q. q == p) flights (lists_from k ts) ≡ lists_from k ts
  followed_past k [] h = refl
  followed_past k (t ∷ ts) h = rw (apart k h) (ap (λ (ls : List (ℕ × List TopicEntry)). (k, topic_entries t.content.batches) ∷ ls) (followed_past (suc k) ts (omega (arith, h))))
    where
      apart : (k : ℕ) → p < k → (k == p) ≡ false
      apart k h = grind (arith, nat_tests, h)

  -- the list of p
  followed_at : (k : ℕ) (ts : List TopicView) (i : ℕ) (t d : TopicView) → p ≡ k + i → i < length ts → topic_entries t.content.batches ≡ topic_entries (get_or ts i d).content.batches ++ flights p
      → lists_from k (replaced ts i t) ≡ followed (λ q. q == p) flights (lists_from k ts)
  followed_at k [] i t d e h grown = absurd (never_below i h)
  followed_at k (u ∷ us) zero t d e h grown =
      let same : p ≡ k = omega (arith, e) in
      let list : topic_entries t.content.batches ≡ topic_entries u.content.batches ++ flights k = grown ∙ ap (λ (q : ℕ). topic_entries u.content.batches ++ flights q) same in
      rw (here k p e) (ap₂ (λ (es : List TopicEntry) (ls : List (ℕ × List TopicEntry)). (k, es) ∷ ls) list (sym (followed_past (suc k) us (omega (arith, e)))))
  followed_at k (u ∷ us) (suc i) t d e h grown =
      rw (past k i p e) (ap (λ (ls : List (ℕ × List TopicEntry)). (k, topic_entries u.content.batches) ∷ ls) (followed_at (suc k) us i t d (omega (arith, e)) (omega (arith, h)) grown))

-- ---- Nothing is in flight of it then.

cleared : {E : Type 0} (f : ℕ → List E) (p : ℕ) → f p ≡ [] → (q : ℕ) → f q ≡ set_at f p [] q
cleared f p none q = by_test (q == p) refl
  where
    same_as : (q : ℕ) → (q == p) ≡ true → q ≡ p
    same_as q h = grind (arith, nat_tests, h)

    by_test : (b : Bool) → (q == p) ≡ b → f q ≡ (if b then [] else f q)
    by_test true h = ap f (same_as q h) ∙ none
    by_test false h = refl

flight_before : (k : ℕ) (ts : List TopicView) (p : ℕ) → p < k → list_at (flights_from k ts) p ≡ []
flight_before k [] p h = refl
flight_before k (t ∷ ts) p h = rw (apart k p h) (flight_before (suc k) ts p (omega (arith, h)))
  where
    apart : (k p : ℕ) → p < k → (k == p) ≡ false
    apart k p h = grind (arith, nat_tests, h)

-- ---- The content that settling leaves: with what was in flight, or without it.
abbrev pub settled_so : Bool → LedgerContent → LedgerContent
settled_so true content = kept content
settled_so false content = dropped content

-- ---- The coordinator.

module _ (v : EngineView) (c : CoordView) (stays : Bool) (content : c.content ≡ settled_so stays v.coord.content) (low : c.opened_low ≡ v.coord.opened_low) where
  coord_world : world_of (with_coord v c) ≡ (if stays then with_kept (world_of v) (table_of v).flights (λ q. q == 0) else world_of v)
  coord_world = ap (λ (k : LedgerContent). world_of (with_coord v (record c { content = k }))) content ∙ by_case stays
    where
      by_case : (b : Bool) → world_of (with_coord v (record c { content = settled_so b v.coord.content })) ≡ (if b then with_kept (world_of v) (table_of v).flights (λ q. q == 0) else world_of v)
      by_case true = λ i. record {
        names = v.names;
        coord = coord_with v.coord.content.batches v.coord.content.standing i;
        topics = sym (followed_past 0 (λ p. list_at (flights_from 1 v.topics) p) 1 v.topics (omega arith)) i;
        subs = [];
      }
      by_case false = refl

  coord_flights : (table_of (with_coord v c)).flights ≡ flights_without 0 (table_of v).flights
  coord_flights =
      let quiet : coord_flight c.content.standing ≡ [] = ap (λ (k : LedgerContent). coord_flight k.standing) content ∙ by_case stays in
      λ i. record {
        coord = quiet i;
        topics = λ p. cleared (λ (q : ℕ). list_at (flights_from 1 v.topics) q) 0 (flight_before 1 v.topics 0 (omega arith)) p i;
        subs = λ p. cleared (λ (q : ℕ). []) 0 refl p i;
      }
    where
      by_case : (b : Bool) → coord_flight (settled_so b v.coord.content).standing ≡ []
      by_case true = refl
      by_case false = refl

  module _ (unrebuilt : ℕ → Bool) (is : (p : ℕ) → is_unrebuilt (table_of (with_coord v c)) p ≡ unrebuilt p) where
    coord_table : table_of (with_coord v c) ≡ record (resolved 0 stays (table_of v)) { unrebuilt = unrebuilt }
    coord_table = λ i. record { world = coord_world i; flights = coord_flights i; unrebuilt = λ p. is p i; latest = v.latest; opened_low = low i; given = λ s. nowhere }

  -- its recovery was refused after it was settled
  pub resolved_coord : c.whole ≡ v.coord.whole → table_of (with_coord v c) ≡ resolved 0 stays (table_of v)
  resolved_coord same = coord_table (table_of v).unrebuilt (λ p. ap (λ (b : Bool). if p == 0 then not b else unrebuilt_from 1 v.topics p) same)

  -- it is rebuilt
  pub rebuilt_coord : IsTrue c.whole → table_of (with_coord v c) ≡ rebuilt 0 stays (table_of v)
  rebuilt_coord whole = coord_table (set_at (table_of v).unrebuilt 0 false) (λ p. by_test p (p == 0) whole)
    where
      by_test : (p : ℕ) (b : Bool) → c.whole ≡ true
          → (if b then not c.whole else unrebuilt_from 1 v.topics p) ≡ (if b then false else (if b then not v.coord.whole else unrebuilt_from 1 v.topics p))
      by_test p true h = ap not h
      by_test p false h = refl

-- ---- A topic.

-- it isn't the coordinator
before_it : (j : ℕ) → (0 == (1 + j)) ≡ false
before_it j = grind (arith, nat_tests)

behind_it : (j : ℕ) → ((1 + j) == 0) ≡ false
behind_it j = grind (arith, nat_tests)

module _ (v : EngineView) (j : ℕ) (d t : TopicView) (below : j < length v.topics) (stays : Bool) (content : t.content ≡ settled_so stays (get_or v.topics j d).content) where
  abbrev then_is : EngineView
  then_is = with_topics v (replaced v.topics j t)

  topic_lists : lists_from 1 (replaced v.topics j t) ≡ (if stays then followed (λ q. q == (1 + j)) (λ p. list_at (flights_from 1 v.topics) p) (lists_from 1 v.topics) else lists_from 1 v.topics)
  topic_lists = by_case stays content
    where
      by_case : (b : Bool) → t.content ≡ settled_so b (get_or v.topics j d).content
          → lists_from 1 (replaced v.topics j t) ≡ (if b then followed (λ q. q == (1 + j)) (λ p. list_at (flights_from 1 v.topics) p) (lists_from 1 v.topics) else lists_from 1 v.topics)
      by_case true h =
          followed_at (1 + j) (λ p. list_at (flights_from 1 v.topics) p) 1 v.topics j t d refl below
          (ap (λ (k : LedgerContent). topic_entries k.batches) h ∙ topic_with (get_or v.topics j d).content.batches (get_or v.topics j d).content.standing
          ∙ ap (λ (es : List TopicEntry). topic_entries (get_or v.topics j d).content.batches ++ es) (sym (flight_in 1 v.topics j d (1 + j) refl below)))
      by_case false h = lists_replaced 1 v.topics j t d below (ap (λ (k : LedgerContent). topic_entries k.batches) h)

  topic_world : world_of then_is ≡ (if stays then with_kept (world_of v) (table_of v).flights (λ q. q == (1 + j)) else world_of v)
  topic_world = by_case stays topic_lists
    where
      by_case : (b : Bool) → lists_from 1 (replaced v.topics j t) ≡ (if b then followed (λ q. q == (1 + j)) (λ p. list_at (flights_from 1 v.topics) p) (lists_from 1 v.topics) else lists_from 1 v.topics)
          → world_of then_is ≡ (if b then with_kept (world_of v) (table_of v).flights (λ q. q == (1 + j)) else world_of v)
      by_case true h =
          let entries : List CoordEntry = coord_entries v.coord.content.batches in
          let same : entries ≡ (if 0 == (1 + j) then entries ++ coord_flight v.coord.content.standing else entries) = ap (λ (b : Bool). if b then entries ++ coord_flight v.coord.content.standing else entries) (sym (before_it j)) in
          λ i. record { names = v.names; coord = same i; topics = h i; subs = [] }
      by_case false h = λ i. record { names = v.names; coord = coord_entries v.coord.content.batches; topics = h i; subs = [] }

  topic_flights : (table_of then_is).flights ≡ flights_without (1 + j) (table_of v).flights
  topic_flights =
      let quiet : topic_flight t.content.standing ≡ [] = ap (λ (k : LedgerContent). topic_flight k.standing) content ∙ by_case stays in
      let same : coord_flight v.coord.content.standing ≡ (if (1 + j) == 0 then [] else coord_flight v.coord.content.standing) = ap (λ (b : Bool). if b then [] else coord_flight v.coord.content.standing) (sym (behind_it j)) in
      λ i. record {
        coord = same i;
        topics = λ p. (flights_set 1 v.topics j t (1 + j) refl below p ∙ ap (λ (es : List TopicEntry). if p == (1 + j) then es else list_at (flights_from 1 v.topics) p) quiet) i;
        subs = λ p. cleared (λ (q : ℕ). []) (1 + j) refl p i;
      }
    where
      by_case : (b : Bool) → topic_flight (settled_so b (get_or v.topics j d).content).standing ≡ []
      by_case true = refl
      by_case false = refl

  module _ (unrebuilt : ℕ → Bool) (is : (p : ℕ) → is_unrebuilt (table_of then_is) p ≡ unrebuilt p) where
    topic_table : table_of then_is ≡ record (resolved (1 + j) stays (table_of v)) { unrebuilt = unrebuilt }
    topic_table = λ i. record { world = topic_world i; flights = topic_flights i; unrebuilt = λ p. is p i; latest = v.latest; opened_low = v.coord.opened_low; given = λ s. nowhere }

  -- its recovery was refused after it was settled
  pub resolved_topic : t.whole ≡ (get_or v.topics j d).whole → table_of then_is ≡ resolved (1 + j) stays (table_of v)
  resolved_topic same = topic_table (table_of v).unrebuilt (λ p. ap (λ (b : Bool). if p == 0 then not v.coord.whole else b) (unrebuilt_still 1 v.topics j t d below same p))

  -- it is rebuilt
  pub rebuilt_topic : IsTrue t.whole → table_of then_is ≡ rebuilt (1 + j) stays (table_of v)
  rebuilt_topic whole = topic_table (set_at (table_of v).unrebuilt (1 + j) false) (λ p. by_test p (p == 0) refl)
    where
      zero_not : (p : ℕ) → (p == 0) ≡ true → (p == (1 + j)) ≡ false
      zero_not p h = grind (arith, nat_tests, h)

      by_test : (p : ℕ) (b : Bool) → (p == 0) ≡ b → (if p == 0 then not v.coord.whole else unrebuilt_from 1 (replaced v.topics j t) p)
          ≡ (if p == (1 + j) then false else (if p == 0 then not v.coord.whole else unrebuilt_from 1 v.topics p))
      by_test p true e = rw (e, zero_not p e) refl
      by_test p false e = rw e (unrebuilt_set 1 v.topics j t (1 + j) refl below p ∙ ap (λ (b : Bool). if p == (1 + j) then b else unrebuilt_from 1 v.topics p) (ap not whole))
