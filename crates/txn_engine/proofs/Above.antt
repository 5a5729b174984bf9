-- What the images of an append stand for.
use Rattle.std.proofs.Common.{◌≡◌, ⊎_elim, ℕ, ◌+◌, ◌<◌, true, List, [], ◌∷◌, ◌++◌, length, refl, sym, subst, arith}
use Rattle.std.proofs.Math.ListN.{get_or}
use Rattle.std.proofs.lemmas.Grind.{flat_map-append}
use Rattle.txn_base.specs.declared.entry.CoordEntry.{CoordEntry}
use Rattle.txn_base.specs.declared.entry.TopicEntry.{TopicEntry}
use Rattle.txn_base.specs.declared.file_id.FileId.{FileId}
use Rattle.txn_base.specs.Content.{settled, Appends}
use Rattle.txn_base.specs.Disk.{Files, Elsewhere}
use Rattle.txn_base.specs.Frames.{Record, Batch as FrameBatch, records, Stands}
use Rattle.txn_base.specs.Records.{IsCoordEntry, IsCoordRecord}
use Rattle.txn_base.proofs.Laws.{stands_one}
use Rattle.txn_ledger.specs.Ledger.{IsFile, StandsIn}
use Rattle.txn_model.specs.declared.world.World.{World}
use Rattle.txn_model.specs.Allowed.{IsAllowed, LawfulState}
use Rattle.txn_model.specs.Shape.{topic_parts}
use Rattle.txn_model.specs.Sound.{ledger_file, RecordsOf, StandsForEntries, IsBareRecord, StandsFor}
use Rattle.txn_model.specs.Table.{in_coord, in_topic, world_with}
use Rattle.txn_model.specs.Words.{has, list_at}
use Rattle.txn_model.specs.World.{Lawful}
use Rattle.txn_model.proofs.Laws.Files.{coord_append_stands, coord_change_stands, topic_append_stands, topic_change_stands, records_behind, kept_sound, stands_for_one}
use Rattle.txn_model.proofs.Laws.States.{failed_state}
use Rattle.txn_model.proofs.Laws.Worlds.{extends_same, extends_both, batch_grows}
use Rattle.txn_buffer.specs.View.{TopicView, topic_batch, with_failed_entries}
use Rattle.txn_coordinator.proofs.Laws.{entry_records}
use Rattle.txn_coordinator.specs.View.{coord_batch, with_failed_entry}
use Rattle.txn_engine.specs.Above.{KeepsAbove}
use Rattle.txn_engine.specs.Growing.{GrowsWorld}
use Rattle.txn_engine.specs.Kept.{IsEngine}
use Rattle.txn_engine.specs.Table.{world_of, table_of}
use Rattle.txn_engine.specs.View.{EngineView, IsBacked, with_coord, with_topics, replaced}
use Rattle.txn_engine.proofs.Bodies.{entries_back}
use Rattle.txn_engine.proofs.Elsewhere.{Held, Holds, backed_holds, held_still, other_coord, other_topics, other_topics_but}
use Rattle.txn_engine.proofs.Left.{left_held}
use Rattle.txn_engine.proofs.Lists.{topic_at, at_index}
use Rattle.txn_engine.proofs.Tables.{coord_fails, topic_fails}
use Rattle.txn_engine.proofs.Worlds.{some_topic, topic_part, stands_settled}

-- ---- The same bytes, or more behind them.

module _ {E : Type 0} (is : Record → E → Type 0) (bytes bytes' : List ℕ) (batches : List FrameBatch) (es : List E) (stands : StandsForEntries is bytes es) (before : Stands bytes batches) where
  old_records : RecordsOf is (records batches) es
  old_records = subst (λ (bs : List FrameBatch). RecordsOf is (records bs) es) (stands_one bytes stands.batches batches stands.stands before) stands.each

  pub still_stands : Stands bytes' batches → StandsForEntries is bytes' es
  still_stands after = record { batches = batches; stands = after; each = old_records }

  pub more_stands : (more : List FrameBatch) (fs : List E) → Stands bytes' (batches ++ more) → RecordsOf is (records more) fs → StandsForEntries is bytes' (es ++ fs)
  more_stands more fs after each = record {
    batches = batches ++ more;
    stands = after;
    each = subst (λ (rs : List Record). RecordsOf is rs (es ++ fs)) (sym (flat_map-append (λ (b : FrameBatch). b) batches more)) (records_behind is (records batches) (records more) es fs old_records each);
  }

-- ---- An append by a part that is whole, whatever the others are.

-- What grows stays lawful where all that the files after may stand for is lawful.
grown_above : (names : List (List ℕ)) (d c : Files) → GrowsWorld names d c → ((w : World) → StandsFor names c w → Lawful w) → KeepsAbove names d c
grown_above names d c grown lawful floor was =
    let later = grown was.sound.world was.sound.stands in
    record {
      sound = record { world = later.0; stands = later.1; lawful = lawful later.0 later.1 };
      extends = extends_both floor was.sound.world later.0 was.extends later.2;
    }

-- What the files of an image stand for is lawful where the state of the table is.
held_lawful : (v : EngineView) → IsEngine v → LawfulState (table_of v) → (c : Files) → Holds v c → (w : World) → StandsFor v.names c w → Lawful w
held_lawful v is state c holds w stands =
    let kept = left_held v is c holds w stands in
    let sound = kept_sound v.names c (table_of v) state kept in
    subst Lawful (stands_for_one v.names c sound.world w sound.stands stands) sound.lawful

module _ (v : EngineView) (is : IsEngine v) (image : Files → Type 0) (backed : IsBacked image v) where
  -- an entry of the coordinator
  module _ (e : CoordEntry) (fits : IsCoordEntry e) (rests : v.coord.content.standing ≡ settled) (d c : Files) (at : image d) (step : Appends IsFile StandsIn v.coord.content (coord_batch e) d c) where
    coord_others : Elsewhere (ledger_file 0) d c
    coord_others = subst (λ (f : FileId). Elsewhere f d c) is.coord.key step.others

    coord_before : StandsIn v.coord.content.key d v.coord.content.batches
    coord_before = stands_settled (StandsIn v.coord.content.key d) v.coord.content.batches v.coord.content.standing rests (backed.coord.each d at)

    pub coord_worlds : GrowsWorld v.names d c
    coord_worlds w stands =
        let before : Stands (d (ledger_file 0)) v.coord.content.batches = subst (λ (f : FileId). Stands (d f) v.coord.content.batches) is.coord.key coord_before in
        ⊎_elim
        (λ none. (
          w,
          coord_change_stands v.names d c w stands coord_others
              (still_stands IsCoordRecord (d (ledger_file 0)) (c (ledger_file 0)) v.coord.content.batches w.coord stands.coord before (subst (λ (f : FileId). Stands (c f) v.coord.content.batches) is.coord.key none)),
          extends_same w,
        ))
        (λ more. (
          world_with (in_coord e) w,
          coord_append_stands v.names d c w stands e coord_others
              (more_stands IsCoordRecord (d (ledger_file 0)) (c (ledger_file 0)) v.coord.content.batches w.coord stands.coord before (coord_batch e ∷ []) (e ∷ [])
              (subst (λ (f : FileId). Stands (c f) (v.coord.content.batches ++ coord_batch e ∷ [])) is.coord.key more) (entry_records e fits)),
          batch_grows (in_coord e) w,
        ))
        step.here

    coord_holds : Holds (with_coord v (with_failed_entry v.coord e)) c
    coord_holds =
        let was = backed_holds image v backed d at in
        record { coord = step.here; topics = other_topics (Held d) (Held c) 0 (held_still 0 d c coord_others) v.limits 1 v.topics (omega arith) is.topics was.topics }

    pub coord_above : IsEngine (with_coord v (with_failed_entry v.coord e)) → IsAllowed (in_coord e) (world_of v) → LawfulState (table_of v) → KeepsAbove v.names d c
    coord_above is' allowed state =
        grown_above v.names d c coord_worlds
        (held_lawful (with_coord v (with_failed_entry v.coord e)) is'
        (subst LawfulState (sym (coord_fails v e fits rests)) (failed_state (in_coord e) 0 (table_of v) refl state allowed)) c coord_holds)

  -- entries of a topic
  module _ (j : ℕ) (below : j < length v.topics) (es : List TopicEntry) (each : RecordsOf IsBareRecord (records (topic_batch es ∷ [])) es) (rests : (get_or v.topics j (some_topic v)).content.standing ≡ settled)
      (d c : Files) (at : image d) (step : Appends IsFile StandsIn (get_or v.topics j (some_topic v)).content (topic_batch es) d c) where
    abbrev topic : TopicView
    topic = get_or v.topics j (some_topic v)

    abbrev failed : EngineView
    failed = with_topics v (replaced v.topics j (with_failed_entries topic es))

    key : topic.content.key ≡ ledger_file (1 + j)
    key = (topic_at v.limits 1 v.topics j (some_topic v) (1 + j) refl below is.topics).key

    topic_others : Elsewhere (ledger_file (1 + j)) d c
    topic_others = subst (λ (f : FileId). Elsewhere f d c) key step.others

    topic_before : StandsIn topic.content.key d topic.content.batches
    topic_before =
        stands_settled (StandsIn topic.content.key d) topic.content.batches topic.content.standing rests
        (at_index (λ t. Held d t.content) v.topics j (some_topic v) below (backed_holds image v backed d at).topics)

    pub topic_worlds : GrowsWorld v.names d c
    topic_worlds w stands =
        let before : Stands (d (ledger_file (1 + j))) topic.content.batches = subst (λ (f : FileId). Stands (d f) topic.content.batches) key topic_before in
        let named : has (topic_parts v.names) (1 + j) ≡ true = topic_part v is j below in
        let old : StandsForEntries IsBareRecord (d (ledger_file (1 + j))) (list_at w.topics (1 + j)) = stands.topics (1 + j) named in
        ⊎_elim
        (λ none. (
          w,
          topic_change_stands v.names d c w stands (1 + j) named topic_others
              (still_stands IsBareRecord (d (ledger_file (1 + j))) (c (ledger_file (1 + j))) topic.content.batches (list_at w.topics (1 + j)) old before (subst (λ (f : FileId). Stands (c f) topic.content.batches) key none)),
          extends_same w,
        ))
        (λ more. (
          world_with (in_topic (1 + j) es) w,
          topic_append_stands v.names d c w stands (1 + j) es named topic_others
              (more_stands IsBareRecord (d (ledger_file (1 + j))) (c (ledger_file (1 + j))) topic.content.batches (list_at w.topics (1 + j)) old before (topic_batch es ∷ []) es
              (subst (λ (f : FileId). Stands (c f) (topic.content.batches ++ topic_batch es ∷ [])) key more) each),
          batch_grows (in_topic (1 + j) es) w,
        ))
        step.here

    topic_holds : Holds failed c
    topic_holds =
        let was = backed_holds image v backed d at in
        let others = held_still (1 + j) d c topic_others in
        record {
          coord = other_coord (Held d) (Held c) (1 + j) others (omega arith) v.coord.content is.coord.key was.coord;
          topics = other_topics_but (Held d) (Held c) (1 + j) others v.limits 1 j v.topics (with_failed_entries topic es) refl step.here is.topics was.topics;
        }

    pub topic_above : IsEngine failed → IsAllowed (in_topic (1 + j) es) (world_of v) → LawfulState (table_of v) → KeepsAbove v.names d c
    topic_above is' allowed state =
        grown_above v.names d c topic_worlds
        (held_lawful failed is'
        (subst LawfulState (sym (topic_fails v j (some_topic v) below es (entries_back es each))) (failed_state (in_topic (1 + j) es) (1 + j) (table_of v) refl state allowed)) c topic_holds)
