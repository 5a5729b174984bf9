-- What an image that is left stands for.
use Rattle.std.proofs.Common.{◌≡◌, ⊎_elim, inl, inr, ℕ, ◌-◌, true, List, [], ◌∷◌, ◌++◌, refl, sym, ◌∙◌, subst}
use Rattle.std.proofs.Math.ListN.{get_or}
use Rattle.txn_base.specs.declared.entry.CoordEntry.{CoordEntry}
use Rattle.txn_base.specs.declared.entry.TopicEntry.{TopicEntry}
use Rattle.txn_base.specs.declared.file_id.FileId.{FileId}
use Rattle.txn_base.specs.Content.{Standing, settled, in_flight, looked_at, KeptOrNot}
use Rattle.txn_base.specs.Decoded.{coord_entry_of, topic_entry_of, coord_entries, topic_entries}
use Rattle.txn_base.specs.Disk.{Files}
use Rattle.txn_base.specs.Frames.{Batch, Stands}
use Rattle.txn_base.specs.Records.{IsCoordRecord}
use Rattle.txn_model.specs.declared.world.World.{World}
use Rattle.txn_model.specs.Shape.{topic_parts}
use Rattle.txn_model.specs.Sound.{ledger_file, StandsForEntries, StandsForEither, IsBareRecord, StandsFor, StandsForKept}
use Rattle.txn_model.specs.Words.{has, list_at}
use Rattle.txn_model.proofs.Laws.Files.{coord_of, topic_of_record, ledgers_stand, entries_of_batches}
use Rattle.txn_buffer.specs.View.{TopicView}
use Rattle.txn_engine.specs.Kept.{IsEngine}
use Rattle.txn_engine.specs.Table.{coord_flight, topic_flight, lists_from, flights_from, world_of, table_of}
use Rattle.txn_engine.specs.View.{EngineView, IsBacked}
use Rattle.txn_engine.proofs.Tables.{coord_entries_more, topic_entries_more}
use Rattle.txn_engine.proofs.Elsewhere.{Held, Holds, backed_holds}
use Rattle.txn_engine.proofs.Lists.{list_in, flight_in, topic_at, at_index}
use Rattle.txn_engine.proofs.Worlds.{shaped_world, index_of, no_sub_parts, some_topic}

-- ---- One ledger.

module _ (bytes : List ℕ) (batches : List Batch) where
  module _ (es : List CoordEntry) (stands : StandsForEntries IsCoordRecord bytes es) where
    coord_without : (flight : List CoordEntry) → Stands bytes batches → StandsForEither IsCoordRecord bytes (coord_entries batches) flight
    coord_without flight here = inl (subst (StandsForEntries IsCoordRecord bytes) (sym (entries_of_batches IsCoordRecord coord_entry_of coord_of bytes batches es stands here)) stands)

    coord_with : (batch : Batch) → Stands bytes (batches ++ batch ∷ []) → StandsForEither IsCoordRecord bytes (coord_entries batches) (coord_entries (batch ∷ []))
    coord_with batch here =
        inr (subst (StandsForEntries IsCoordRecord bytes) (sym (entries_of_batches IsCoordRecord coord_entry_of coord_of bytes (batches ++ batch ∷ []) es stands here) ∙ coord_entries_more batches (batch ∷ [])) stands)

    pub coord_either : (s : Standing) → KeptOrNot (Stands bytes) batches s → StandsForEither IsCoordRecord bytes (coord_entries batches) (coord_flight s)
    coord_either settled here = coord_without [] here
    coord_either looked_at here = coord_without [] here
    coord_either (in_flight batch) here = ⊎_elim (λ none. coord_without (coord_entries (batch ∷ [])) none) (λ more. coord_with batch more) here

  module _ (es : List TopicEntry) (stands : StandsForEntries IsBareRecord bytes es) where
    topic_without : (flight : List TopicEntry) → Stands bytes batches → StandsForEither IsBareRecord bytes (topic_entries batches) flight
    topic_without flight here = inl (subst (StandsForEntries IsBareRecord bytes) (sym (entries_of_batches IsBareRecord topic_entry_of topic_of_record bytes batches es stands here)) stands)

    topic_with : (batch : Batch) → Stands bytes (batches ++ batch ∷ []) → StandsForEither IsBareRecord bytes (topic_entries batches) (topic_entries (batch ∷ []))
    topic_with batch here =
        inr (subst (StandsForEntries IsBareRecord bytes) (sym (entries_of_batches IsBareRecord topic_entry_of topic_of_record bytes (batches ++ batch ∷ []) es stands here) ∙ topic_entries_more batches (batch ∷ [])) stands)

    pub topic_either : (s : Standing) → KeptOrNot (Stands bytes) batches s → StandsForEither IsBareRecord bytes (topic_entries batches) (topic_flight s)
    topic_either settled here = topic_without [] here
    topic_either looked_at here = topic_without [] here
    topic_either (in_flight batch) here = ⊎_elim (λ none. topic_without (topic_entries (batch ∷ [])) none) (λ more. topic_with batch more) here

-- ---- All ledgers.

module _ (v : EngineView) (is : IsEngine v) (c : Files) (holds : Holds v c) (w : World) (stands : StandsFor v.names c w) where
  coord_left : StandsForEither IsCoordRecord (c (ledger_file 0)) (coord_entries v.coord.content.batches) (coord_flight v.coord.content.standing)
  coord_left =
      coord_either (c (ledger_file 0)) v.coord.content.batches w.coord stands.coord v.coord.content.standing
      (subst (λ (f : FileId). KeptOrNot (Stands (c f)) v.coord.content.batches v.coord.content.standing) is.coord.key holds.coord)

  topic_left : (p : ℕ) → has (topic_parts v.names) p ≡ true → StandsForEither IsBareRecord (c (ledger_file p)) (list_at (lists_from 1 v.topics) p) (list_at (flights_from 1 v.topics) p)
  topic_left p h =
      let found = index_of v is p h in
      let t : TopicView = get_or v.topics (p - 1) (some_topic v) in
      let one : Held c t.content = at_index (λ t. Held c t.content) v.topics (p - 1) (some_topic v) found.1 holds.topics in
      let here : KeptOrNot (Stands (c (ledger_file p))) t.content.batches t.content.standing =
      subst (λ (f : FileId). KeptOrNot (Stands (c f)) t.content.batches t.content.standing) (topic_at v.limits 1 v.topics (p - 1) (some_topic v) p found.0 found.1 is.topics).key one in
      subst (λ (es : List TopicEntry). StandsForEither IsBareRecord (c (ledger_file p)) es (list_at (flights_from 1 v.topics) p)) (sym (list_in 1 v.topics (p - 1) (some_topic v) p found.0 found.1))
      (subst (λ (es : List TopicEntry). StandsForEither IsBareRecord (c (ledger_file p)) (topic_entries t.content.batches) es) (sym (flight_in 1 v.topics (p - 1) (some_topic v) p found.0 found.1))
      (topic_either (c (ledger_file p)) t.content.batches (list_at w.topics p) (stands.topics p h) t.content.standing here))

  pub left_held : StandsForKept v.names c (table_of v).world (table_of v).flights
  left_held = ledgers_stand v.names c (world_of v) (table_of v).flights (record {
    named = refl;
    shaped = shaped_world v is;
    coord = coord_left;
    topics = topic_left;
    subs = λ p h. absurd (no_sub_parts v is p h);
    others = stands.others;
  })

-- of a disk
pub left_kept : (v : EngineView) → IsEngine v → (image : Files → Type 0) → IsBacked image v → (c : Files) → image c → (w : World) → StandsFor v.names c w → StandsForKept v.names c (table_of v).world (table_of v).flights
left_kept v is image backed c at w stands = left_held v is c (backed_holds image v backed c at) w stands
