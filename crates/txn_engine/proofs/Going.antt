-- How an engine goes on through a call of one of its parts.
use Rattle.std.proofs.Common.{◌≡◌, ◌⊎◌, ⊎_elim, inl, inr, ℕ, ◌+◌, ◌<◌, ◌≤◌, ◌==◌, not, Bool, true, false, if◌then◌else◌, List, [], ◌∷◌, length, Some, All, IsTrue, refl, sym, ap, ◌∙◌, subst, arith}
use Rattle.std.proofs.Math.ListN.{get_or}
use Rattle.std.proofs.lemmas.Bool.{false≢true}
use Rattle.std.proofs.lemmas.Bool.Decides.{nat_tests}
use Rattle.txn_base.specs.declared.disk.Disk.{Ghosts}
use Rattle.txn_base.specs.Moves.{After, FaultsIn}
use Rattle.txn_base.specs.declared.entry.CoordEntry.{CoordEntry}
use Rattle.txn_base.specs.declared.entry.TopicEntry.{TopicEntry}
use Rattle.txn_base.specs.declared.file_id.FileId.{FileId}
use Rattle.txn_base.specs.Content.{LedgerContent, KeptOrNot, Appends, settled}
use Rattle.txn_base.specs.Decoded.{coord_entries}
use Rattle.txn_base.specs.Disk.{Files, Elsewhere, CountsFaults}
use Rattle.txn_base.specs.Frames.{Batch as FrameBatch, records, Stands}
use Rattle.txn_base.specs.Outside.{Rose}
use Rattle.txn_base.specs.Records.{IsCoordEntry}
use Rattle.txn_base.proofs.Laws.{weaker, goes_on, started, settled_stands}
use Rattle.txn_ledger.specs.Ledger.{IsFile, StandsIn, ExactlyIn, Stored}
use Rattle.txn_base.specs.declared.reply.Reply.{Reply}
use Rattle.txn_model.specs.Allowed.{IsAllowed, IsPartRebuilt, LawfulState}
use Rattle.txn_model.specs.Replies.{is_fault}
use Rattle.txn_model.specs.Shape.{IsFor}
use Rattle.txn_model.specs.Sound.{ledger_file, RecordsOf, IsBareRecord}
use Rattle.txn_model.specs.Table.{TableState, EntryBatch, batch_part, in_coord, in_topic, is_unrebuilt, with_batch, with_failed_batch}
use Rattle.txn_model.specs.Words.{list_at}
use Rattle.txn_model.specs.World.{Lawful}
use Rattle.txn_model.proofs.Laws.States.{same_state, settled_state, failed_state}
use Rattle.txn_buffer.specs.View as topic
use Rattle.txn_buffer.specs.View.{TopicView, topic_batch, with_entries, with_failed_entries}
use Rattle.txn_coordinator.specs.View as coordinator
use Rattle.txn_coordinator.specs.View.{CoordView, coord_batch, with_failed_entry}
use Rattle.txn_engine.specs.Above.{StandsAbove, KeepsAbove, KeepsAboveIf}
use Rattle.txn_engine.specs.Files.{OnlyLedgers}
use Rattle.txn_engine.specs.Growing.{Grows, GrowsWorld}
use Rattle.txn_engine.specs.Kept.{IsTopic, IsEngine}
use Rattle.txn_engine.specs.Table.{world_of, table_of, coord_flight, lists_from, flights_from, unrebuilt_from}
use Rattle.txn_engine.specs.Told.{IsSure, CountsWithin, EngineGoesOn, FaultsWithin}
use Rattle.txn_engine.specs.View.{EngineView, IsWhole, IsTied, IsBacked, with_coord, with_topics, replaced}
use Rattle.txn_engine.proofs.Above.{coord_above, coord_worlds, topic_above, topic_worlds}
use Rattle.txn_engine.proofs.Bodies.{entries_back}
use Rattle.txn_engine.proofs.Coordinators.{failed_is, engine_with}
use Rattle.txn_engine.proofs.Elsewhere.{other_coord, other_topics, other_topics_but}
use Rattle.txn_engine.proofs.Files.{only_one, only_then, images_append, images_then}
use Rattle.txn_engine.proofs.Growing.{appended_grows, files_first, files_then, worlds_first, worlds_then}
use Rattle.txn_engine.proofs.Lists.{at_index, all_replaced, topic_at}
use Rattle.txn_engine.proofs.Logged.{topic_rebuilt}
use Rattle.txn_engine.proofs.Tables.{topic_follows, topic_fails}
use Rattle.txn_engine.proofs.Topics.{failed_topic, engine_topics}
use Rattle.txn_engine.proofs.Worlds.{IsTopicAt, some_topic, topic_part}

-- ---- Counts.

pub counts_still : (n f : ℕ) (fs : ℕ → ℕ) (X : Type 0) → (X → ⊥) → CountsWithin n f f fs fs X
counts_still n f fs X none = record { later = omega arith; parts_later = λ p. omega arith; failed = λ x. absurd (none x); others = λ p past most. refl }

pub counts_of : (n part f g : ℕ) (fs gs : ℕ → ℕ) (X Y : Type 0) → part ≤ n → (Y → X) → CountsFaults part f g fs gs X → CountsWithin n f g fs gs Y
counts_of n part f g fs gs X Y within means h = record {
  later = h.later;
  parts_later = h.parts_later;
  failed = λ y. (part, within, h.failed (means y));
  others = λ p past most. h.others p most (λ same. apart p part n within past same);
}
  where
    apart : (p part n : ℕ) → part ≤ n → n < p → p ≡ part → ⊥
    apart p part n within past same = omega (arith, within, past, same)

pub rose_then : (a b c : ℕ) → a ≤ b → Rose b c → Rose a c
rose_then a b c le rose = grind (arith, le, rose)

pub counts_then : (n f g h : ℕ) (fs gs hs : ℕ → ℕ) (X Y : Type 0) → CountsWithin n f g fs gs X → CountsWithin n g h gs hs Y → CountsWithin n f h fs hs Y
counts_then n f g h fs gs hs X Y one two = record {
  later = omega (arith, one.later, two.later);
  parts_later = λ p. omega (arith, one.parts_later p, two.parts_later p);
  failed = λ y. let r = two.failed y in (r.0, r.1, (rose_then f g h one.later r.2.0, rose_then (fs r.0) (gs r.0) (hs r.0) (one.parts_later r.0) r.2.1));
  others = λ p past most. two.others p past most ∙ one.others p past most;
}

-- ---- The state of the table stays lawful.

-- where the parts stay as they are
lawful_same : (v v' : EngineView) → v'.names ≡ v.names → v'.coord ≡ v.coord → v'.topics ≡ v.topics → LawfulState (table_of v) → LawfulState (table_of v')
lawful_same v v' names coord topics =
    same_state (table_of v) (table_of v')
    (λ i. record { names = names i; coord = coord_entries (coord i).content.batches; topics = lists_from 1 (topics i); subs = [] })
    (λ i. record { coord = coord_flight (coord i).content.standing; topics = λ p. list_at (flights_from 1 (topics i)) p; subs = λ p. [] })
    (λ i p. if p == 0 then not (coord i).whole else unrebuilt_from 1 (topics i) p)

-- by a batch that is allowed, for a part that is rebuilt, whether its append failed or not
moved_lawful : (b : EntryBatch) (p : ℕ) (t t' : TableState) → batch_part b ≡ Some p → IsFor b t.world.names → IsPartRebuilt b t → LawfulState t → IsAllowed b t.world
    → (t' ≡ with_batch b t) ⊎ (t' ≡ with_failed_batch b p t) → LawfulState t'
moved_lawful b p t t' part kind rebuilt state allowed =
    ⊎_elim
    (λ follows. subst LawfulState (sym follows) (settled_state b t state kind rebuilt allowed))
    (λ fails. subst LawfulState (sym fails) (failed_state b p t part state allowed))

-- ---- The table by the topic at an index that an engine has then.

module _ (v : EngineView) (is : IsEngine v) (j : ℕ) (below : j < length v.topics) (es : List TopicEntry) (each : RecordsOf IsBareRecord (records (topic_batch es ∷ [])) es) (t : TopicView) (at : IsTopicAt v j t) where
  pub topic_grown : IsTrue t.whole → (t' : TopicView) (k : ℕ) → t' ≡ with_entries t es k → table_of (with_topics v (replaced v.topics j t')) ≡ with_batch (in_topic (1 + j) es) (table_of v)
  topic_grown whole t' k now =
      let one : IsTopic v.limits (1 + j) (get_or v.topics j (some_topic v)) = topic_at v.limits 1 v.topics j (some_topic v) (1 + j) refl below is.topics in
      ap (λ (u : TopicView). table_of (with_topics v (replaced v.topics j u))) (now ∙ ap (λ (u : TopicView). with_entries u es k) (sym at))
      ∙ topic_follows v j (some_topic v) below es (entries_back es each) k (one.settled_is (subst (λ (u : TopicView). IsTrue u.whole) (sym at) whole))

  pub topic_failed : (t' : TopicView) → t' ≡ with_failed_entries t es → table_of (with_topics v (replaced v.topics j t')) ≡ with_failed_batch (in_topic (1 + j) es) (1 + j) (table_of v)
  topic_failed t' now =
      ap (λ (u : TopicView). table_of (with_topics v (replaced v.topics j u))) (now ∙ ap (λ (u : TopicView). with_failed_entries u es) (sym at))
      ∙ topic_fails v j (some_topic v) below es (entries_back es each)

-- ---- An engine one part of which has failed.

failed_coord : (v : EngineView) → IsEngine v → (e : CoordEntry) → IsEngine (with_coord v (with_failed_entry v.coord e))
failed_coord v is e = engine_with v is (with_failed_entry v.coord e) (failed_is v.limits (length v.names) v.coord e is.coord) v.latest is.latest

failed_at : (v : EngineView) → IsEngine v → (j : ℕ) (below : j < length v.topics) (es : List TopicEntry) → IsEngine (with_topics v (replaced v.topics j (with_failed_entries (get_or v.topics j (some_topic v)) es)))
failed_at v is j below es =
    engine_topics v is j (with_failed_entries (get_or v.topics j (some_topic v)) es)
    (failed_topic v.limits (1 + j) (get_or v.topics j (some_topic v)) es (topic_at v.limits 1 v.topics j (some_topic v) (1 + j) refl below is.topics))

module _ {D : Type 0} (on : Ghosts D) where
  -- ---- A ledger whose file an append leaves.

  module _ (p : ℕ) (content : LedgerContent) (batch : FrameBatch) (key : content.key ≡ ledger_file p) (old new : D) (since : After on (Appends IsFile StandsIn content batch) old new) where
    still_backed : (k : LedgerContent) → (k.key ≡ ledger_file p → ⊥) → Stored (on.image old) k → Stored (on.image new) k
    still_backed k apart backed = record {
      each = λ c at.
          let from = since.at_end c at in
          subst (λ (bytes : List ℕ). KeptOrNot (Stands bytes) k.batches k.standing) (sym (from.2.others k.key (λ same. apart (same ∙ key)))) (backed.each from.0 from.1);
      exact = λ is c at. let from = since.at_end c at in from.2.others k.key (λ same. apart (same ∙ key)) ∙ backed.exact is from.0 from.1;
    }

  -- ---- Going on.

  module _ where
    -- nothing happened to a part, or to the disk
    pub goes_still : (X : Type 0) → (X → ⊥) → (v v' : EngineView) (disk : D) → IsBacked (on.image disk) v → v'.names ≡ v.names → v'.coord ≡ v.coord → v'.topics ≡ v.topics → EngineGoesOn on X v v' disk disk
    goes_still X none v v' disk backed names coord topics = record {
      names = names;
      whole = inl (λ whole. record { coord = subst (λ (c : CoordView). IsTrue c.whole) (sym coord) whole.coord; topics = subst (λ (ts : List TopicView). All (λ t. IsTrue t.whole) ts) (sym topics) whole.topics });
      tied = λ told tied. record { coord = subst coordinator.IsFrontOf (sym coord) tied.coord; topics = subst (All topic.IsFrontOf) (sym topics) tied.topics };
      lawful = λ was. lawful_same v v' names coord topics was.lawful;
      backed = record {
        coord = subst (λ (c : CoordView). Stored (on.image disk) c.content) (sym coord) backed.coord;
        topics = subst (λ (ts : List TopicView). All (λ t. Stored (on.image disk) t.content) ts) (sym topics) backed.topics;
      };
      images = started on disk (KeepsAboveIf (IsSure on v) v.names) (λ c at holds floor above. above);
      grows = files_first on disk;
      worlds = worlds_first on v.names disk;
      elsewhere = started on disk (OnlyLedgers (length v.names)) (λ c at file apart. refl);
      others = λ file apart. refl;
      cause = counts_still (length v.names) (on.faults disk) (on.part_faults disk) X none;
    }

    -- so it is by a reply that tells of no fault
    pub goes_quiet : (told : Reply) → is_fault told ≡ false → (v : EngineView) (disk : D) → IsBacked (on.image disk) v → EngineGoesOn on (is_fault told ≡ true) v v disk disk
    goes_quiet told quiet v disk backed = goes_still (is_fault told ≡ true) (λ is. false≢true (sym quiet ∙ is)) v v disk backed refl refl refl

    -- the same from a view with the same parts
    pub goes_from : (X : Type 0) (u v v' : EngineView) (old new : D) → v.names ≡ u.names → v.coord ≡ u.coord → v.topics ≡ u.topics → EngineGoesOn on X v v' old new → EngineGoesOn on X u v' old new
    goes_from X u v v' old new names coord topics goes =
        let tied : IsTied u → IsTied v =
        λ was. record { coord = subst coordinator.IsFrontOf (sym coord) was.coord; topics = subst (All topic.IsFrontOf) (sym topics) was.topics } in
        let sure : IsSure on u → IsSure on v = λ was. record { told = was.told; tied = tied was.tied; lawful = lawful_same u v names coord topics was.lawful } in
        record {
          names = goes.names ∙ names;
          whole = ⊎_elim
              (λ stays. inl (λ whole. stays (record {
                coord = subst (λ (c : CoordView). IsTrue c.whole) (sym coord) whole.coord;
                topics = subst (λ (ts : List TopicView). All (λ t. IsTrue t.whole) ts) (sym topics) whole.topics;
              })))
              (λ x. inr x) goes.whole;
          tied = λ told was. goes.tied told (tied was);
          lawful = λ was. goes.lawful (sure was);
          backed = goes.backed;
          images = weaker on (KeepsAboveIf (IsSure on v) v.names) (KeepsAboveIf (IsSure on u) u.names) old new
              (λ d c at keeps was. subst (λ (ns : List (List ℕ)). KeepsAbove ns d c) names (keeps (sure was))) goes.images;
          grows = goes.grows;
          worlds = subst (λ (ns : List (List ℕ)). After on (GrowsWorld ns) old new) names goes.worlds;
          elsewhere = subst (λ (ns : List (List ℕ)). After on (OnlyLedgers (length ns)) old new) names goes.elsewhere;
          others = subst (λ (ns : List (List ℕ)). OnlyLedgers (length ns) (on.seen old) (on.seen new)) names goes.others;
          cause = subst (λ (ns : List (List ℕ)). FaultsWithin on (length ns) old new X) names goes.cause;
        }

    -- by a word that means the same
    pub goes_like : (X Y : Type 0) (v v' : EngineView) (old new : D) → (X → Y) → (Y → X) → EngineGoesOn on X v v' old new → EngineGoesOn on Y v v' old new
    goes_like X Y v v' old new to from goes = record {
      names = goes.names;
      whole = ⊎_elim (λ yes. inl yes) (λ x. inr (to x)) goes.whole;
      tied = goes.tied;
      lawful = goes.lawful;
      backed = goes.backed;
      images = goes.images;
      grows = goes.grows;
      worlds = goes.worlds;
      elsewhere = goes.elsewhere;
      others = goes.others;
      cause = record { later = goes.cause.later; parts_later = goes.cause.parts_later; failed = λ y. goes.cause.failed (from y); others = goes.cause.others };
    }

    -- what was sure stays so
    sure_then : {X : Type 0} {u v : EngineView} {old mid : D} → EngineGoesOn on X u v old mid → IsSure on u → IsSure on v
    sure_then one was = record { told = was.told; tied = one.tied was.told was.tied; lawful = one.lawful was }

    -- one call after another, the first of which met no fault
    pub goes_then : (X Y : Type 0) (u v w : EngineView) (old mid new : D) → (X → ⊥) → EngineGoesOn on X u v old mid → EngineGoesOn on Y v w mid new → EngineGoesOn on Y u w old new
    goes_then X Y u v w old mid new quiet one two = record {
      names = two.names ∙ one.names;
      whole = ⊎_elim (λ stays. inl (λ whole. stays (⊎_elim (λ first. first whole) (λ x. absurd (quiet x)) one.whole))) (λ y. inr y) two.whole;
      tied = λ told was. two.tied told (one.tied told was);
      lawful = λ was. two.lawful (sure_then one was);
      backed = two.backed;
      images = goes_on on (KeepsAboveIf (IsSure on u) u.names) (KeepsAboveIf (IsSure on v) v.names) (KeepsAboveIf (IsSure on u) u.names)
          old mid new one.images two.images
          (λ d c at keeps. keeps)
          (λ d e c at keeps mid_at more was floor above.
          subst (λ (ns : List (List ℕ)). StandsAbove ns floor c) one.names
          (more (sure_then one was) floor (subst (λ (ns : List (List ℕ)). StandsAbove ns floor e) (sym one.names) (keeps was floor above))));
      grows = files_then on old mid new one.grows two.grows;
      worlds = worlds_then on u.names old mid new one.worlds (subst (λ (ns : List (List ℕ)). After on (GrowsWorld ns) mid new) one.names two.worlds);
      elsewhere = images_then on (length u.names) old mid new one.elsewhere
          (subst (λ (ns : List (List ℕ)). After on (OnlyLedgers (length ns)) mid new) one.names two.elsewhere);
      others = only_then (length u.names) (on.seen old) (on.seen mid) (on.seen new) one.others (subst (λ (ns : List (List ℕ)). OnlyLedgers (length ns) (on.seen mid) (on.seen new)) one.names two.others);
      cause = counts_then (length u.names) (on.faults old) (on.faults mid) (on.faults new) (on.part_faults old) (on.part_faults mid) (on.part_faults new) X Y one.cause
          (subst (λ (ns : List (List ℕ)). FaultsWithin on (length ns) mid new Y) one.names two.cause);
    }

    module _ (v : EngineView) (is : IsEngine v) (old new : D) (backed : IsBacked (on.image old) v) where
      -- an entry of the coordinator, which is whole
      pub coord_goes : (X Y : Type 0) (e : CoordEntry) (v' : EngineView) → IsTrue v.coord.whole → IsCoordEntry e → (IsTied v → Lawful (world_of v) → IsAllowed (in_coord e) (world_of v)) → v'.names ≡ v.names → v'.topics ≡ v.topics → IsTrue v'.coord.whole ⊎ X
          → (table_of v' ≡ with_batch (in_coord e) (table_of v)) ⊎ (table_of v' ≡ with_failed_batch (in_coord e) 0 (table_of v))
          → (coordinator.IsFrontOf v.coord → coordinator.IsFrontOf v'.coord) → Stored (on.image new) v'.coord.content → After on (Appends IsFile StandsIn v.coord.content (coord_batch e)) old new → Elsewhere v.coord.content.key (on.seen old) (on.seen new)
          → FaultsIn on v.coord.content.key.part old new Y → (X → Y) → EngineGoesOn on X v v' old new
      coord_goes X Y e v' one_whole fits allowed names topics now table tied coord_here since others cause means =
          let rests : v.coord.content.standing ≡ settled = is.coord.settled_is one_whole in
          record {
            names = names;
            whole = ⊎_elim (λ yes. inl (λ whole. record { coord = yes; topics = subst (λ (ts : List TopicView). All (λ t. IsTrue t.whole) ts) (sym topics) whole.topics })) (λ x. inr x) now;
            tied = λ told was. record { coord = tied was.coord; topics = subst (All topic.IsFrontOf) (sym topics) was.topics };
            lawful = λ was. moved_lawful (in_coord e) 0 (table_of v) (table_of v') refl tt (ap not one_whole) was.lawful (allowed was.tied was.lawful.lawful) table;
            backed = record {
              coord = coord_here;
              topics = subst (λ (ts : List TopicView). All (λ t. Stored (on.image new) t.content) ts) (sym topics)
                  (other_topics (Stored (on.image old)) (Stored (on.image new)) 0 (still_backed 0 v.coord.content (coord_batch e) is.coord.key old new since) v.limits 1 v.topics (omega arith) is.topics backed.topics);
            };
            images = weaker on (Appends IsFile StandsIn v.coord.content (coord_batch e)) (KeepsAboveIf (IsSure on v) v.names) old new
                (λ d c at step was. coord_above v is (on.image old) backed e fits rests d c at step (failed_coord v is e) (allowed was.tied was.lawful.lawful) was.lawful) since;
            grows = weaker on (Appends IsFile StandsIn v.coord.content (coord_batch e)) Grows old new
                (λ d c at step. appended_grows v.coord.content (coord_batch e) d c (settled_stands StandsIn ExactlyIn (on.image old) v.coord.content rests backed.coord d at) step) since;
            worlds = weaker on (Appends IsFile StandsIn v.coord.content (coord_batch e)) (GrowsWorld v.names) old new
                (λ d c at step. coord_worlds v is (on.image old) backed e fits rests d c at step) since;
            elsewhere = images_append on (length v.names) 0 v.coord.content (coord_batch e) old new is.coord.key (omega arith) since;
            others = only_one (length v.names) 0 v.coord.content.key (on.seen old) (on.seen new) is.coord.key (omega arith) others;
            cause = counts_of (length v.names) v.coord.content.key.part (on.faults old) (on.faults new) (on.part_faults old) (on.part_faults new) Y X
                (subst (λ (f : FileId). f.part ≤ length v.names) (sym is.coord.key) (omega arith)) means cause;
          }

      -- entries of the topic at an index, which is whole
      module _ (j : ℕ) (below : j < length v.topics) where
        abbrev at : TopicView
        at = get_or v.topics j (some_topic v)

        pub topic_goes : (X Y : Type 0) (es : List TopicEntry) (t : TopicView) (v' : EngineView) → IsTrue at.whole → RecordsOf IsBareRecord (records (topic_batch es ∷ [])) es → (IsTied v → Lawful (world_of v) → IsAllowed (in_topic (1 + j) es) (world_of v))
            → v'.names ≡ v.names → v'.coord ≡ v.coord → v'.topics ≡ replaced v.topics j t → IsTrue t.whole ⊎ X
            → (table_of v' ≡ with_batch (in_topic (1 + j) es) (table_of v)) ⊎ (table_of v' ≡ with_failed_batch (in_topic (1 + j) es) (1 + j) (table_of v))
            → (topic.IsFrontOf at → topic.IsFrontOf t) → Stored (on.image new) t.content → After on (Appends IsFile StandsIn at.content (topic_batch es)) old new → Elsewhere at.content.key (on.seen old) (on.seen new)
            → FaultsIn on at.content.key.part old new Y → (X → Y) → EngineGoesOn on X v v' old new
        topic_goes X Y es t v' one_whole each allowed names coord topics now table tied here since others cause means =
            let one : IsTopic v.limits (1 + j) at = topic_at v.limits 1 v.topics j (some_topic v) (1 + j) refl below is.topics in
            let rests : at.content.standing ≡ settled = one.settled_is one_whole in
            let still = still_backed (1 + j) at.content (topic_batch es) one.key old new since in
            record {
              names = names;
              whole = ⊎_elim (λ yes. inl (λ whole. record {
                coord = subst (λ (c : CoordView). IsTrue c.whole) (sym coord) whole.coord;
                topics = subst (λ (ts : List TopicView). All (λ t. IsTrue t.whole) ts) (sym topics) (all_replaced (λ t. IsTrue t.whole) v.topics j t yes whole.topics);
              })) (λ x. inr x) now;
              tied = λ told was. record {
                coord = subst coordinator.IsFrontOf (sym coord) was.coord;
                topics = subst (All topic.IsFrontOf) (sym topics) (all_replaced topic.IsFrontOf v.topics j t (tied (at_index topic.IsFrontOf v.topics j (some_topic v) below was.topics)) was.topics);
              };
              lawful = λ was.
                  moved_lawful (in_topic (1 + j) es) (1 + j) (table_of v) (table_of v') refl (topic_part v is j below) (topic_rebuilt v j (some_topic v) below one_whole (coord_entries v.coord.content.batches) (coord_flight v.coord.content.standing) (not v.coord.whole) (1 + j) refl) was.lawful (allowed was.tied was.lawful.lawful) table;
              backed = record {
                coord = subst (λ (c : CoordView). Stored (on.image new) c.content) (sym coord)
                    (other_coord (Stored (on.image old)) (Stored (on.image new)) (1 + j) still (omega arith) v.coord.content is.coord.key backed.coord);
                topics = subst (λ (ts : List TopicView). All (λ t. Stored (on.image new) t.content) ts) (sym topics)
                    (other_topics_but (Stored (on.image old)) (Stored (on.image new)) (1 + j) still v.limits 1 j v.topics t refl here is.topics backed.topics);
              };
              images = weaker on (Appends IsFile StandsIn at.content (topic_batch es)) (KeepsAboveIf (IsSure on v) v.names) old new
                  (λ d c from step was. topic_above v is (on.image old) backed j below es each rests d c from step (failed_at v is j below es) (allowed was.tied was.lawful.lawful) was.lawful) since;
              grows = weaker on (Appends IsFile StandsIn at.content (topic_batch es)) Grows old new
                  (λ d c from step. appended_grows at.content (topic_batch es) d c
                  (settled_stands StandsIn ExactlyIn (on.image old) at.content rests (at_index (λ t. Stored (on.image old) t.content) v.topics j (some_topic v) below backed.topics) d from) step) since;
              worlds = weaker on (Appends IsFile StandsIn at.content (topic_batch es)) (GrowsWorld v.names) old new
                  (λ d c from step. topic_worlds v is (on.image old) backed j below es each rests d c from step) since;
              elsewhere = images_append on (length v.names) (1 + j) at.content (topic_batch es) old new one.key (omega (arith, below, is.count)) since;
              others = only_one (length v.names) (1 + j) at.content.key (on.seen old) (on.seen new) one.key (omega (arith, below, is.count)) others;
              cause = counts_of (length v.names) at.content.key.part (on.faults old) (on.faults new) (on.part_faults old) (on.part_faults new) Y X
                  (subst (λ (f : FileId). f.part ≤ length v.names) (sym one.key) (omega (arith, below, is.count))) means cause;
            }
