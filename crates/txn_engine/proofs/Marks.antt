-- The marker of a transaction in a topic, and the table then.
use Rattle.std.proofs.Common.{◌≡◌, inl, ℕ, ◌+◌, ◌-◌, ◌<◌, ◌==◌, Bool, true, false, if◌then◌else◌, List, [], ◌∷◌, length, Option, Some, None, is_some, IsTrue, refl, sym, ap, ◌∙◌, subst, arith}
use Rattle.std.proofs.Math.ListN.{get_or}
use Rattle.std.proofs.lemmas.Bool.Decides.{nat_tests}
use Rattle.txn_base.specs.declared.disk.Disk.{Ghosts}
use Rattle.txn_base.specs.Moves.{After}
use Rattle.txn_base.specs.Content.{LedgerContent, settled, Appends}
use Rattle.txn_base.specs.Frames.{Batch as FrameBatch}
use Rattle.txn_base.proofs.Laws.{started}
use Rattle.txn_ledger.specs.Ledger.{IsFile, StandsIn, Stored}
use Rattle.txn_base.specs.Names.{is_sub, is_topic_name}
use Rattle.txn_base.specs.declared.entry.CoordEntry.{CoordEntry}
use Rattle.txn_base.specs.declared.entry.TopicEntry.{TopicEntry}
use Rattle.txn_base.specs.declared.txn.TxnId.{TxnId}
use Rattle.txn_base.specs.declared.txn.Decision.{Decision}
use Rattle.txn_base.specs.declared.txn.Decision.TheVariants.{Commit, Abort}
use Rattle.txn_buffer.specs.View.{TopicView}
use Rattle.txn_model.specs.Allowed.{IsAllowed}
use Rattle.txn_model.specs.Coord.{decision_of}
use Rattle.txn_model.specs.Names.{name_of}
use Rattle.txn_model.specs.Skeletons.{coord_skeletons, topic_skeletons}
use Rattle.txn_model.specs.Table.{TableState, EntryBatch, nothing, in_topic, topic_marker, marker_batch, given_after, marked, with_failed_batch, with_batch}
use Rattle.txn_model.specs.Topic.{marker_of}
use Rattle.txn_model.specs.Words.{nowhere}
use Rattle.txn_model.specs.World.{Lawful, log_of, part_skeletons}
use Rattle.txn_model.proofs.Laws.Grants.{topic_part, marker_granted}
use Rattle.txn_records.specs.Topics.{marker_entry}
use Rattle.txn_engine.specs.Kept.{IsEngine}
use Rattle.txn_engine.specs.Table.{table_of, world_of}
use Rattle.txn_engine.specs.View.{EngineView, IsTied, IsWholeAt}
use Rattle.txn_engine.proofs.Logged.{log_is, topic_list}
use Rattle.txn_engine.proofs.Tables.{given_same}
use Rattle.txn_engine.proofs.TopicNames.{not_sub}
use Rattle.txn_engine.proofs.Worlds.{some_topic, name_at_index, stands_settled}

-- ---- The entry.

pub entry_is : (x : TxnId) (d : Decision) → marker_entry x d ≡ topic_marker x d
entry_is x Commit = refl
entry_is x Abort = refl

-- ---- A ledger to which nothing is added.

module _ {D : Type 0} (on : Ghosts D) where
  pub appends_nothing : (content : LedgerContent) (batch : FrameBatch) (disk : D) → content.standing ≡ settled → Stored (on.image disk) content → After on (Appends IsFile StandsIn content batch) disk disk
  appends_nothing content batch disk is backed =
      started on disk (Appends IsFile StandsIn content batch)
      (λ c at. record { here = inl (stands_settled (StandsIn content.key c) content.batches content.standing is (backed.each c at)); others = λ other not. refl })

-- ---- The topic at an index.

module _ (v : EngineView) (is : IsEngine v) (j : ℕ) (below : j < length v.topics) where
  abbrev pub at : TopicView
  at = get_or v.topics j (some_topic v)

  name_is : (b : Bool) → ((1 + j) == 0) ≡ b → name_of v.names (1 + j) ≡ get_or v.names j []
  name_is true e = absurd (never j e)
    where
      never : (j : ℕ) → ((1 + j) == 0) ≡ true → ⊥
      never j e = grind (arith, nat_tests, e)
  name_is false e = rw e (ap (λ (i : ℕ). get_or v.names i []) (back j))
    where
      back : (j : ℕ) → (1 + j) - 1 ≡ j
      back j = omega arith

  pub name_here : name_of v.names (1 + j) ≡ get_or v.names j []
  name_here = name_is ((1 + j) == 0) refl

  pub name_form : is_topic_name (name_of v.names (1 + j)) ≡ true
  name_form = ap is_topic_name (name_is ((1 + j) == 0) refl) ∙ name_at_index v.names j (omega (arith, below, is.count)) is.topic_names

  no_sub : is_sub (name_of v.names (1 + j)) ≡ false
  no_sub = not_sub (name_of v.names (1 + j)) name_form

  -- where it is rebuilt
  module _ (tied : IsTied v) (whole : IsWholeAt v j) where
    pub skeletons_at : part_skeletons (world_of v) (1 + j) ≡ topic_skeletons at.front
    skeletons_at = topic_part (world_of v) (1 + j) no_sub ∙ ap topic_skeletons (topic_list v is tied j (some_topic v) below (whole (some_topic v)))

    module _ (x : TxnId) (d : Decision) where
      batch_by : (o : Option Decision) → marker_of (topic_skeletons at.front) x ≡ o → marker_batch (table_of v) x d (1 + j) ≡ (if is_some o then nothing else in_topic (1 + j) (topic_marker x d ∷ []))
      batch_by o e = rw (skeletons_at, e, no_sub) refl

      pub batch_is : marker_of (topic_skeletons at.front) x ≡ None → marker_batch (table_of v) x d (1 + j) ≡ in_topic (1 + j) (marker_entry x d ∷ [])
      batch_is none = batch_by None none ∙ ap (λ (e : TopicEntry). in_topic (1 + j) (e ∷ [])) (sym (entry_is x d))

      no_batch : (o : Option Decision) → marker_of (topic_skeletons at.front) x ≡ o → is_some o ≡ true → marker_batch (table_of v) x d (1 + j) ≡ nothing
      no_batch None e some = absurd (never some)
        where
          never : false ≡ true → ⊥
          never e = cc
      no_batch (Some k) e some = batch_by (Some k) e

      given_is : (d : Decision) → given_after (table_of v) x d (1 + j) ≡ (λ (s : ℕ). nowhere)
      given_is Commit = refl
      given_is Abort = given_same (1 + j)

      marked_by : (b : EntryBatch) → marker_batch (table_of v) x d (1 + j) ≡ b → with_batch b (table_of v) ≡ marked x d (1 + j) (table_of v)
      marked_by b e = λ i. record (with_batch (sym e i) (table_of v)) { given = sym (given_is d) i }

      -- it stands there already
      pub stood_table : is_some (marker_of (topic_skeletons at.front) x) ≡ true → table_of v ≡ marked x d (1 + j) (table_of v)
      stood_table some = marked_by nothing (no_batch (marker_of (topic_skeletons at.front) x) refl some)

      module _ (none : marker_of (topic_skeletons at.front) x ≡ None) where
        -- it follows
        pub marked_table : (t' : TableState) → t' ≡ with_batch (in_topic (1 + j) (marker_entry x d ∷ [])) (table_of v) → t' ≡ marked x d (1 + j) (table_of v)
        marked_table t' grown = grown ∙ marked_by (in_topic (1 + j) (marker_entry x d ∷ [])) (batch_is none)

        -- its append failed
        pub marker_failed : (t' : TableState) → t' ≡ with_failed_batch (in_topic (1 + j) (marker_entry x d ∷ [])) (1 + j) (table_of v) → t' ≡ with_failed_batch (marker_batch (table_of v) x d (1 + j)) (1 + j) (table_of v)
        marker_failed t' failed = failed ∙ ap (λ (b : EntryBatch). with_failed_batch b (1 + j) (table_of v)) (sym (batch_is none))

        -- it is allowed over a lawful world
        pub marker_allowed : IsTrue v.coord.whole → decision_of (coord_skeletons v.coord.front) x ≡ Some d → Lawful (world_of v) → IsAllowed (in_topic (1 + j) (marker_entry x d ∷ [])) (world_of v)
        marker_allowed logged decided lawful =
            let said : decision_of (log_of (world_of v)) x ≡ Some d = ap (λ (es : List CoordEntry). decision_of (coord_skeletons es) x) (log_is v is logged tied) ∙ decided in
            subst (λ (b : EntryBatch). IsAllowed b (world_of v)) (batch_is none) (marker_granted (table_of v) x d (1 + j) lawful (omega arith) (omega (arith, below, is.count)) said).allowed
