-- How an engine goes on where one of its topics gets a marker.
use Rattle.std.proofs.Common.{◌≡◌, ◌⊎◌, inl, inr, ℕ, zero, suc, ◌+◌, ◌<◌, true, List, [], ◌∷◌, ◌++◌, length, Option, Some, None, is_some, is_none, Result, Ok, Err, IsOk, IsErr, OnOk, OnErr, IsTrue, refl, sym, ap, ◌∙◌, subst, arith}
use Rattle.std.proofs.Math.ListN.{get_or, set}
use Rattle.txn_base.specs.declared.disk.Disk.{Ghosts}
use Rattle.txn_base.specs.Moves.{After, FaultsIn}
use Rattle.txn_base.specs.declared.failed.Failed.{Failed}
use Rattle.txn_base.specs.declared.file_id.FileId.{FileId}
use Rattle.txn_base.specs.declared.entry.TopicEntry.{TopicEntry}
use Rattle.txn_base.specs.declared.txn.TxnId.{TxnId}
use Rattle.txn_base.specs.declared.txn.Decision.{Decision}
use Rattle.txn_base.specs.Content.{settled, Appends}
use Rattle.txn_base.specs.Disk.{Elsewhere, CountsFaults}
use Rattle.txn_base.specs.Outside.{Rose}
use Rattle.txn_base.specs.Records.{IsTxnId}
use Rattle.txn_buffer.specs.View as topic
use Rattle.txn_buffer.specs.View.{TopicView, topic_batch, with_entries}
use Rattle.txn_ledger.specs.Ledger.{IsFile, StandsIn, Stored}
use Rattle.txn_model.specs.Coord.{decision_of}
use Rattle.txn_model.specs.Skeletons.{coord_skeletons, topic_skeletons}
use Rattle.txn_model.specs.Table.{TableState, in_topic, marker_batch, marked, with_batch, with_failed_batch}
use Rattle.txn_model.specs.Topic.{marker_of}
use Rattle.txn_model.specs.World.{part_skeletons}
use Rattle.txn_records.specs.Topics.{marker_entry}
use Rattle.txn_engine.specs.Ending.{IsMarked}
use Rattle.txn_engine.specs.Kept.{IsTopic, IsEngine}
use Rattle.txn_engine.specs.Table.{table_of}
use Rattle.txn_engine.specs.Told.{RoseFor, EngineGoesOn}
use Rattle.txn_engine.specs.View.{EngineView, IsTied, IsBacked, IsWholeAt, with_topics, replaced}
use Rattle.txn_engine.proofs.Decided.{on_ok, by_result}
use Rattle.txn_engine.proofs.Going.{goes_still, topic_goes, topic_grown, topic_failed}
use Rattle.txn_engine.proofs.Lists.{never_below, set_is, all_replaced, at_index}
use Rattle.txn_buffer.proofs.Laws.{marker_records}
use Rattle.txn_engine.proofs.Marks.{skeletons_at, stood_table, marked_table, marker_failed, marker_allowed}
use Rattle.txn_engine.proofs.Published.{put_back}
use Rattle.txn_engine.proofs.Reading.{at_place, is_topic_at, whole_at}
use Rattle.txn_engine.proofs.Topics.{added_topic, failed_topic, engine_topics}
use Rattle.txn_engine.proofs.Worlds.{IsTopicAt, some_topic}

-- ---- Another topic at an index.

pub at_replaced : (ts : List TopicView) (j : ℕ) (t d : TopicView) → j < length ts → get_or (replaced ts j t) j d ≡ t
at_replaced [] j t d h = absurd (never_below j h)
at_replaced (u ∷ us) zero t d h = refl
at_replaced (u ∷ us) (suc j) t d h = at_replaced us j t d (omega (arith, h))

ok_no_err : (r : Result (Unit {0}) Failed) → IsOk r → IsErr r → ⊥
ok_no_err (Ok a) ok err = cc
ok_no_err (Err e) ok err = cc

pub is_ok_of : (r : Result (Unit {0}) Failed) (a : Unit {0}) → r ≡ Ok a → IsOk r
is_ok_of (Ok b) a e = refl
is_ok_of (Err y) a e = cc

pub is_err_of : (r : Result (Unit {0}) Failed) (e : Failed) → r ≡ Err e → IsErr r
is_err_of (Ok b) y e = cc
is_err_of (Err z) y e = refl

pub on_err : (r : Result (Unit {0}) Failed) (P : Type 0) → (IsErr r → P) → OnErr r P
on_err (Ok a) P h = tt
on_err (Err e) P h = h refl

pub from_ok_err : (r : Result (Unit {0}) Failed) (P : Type 0) → IsErr r → OnErr r P → P
from_ok_err (Ok a) P is h = cc
from_ok_err (Err e) P is h = h

from_ok_is : {P : Type 0} (r : Result (Unit {0}) Failed) → IsOk r → OnOk r P → P
from_ok_is (Ok a) is h = h
from_ok_is (Err e) is h = cc

-- ---- The topic at an index.

pub length_at : (v w : EngineView) (j : ℕ) → v ≡ w → j < length w.topics → j < length v.topics
length_at v w j e h = subst (λ (z : EngineView). j < length z.topics) (sym e) h

pub at_view : (v w : EngineView) → v ≡ w → (j : ℕ) (t : TopicView) → j < length v.topics → t ≡ get_or v.topics j t → IsTopicAt v j t
at_view v w e j t below same = at_place v j t below same

pub settled_at : (v : EngineView) → IsEngine v → (j : ℕ) → IsWholeAt v j → j < length v.topics → (t : TopicView) → IsTopicAt v j t → t.content.standing ≡ settled
settled_at v is j whole below t at = (is_topic_at v is j t below at).settled_is (whole_at v j t at whole)

pub whole_here : (v : EngineView) → IsEngine v → (w : EngineView) → v ≡ w → (j : ℕ) → j < length w.topics → (t : TopicView) → t ≡ get_or v.topics j t → IsWholeAt w j → IsTrue t.whole
whole_here v is w view j below t at whole = whole_at v j t (at_view v w view j t (length_at v w j view below) at) (subst (λ (z : EngineView). IsWholeAt z j) (sym view) whole)

-- ---- A topic that gets a marker.

module _ (v : EngineView) (is : IsEngine v) (w : EngineView) (view : v ≡ w) (logged' : IsTrue w.coord.whole) (j : ℕ) (whole' : IsWholeAt w j) (below : j < length v.topics) (x : TxnId) (d : Decision) (fits : IsTxnId x) (decided' : decision_of (coord_skeletons w.coord.front) x ≡ Some d)
    (t t' : TopicView) (at : IsTopicAt v j t) (r : Result (Unit {0}) Failed) where
  logged : IsTrue v.coord.whole
  logged = subst (λ (z : EngineView). IsTrue z.coord.whole) (sym view) logged'

  whole : IsWholeAt v j
  whole = subst (λ (z : EngineView). IsWholeAt z j) (sym view) whole'

  decided : decision_of (coord_skeletons v.coord.front) x ≡ Some d
  decided = subst (λ (z : EngineView). decision_of (coord_skeletons z.coord.front) x ≡ Some d) (sym view) decided'

  abbrev es : List TopicEntry
  es = marker_entry x d ∷ []

  abbrev u : EngineView
  u = with_topics v (replaced v.topics j t')

  one : IsTopic v.limits (1 + j) t
  one = is_topic_at v is j t below at

  whole_one : IsTrue t.whole
  whole_one = whole_at v j t at whole

  at_marker : (o : Option Decision) → marker_of (topic_skeletons t.front) x ≡ o → marker_of (topic_skeletons (get_or v.topics j (some_topic v)).front) x ≡ o
  at_marker o e = ap (λ (k : TopicView). marker_of (topic_skeletons k.front) x) at ∙ e

  -- the three ways
  pub data Way (same : Type 0) : Type 0 where
    stands : is_some (marker_of (topic_skeletons t.front) x) ≡ true → IsOk r → t' ≡ t → same → Way same
    follows : marker_of (topic_skeletons t.front) x ≡ None → IsOk r → t' ≡ with_entries t es 0 → Way same
    fails : marker_of (topic_skeletons t.front) x ≡ None → IsErr r → t' ≡ topic.with_failed_entries t es → Way same

  pub way_of : (same : Type 0) → (is_some (marker_of (topic_skeletons t.front) x) ≡ true → IsOk r × (t' ≡ t) × same) → OnOk r (marker_of (topic_skeletons t.front) x ≡ None → t' ≡ with_entries t es 0)
      → OnErr r ((marker_of (topic_skeletons t.front) x ≡ None) × (t' ≡ topic.with_failed_entries t es)) → Way same
  way_of same stood ok err = by_marker (marker_of (topic_skeletons t.front) x) refl
    where
      by_marker : (o : Option Decision) → marker_of (topic_skeletons t.front) x ≡ o → Way same
      by_marker (Some k) e = let s = stood (ap is_some e) in stands (ap is_some e) s.0 s.1 s.2
      by_marker None e =
          by_result r (Way same) (λ a is_ok. follows e (is_ok_of r a is_ok) (subst (λ (q : Result (Unit {0}) Failed). OnOk q (marker_of (topic_skeletons t.front) x ≡ None → t' ≡ with_entries t es 0)) is_ok ok e))
          (λ y is_err. fails e (is_err_of r y is_err) (from_ok_err r ((marker_of (topic_skeletons t.front) x ≡ None) × (t' ≡ topic.with_failed_entries t es)) (is_err_of r y is_err) err).1)

  module _ (same : Type 0) (way : Way same) where
    topic_by : Way same → IsTopic v.limits (1 + j) t'
    topic_by (stands m ok e s) = subst (IsTopic v.limits (1 + j)) (sym e) one
    topic_by (follows m ok e) = subst (IsTopic v.limits (1 + j)) (sym e) (added_topic v.limits (1 + j) t es 0 one whole_one)
    topic_by (fails m err e) = subst (IsTopic v.limits (1 + j)) (sym e) (failed_topic v.limits (1 + j) t es one)

    engine_is : IsEngine u
    engine_is = engine_topics v is j t' (topic_by way)

    whole_by : Way same → IsTrue t'.whole ⊎ IsErr r
    whole_by (stands m ok e s) = inl (subst (λ (k : TopicView). IsTrue k.whole) (sym e) whole_one)
    whole_by (follows m ok e) = inl (subst (λ (k : TopicView). IsTrue k.whole) (sym e) whole_one)
    whole_by (fails m err e) = inr err

    -- the table that it leaves
    grown_table : t' ≡ with_entries t es 0 → table_of u ≡ with_batch (in_topic (1 + j) es) (table_of v)
    grown_table e = topic_grown v is j below es (marker_records x d fits) t at whole_one t' 0 e

    failed_table : t' ≡ topic.with_failed_entries t es → table_of u ≡ with_failed_batch (in_topic (1 + j) es) (1 + j) (table_of v)
    failed_table e = topic_failed v is j below es (marker_records x d fits) t at t' e

    module _ (tied : IsTied v) where
      ok_by : Way same → IsOk r → table_of u ≡ marked x d (1 + j) (table_of v)
      ok_by (stands m ok e s) is_ok = ap table_of (put_back v j t t' at e) ∙ stood_table v is j below tied whole x d (ap is_some (at_marker (marker_of (topic_skeletons t.front) x) refl) ∙ m)
      ok_by (follows m ok e) is_ok = marked_table v is j below tied whole x d (at_marker None m) (table_of u) (grown_table e)
      ok_by (fails m err e) is_ok = absurd (ok_no_err r is_ok err)

      pub ok_marked : OnOk r (table_of u ≡ marked x d (1 + j) (table_of v))
      ok_marked = on_ok r (table_of u ≡ marked x d (1 + j) (table_of v)) (λ a e. ok_by way (is_ok_of r a e))

      err_by : Way same → IsErr r → (is_none (marker_of (part_skeletons (table_of v).world (1 + j)) x) ≡ true) × (table_of u ≡ with_failed_batch (marker_batch (table_of v) x d (1 + j)) (1 + j) (table_of v))
      err_by (stands m ok e s) err = absurd (ok_no_err r ok err)
      err_by (follows m ok e) err = absurd (ok_no_err r ok err)
      err_by (fails m err' e) err = (
        ap (λ k. is_none (marker_of k x)) (skeletons_at v is j below tied whole) ∙ ap is_none (at_marker None m),
        marker_failed v is j below tied whole x d (at_marker None m) (table_of u) (failed_table e),
      )

      pub err_failed : OnErr r ((is_none (marker_of (part_skeletons (table_of v).world (1 + j)) x) ≡ true) × (table_of u ≡ with_failed_batch (marker_batch (table_of v) x d (1 + j)) (1 + j) (table_of v)))
      err_failed = on_err r ((is_none (marker_of (part_skeletons (table_of v).world (1 + j)) x) ≡ true) × (table_of u ≡ with_failed_batch (marker_batch (table_of v) x d (1 + j)) (1 + j) (table_of v))) (err_by way)

    -- ---- How it goes on.

    module _ {D : Type 0} (on : Ghosts D) (old new : D) (backed : IsBacked (on.image old) v) (still : same → new ≡ old)
        (tie : topic.IsFrontOf t → topic.IsFrontOf t') (here : Stored (on.image new) t'.content) (since : After on (Appends IsFile StandsIn t.content (topic_batch es)) old new) (others : Elsewhere t.content.key (on.seen old) (on.seen new))
        (cause : FaultsIn on t.content.key.part old new (IsErr r)) where
      follows_goes : marker_of (topic_skeletons t.front) x ≡ None → (table_of u ≡ with_batch (in_topic (1 + j) es) (table_of v)) ⊎ (table_of u ≡ with_failed_batch (in_topic (1 + j) es) (1 + j) (table_of v)) → EngineGoesOn on (IsErr r) v u old new
      follows_goes m table =
          topic_goes on v is old new backed j below (IsErr r) (IsErr r) es t' u
          (subst (λ (k : TopicView). IsTrue k.whole) (sym at) whole_one) (marker_records x d fits) (λ tied. marker_allowed v is j below tied whole x d (at_marker None m) logged decided) refl refl refl (whole_by way) table
          (λ was. tie (subst topic.IsFrontOf at was)) here (subst (λ (k : TopicView). After on (Appends IsFile StandsIn k.content (topic_batch es)) old new) (sym at) since) (subst (λ (k : TopicView). Elsewhere k.content.key (on.seen old) (on.seen new)) (sym at) others)
          (subst (λ (k : TopicView). FaultsIn on k.content.key.part old new (IsErr r)) (sym at) cause) (λ h. h)

      goes_by : Way same → EngineGoesOn on (IsErr r) v u old new
      goes_by (stands m ok e s) =
          subst (λ (d : D). EngineGoesOn on (IsErr r) v u old d) (sym (still s))
          (goes_still on (IsErr r) (ok_no_err r ok) v u old backed refl refl (ap (λ (z : EngineView). z.topics) (put_back v j t t' at e)))
      goes_by (follows m ok e) = follows_goes m (inl (grown_table e))
      goes_by (fails m err e) = follows_goes m (inr (failed_table e))

      pub marked_goes : EngineGoesOn on (IsErr r) v u old new
      marked_goes = goes_by way

    -- ---- The clauses, over an equal view, and the topics after a write by index.

    abbrev u' : EngineView
    u' = with_topics v (set v.topics j t')

    put : u ≡ u'
    put = ap (λ (ts : List TopicView). with_topics v ts) (sym (set_is v.topics j t'))

    pub marked_clause : OnOk r (is_some (marker_of (topic_skeletons t'.front) x) ≡ true) → OnOk r (IsMarked x u' j)
    marked_clause there = on_ok r (IsMarked x u' j) (λ a e. subst (λ (z : EngineView). IsMarked x z j) put (marked_now (whole_by way) (is_ok_of r a e)))
      where
        here : (d : TopicView) → get_or (replaced v.topics j t') j d ≡ t'
        here d = at_replaced v.topics j t' d below

        marked_now : IsTrue t'.whole ⊎ IsErr r → IsOk r → IsMarked x u j
        marked_now (inl now) ok = record {
          whole = λ d. subst (λ (k : TopicView). IsTrue k.whole) (sym (here d)) now;
          stands = λ d. ap (λ (k : TopicView). is_some (marker_of (topic_skeletons k.front) x)) (here d) ∙ from_ok_is r ok there;
        }
        marked_now (inr err) ok = absurd (ok_no_err r ok err)

    pub engine_clause : IsEngine u'
    engine_clause = subst IsEngine put engine_is

    pub ok_clause : IsTied w → OnOk r (table_of u' ≡ marked x d (1 + j) (table_of w))
    ok_clause tied =
        subst (λ (z : EngineView). OnOk r (table_of u' ≡ marked x d (1 + j) (table_of z))) view
        (subst (λ (z : EngineView). OnOk r (table_of z ≡ marked x d (1 + j) (table_of v))) put (ok_marked (subst IsTied (sym view) tied)))

    pub err_clause : IsTied w → OnErr r ((is_none (marker_of (part_skeletons (table_of w).world (1 + j)) x) ≡ true) × (table_of u' ≡ with_failed_batch (marker_batch (table_of w) x d (1 + j)) (1 + j) (table_of w)))
    err_clause tied =
        subst (λ (z : EngineView). OnErr r ((is_none (marker_of (part_skeletons (table_of z).world (1 + j)) x) ≡ true) × (table_of u' ≡ with_failed_batch (marker_batch (table_of z) x d (1 + j)) (1 + j) (table_of z)))) view
        (subst (λ (z : EngineView). OnErr r ((is_none (marker_of (part_skeletons (table_of v).world (1 + j)) x) ≡ true) × (table_of z ≡ with_failed_batch (marker_batch (table_of v) x d (1 + j)) (1 + j) (table_of v)))) put (err_failed (subst IsTied (sym view) tied)))

    pub rose_clause : (f g : ℕ) (fs gs : ℕ → ℕ) → CountsFaults t.content.key.part f g fs gs (IsErr r) → OnErr r (RoseFor f g fs gs (1 + j))
    rose_clause f g fs gs cause = on_err r (RoseFor f g fs gs (1 + j)) (λ err. subst (λ (k : FileId). Rose f g × Rose (fs k.part) (gs k.part)) one.key (cause.failed err))

    pub goes_clause : {D : Type 0} (on : Ghosts D) (old new : D) → IsBacked (on.image old) w → (same → new ≡ old)
        → (topic.IsFrontOf t → topic.IsFrontOf t') → Stored (on.image new) t'.content → After on (Appends IsFile StandsIn t.content (topic_batch es)) old new → Elsewhere t.content.key (on.seen old) (on.seen new)
        → FaultsIn on t.content.key.part old new (IsErr r) → EngineGoesOn on (IsErr r) w u' old new
    goes_clause on old new backed still tie here since others cause =
        subst (λ (z : EngineView). EngineGoesOn on (IsErr r) z u' old new) view
        (subst (λ (z : EngineView). EngineGoesOn on (IsErr r) v z old new) put
        (marked_goes on old new (subst (IsBacked (on.image old)) (sym view) backed) still tie here since others cause))
