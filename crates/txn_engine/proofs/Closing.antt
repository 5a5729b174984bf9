-- How an engine goes on where a transaction is closed.
use Rattle.std.proofs.Common.{◌≡◌, ◌⊎◌, inl, inr, ℕ, ◌+◌, ◌-◌, ◌<◌, ◌≤◌, Bool, true, false, List, length, Option, Some, None, is_some, Result, Ok, Err, IsOk, IsErr, OnOk, OnErr, IsTrue, refl, sym, ap, ◌∙◌, subst, arith, unwrap_or}
use Rattle.std.proofs.Math.ListN.{get_or}
use Rattle.txn_base.specs.declared.disk.Disk.{Ghosts}
use Rattle.txn_base.specs.Moves.{After, FailsIn}
use Rattle.txn_base.specs.declared.core_entry.CoreEntry.{CoreEntry}
use Rattle.txn_base.specs.declared.entry.CoordEntry.{CoordEntry}
use Rattle.txn_base.specs.declared.failed.Failed.{Failed}
use Rattle.txn_base.specs.declared.file_id.FileId.{FileId}
use Rattle.txn_base.specs.declared.txn.TxnId.{TxnId}
use Rattle.txn_base.specs.declared.txn.Decision.{Decision}
use Rattle.txn_base.specs.declared.txn.Decision.TheVariants.{Commit, Abort}
use Rattle.txn_base.specs.declared.txn.Status.{Status}
use Rattle.txn_base.specs.Content.{Appends}
use Rattle.txn_base.specs.Disk.{Elsewhere, HasPartCause}
use Rattle.txn_base.specs.Outside.{Rose}
use Rattle.txn_base.specs.Records.{IsTxnId, IsCoordEntry}
use Rattle.txn_coordinator.specs.Calls.{closing_of_view}
use Rattle.txn_coordinator.specs.View as coordinator
use Rattle.txn_coordinator.specs.View.{CoordView, coord_batch, with_entry, with_failed_entry, reserving}
use Rattle.txn_ledger.specs.Ledger.{IsFile, StandsIn, Stored}
use Rattle.txn_model.specs.Allowed.{IsAllowed}
use Rattle.txn_model.specs.Coord.{CoordLawful, coord_allows, has_new, status_of, decision_of, closing_of, in_parts, closing_skeleton}
use Rattle.txn_model.specs.Deadlines.{is_undriven, is_closed}
use Rattle.txn_model.specs.Skeletons.{coord_skeleton, coord_skeletons, topic_skeletons}
use Rattle.txn_model.specs.Table.{in_coord, closing_entry, closing_batch, with_failed_batch, with_batch}
use Rattle.txn_model.specs.Topic.{marker_of}
use Rattle.txn_model.specs.World.{Lawful, log_of, part_skeletons}
use Rattle.txn_model.proofs.Laws.Grants.{close_allowed, closing_allowed, parts_are_named}
use Rattle.txn_model.proofs.Laws.Logs.{Agrees, last_by, status_by, lawful_agrees}
use Rattle.txn_engine.specs.Ending.{IsMarked, AreMarked}
use Rattle.txn_engine.specs.Kept.{IsCoordinator, IsEngine}
use Rattle.txn_engine.specs.Table.{table_of, world_of}
use Rattle.txn_engine.specs.Told.{RoseFor, EngineGoesOn}
use Rattle.txn_engine.specs.View.{EngineView, IsTied, IsBacked, with_coord}
use Rattle.txn_engine.proofs.Coordinators.{logged_is, failed_is, reserving_is, engine_with}
use Rattle.txn_engine.proofs.Decided.{on_ok, by_result, from_ok}
use Rattle.txn_engine.proofs.Going.{coord_goes}
use Rattle.txn_engine.proofs.Marked.{on_err, from_ok_err, is_ok_of, is_err_of}
use Rattle.txn_engine.proofs.Marks.{skeletons_at}
use Rattle.txn_engine.proofs.Logged.{logged_world, world_is}
use Rattle.txn_engine.proofs.Tables.{table_grown, table_failed}
use Rattle.txn_engine.proofs.Worlds.{some_topic}

-- ---- The status of a decided transaction.

module _ (n : ℕ) (c : List CoreEntry) (lawful : CoordLawful n c) (x : TxnId) where
  agree : Agrees c x
  agree = lawful_agrees n c x lawful

  status_is : status_of c x ≡ status_by (has_new c x) (last_by (closing_of c x) (decision_of c x))
  status_is = ap (status_by (has_new c x)) agree.said

  closed_by : (begun : Bool) (k d : Option Decision) → ((e : Decision) → k ≡ Some e → begun ≡ true) → is_closed (status_by begun (last_by k d)) ≡ is_some k
  closed_by true (Some Commit) d begun = refl
  closed_by true (Some Abort) d begun = refl
  closed_by true None None begun = refl
  closed_by true None (Some Commit) begun = refl
  closed_by true None (Some Abort) begun = refl
  closed_by false None d begun = refl
  closed_by false (Some e) d begun = absurd (never (begun e refl))
    where
      never : false ≡ true → ⊥
      never h = cc

  -- it says whether it is closed
  pub closed_is : is_closed (status_of c x) ≡ is_some (closing_of c x)
  closed_is = ap is_closed status_is ∙ closed_by (has_new c x) (closing_of c x) (decision_of c x) (λ e k. agree.when_decided e (agree.when_closed e k))

  module _ (d : Decision) (decided : decision_of c x ≡ Some d) where
    undriven_by : (d : Decision) → is_undriven (status_by true (last_by None (Some d))) ≡ true
    undriven_by Commit = refl
    undriven_by Abort = refl

    pub undriven : closing_of c x ≡ None → is_undriven (status_of c x) ≡ true
    undriven unclosed =
        ap is_undriven (status_is ∙ ap (λ (b : Bool). status_by b (last_by (closing_of c x) (decision_of c x))) (agree.when_decided d decided) ∙ ap (λ (k : Option Decision). status_by true (last_by k (decision_of c x))) unclosed ∙ ap (λ (k : Option Decision). status_by true (last_by None k)) decided)
        ∙ undriven_by d

    closed_so : (k : Option Decision) → closing_of c x ≡ k → is_some k ≡ true → closing_of c x ≡ Some d
    closed_so (Some e) is some = is ∙ sym (agree.when_closed e is) ∙ decided
    closed_so None is some = absurd (never some)
      where
        never : false ≡ true → ⊥
        never h = cc

    pub closing_is : is_some (closing_of c x) ≡ true → closing_of c x ≡ Some d
    closing_is some = closed_so (closing_of c x) refl some

pub closing_none : (k : Option Decision) → is_some k ≡ false → k ≡ None
closing_none None e = refl
closing_none (Some d) e = absurd (never e)
  where
    never : true ≡ false → ⊥
    never h = cc

pub decision_there : (o : Option Decision) → is_some o ≡ true → (d : Decision) × (o ≡ Some d)
decision_there (Some d) e = (d, refl)
decision_there None e = absurd (never e)
  where
    never : false ≡ true → ⊥
    never h = cc

-- ---- The entry.

pub closing_fits : (x : TxnId) (d : Decision) → IsTxnId x → IsCoordEntry (closing_entry x d)
closing_fits x Commit fits = fits
closing_fits x Abort fits = fits

skeleton_is : (x : TxnId) (d : Decision) → coord_skeleton (closing_entry x d) ≡ closing_skeleton x d
skeleton_is x Commit = refl
skeleton_is x Abort = refl

batch_is : (x : TxnId) (d : Decision) → closing_batch x d ≡ in_coord (closing_entry x d)
batch_is x d = refl

-- over an equal view
pub undriven_at : (v : EngineView) → IsEngine v → (w : EngineView) → v ≡ w → (x : TxnId) (d : Decision) → decision_of (coord_skeletons w.coord.front) x ≡ Some d → closing_of (coord_skeletons w.coord.front) x ≡ None → is_undriven (status_of (coord_skeletons v.coord.front) x) ≡ true
undriven_at v is w view x d decided unclosed =
    undriven (length v.names) (coord_skeletons v.coord.front) is.coord.lawful x d (subst (λ (z : EngineView). decision_of (coord_skeletons z.coord.front) x ≡ Some d) (sym view) decided)
    (subst (λ (z : EngineView). closing_of (coord_skeletons z.coord.front) x ≡ None) (sym view) unclosed)

pub closed_at : (v : EngineView) → IsEngine v → (w : EngineView) → v ≡ w → (x : TxnId) (s : Option Status) → s ≡ status_of (coord_skeletons v.coord.front) x → is_some (closing_of (coord_skeletons w.coord.front) x) ≡ is_closed s
closed_at v is w view x s e =
    ap (λ (z : EngineView). is_some (closing_of (coord_skeletons z.coord.front) x)) (sym view) ∙ sym (closed_is (length v.names) (coord_skeletons v.coord.front) is.coord.lawful x) ∙ ap is_closed (sym e)

-- ---- It is closed.

module _ (v : EngineView) (is : IsEngine v) (w : EngineView) (view : v ≡ w) (whole' : IsTrue w.coord.whole) (x : TxnId) (d : Decision) (fits : IsTxnId x) (decided' : decision_of (coord_skeletons w.coord.front) x ≡ Some d) (unclosed' : closing_of (coord_skeletons w.coord.front) x ≡ None)
    (c' : CoordView) (r : Result (Unit {0}) Failed) (ok' : OnOk r (c' ≡ reserving 0 (with_entry v.coord (closing_of_view v.coord x)))) (err' : OnErr r (c' ≡ with_failed_entry v.coord (closing_of_view v.coord x))) where
  whole : IsTrue v.coord.whole
  whole = subst (λ (z : EngineView). IsTrue z.coord.whole) (sym view) whole'

  decided : decision_of (coord_skeletons v.coord.front) x ≡ Some d
  decided = subst (λ (z : EngineView). decision_of (coord_skeletons z.coord.front) x ≡ Some d) (sym view) decided'

  unclosed : closing_of (coord_skeletons v.coord.front) x ≡ None
  unclosed = subst (λ (z : EngineView). closing_of (coord_skeletons z.coord.front) x ≡ None) (sym view) unclosed'

  pub entry_is : closing_of_view v.coord x ≡ closing_entry x d
  entry_is = ap (λ (k : Option Decision). closing_entry x (unwrap_or k Commit)) decided

  abbrev u : EngineView
  u = with_coord v c'

  ok_is : IsOk r → c' ≡ reserving 0 (with_entry v.coord (closing_entry x d))
  ok_is is_ok =
      by_result r (c' ≡ reserving 0 (with_entry v.coord (closing_entry x d))) (λ a e. from_ok r (c' ≡ reserving 0 (with_entry v.coord (closing_of_view v.coord x))) a e ok' ∙ ap (λ (e : CoordEntry). reserving 0 (with_entry v.coord e)) entry_is)
      (λ y e. absurd (both r y e is_ok))
    where
      both : (r : Result (Unit {0}) Failed) (y : Failed) → r ≡ Err y → IsOk r → ⊥
      both (Ok a) y e ok = cc
      both (Err z) y e ok = cc

  err_is : IsErr r → c' ≡ with_failed_entry v.coord (closing_entry x d)
  err_is is_err = from_ok_err r (c' ≡ with_failed_entry v.coord (closing_of_view v.coord x)) is_err err' ∙ ap (λ (e : CoordEntry). with_failed_entry v.coord e) entry_is

  allowed_entry : coord_allows (length v.names) (coord_skeletons v.coord.front) (coord_skeleton (closing_entry x d)) ≡ true
  allowed_entry = ap (coord_allows (length v.names) (coord_skeletons v.coord.front)) (skeleton_is x d) ∙ close_allowed (length v.names) (coord_skeletons v.coord.front) x d is.coord.lawful unclosed decided

  pub closed_engine : IsEngine u
  closed_engine = engine_with v is c' coord_here v.latest is.latest
    where
      coord_here : IsCoordinator v.limits (length v.names) c'
      coord_here =
          by_result r (IsCoordinator v.limits (length v.names) c')
          (λ a e. subst (IsCoordinator v.limits (length v.names)) (sym (ok_is (is_ok_of r a e))) (reserving_is v.limits (length v.names) 0 (with_entry v.coord (closing_entry x d)) (logged_is v.limits (length v.names) v.coord (closing_entry x d) is.coord whole allowed_entry)))
          (λ y e. subst (IsCoordinator v.limits (length v.names)) (sym (err_is (is_err_of r y e))) (failed_is v.limits (length v.names) v.coord (closing_entry x d) is.coord))

  whole_after : IsTrue c'.whole ⊎ IsErr r
  whole_after = by_result r (IsTrue c'.whole ⊎ IsErr r) (λ a e. inl (subst (λ (c : CoordView). IsTrue c.whole) (sym (ok_is (is_ok_of r a e))) whole)) (λ y e. inr (is_err_of r y e))

  table_after : (table_of u ≡ with_batch (in_coord (closing_entry x d)) (table_of v)) ⊎ (table_of u ≡ with_failed_batch (in_coord (closing_entry x d)) 0 (table_of v))
  table_after =
      by_result r ((table_of u ≡ with_batch (in_coord (closing_entry x d)) (table_of v)) ⊎ (table_of u ≡ with_failed_batch (in_coord (closing_entry x d)) 0 (table_of v)))
      (λ a e. inl (table_grown v is (closing_entry x d) (closing_fits x d fits) whole c' 0 (ok_is (is_ok_of r a e))))
      (λ y e. inr (table_failed v is (closing_entry x d) (closing_fits x d fits) whole c' (err_is (is_err_of r y e))))

  pub close_ok : OnOk r (table_of u ≡ with_batch (closing_batch x d) (table_of w))
  close_ok = on_ok r (table_of u ≡ with_batch (closing_batch x d) (table_of w)) (λ a e.
      table_grown v is (closing_entry x d) (closing_fits x d fits) whole c' 0 (ok_is (is_ok_of r a e)) ∙ ap (λ (z : EngineView). with_batch (closing_batch x d) (table_of z)) view)

  pub close_err : OnErr r (table_of u ≡ with_failed_batch (closing_batch x d) 0 (table_of w))
  close_err = on_err r (table_of u ≡ with_failed_batch (closing_batch x d) 0 (table_of w)) (λ e.
      table_failed v is (closing_entry x d) (closing_fits x d fits) whole c' (err_is e) ∙ ap (λ (z : EngineView). with_failed_batch (closing_batch x d) 0 (table_of z)) view)

  pub close_rose : (f g : ℕ) (fs gs : ℕ → ℕ) → HasPartCause v.coord.content.key.part f g fs gs r → OnErr r (RoseFor f g fs gs 0)
  close_rose f g fs gs cause = on_err r (RoseFor f g fs gs 0) (λ e. subst (λ (k : FileId). Rose f g × Rose (fs k.part) (gs k.part)) is.coord.key (from_ok_err r (Rose f g × Rose (fs v.coord.content.key.part) (gs v.coord.content.key.part)) e cause.failed))

  -- ---- Each part has its marker, and so the close is allowed over a lawful world.

  module _ (marked' : AreMarked x w (length w.topics)) where
    marked : AreMarked x v (length v.topics)
    marked = subst (λ (z : EngineView). AreMarked x z (length z.topics)) (sym view) marked'

    stands : IsTied v → Lawful (world_of v) → (p : ℕ) → in_parts (log_of (logged_world v)) x p ≡ true → marker_of (part_skeletons (world_of v) p) x ≡ Some d
    stands tied lawful p has =
        let lawful_here : Lawful (logged_world v) = subst Lawful (world_is v is whole tied) lawful in
        let range : (1 ≤ p) × (p ≤ length v.names) = parts_are_named (logged_world v) x p lawful_here has in
        let below : p - 1 < length v.topics = omega (arith, range.0, range.1, is.count) in
        let back : 1 + (p - 1) ≡ p = omega (arith, range.0) in
        let there : IsMarked x v (p - 1) = marked (p - 1) below below (subst (λ (q : ℕ). in_parts (coord_skeletons v.coord.front) x q ≡ true) (sym back) has) in
        let some : is_some (marker_of (part_skeletons (world_of v) p) x) ≡ true =
        subst (λ (q : ℕ). is_some (marker_of (part_skeletons (world_of v) q) x) ≡ true) back (ap (λ s. is_some (marker_of s x)) (skeletons_at v is (p - 1) below tied there.whole) ∙ there.stands (some_topic v)) in
        by_marker lawful_here p (marker_of (part_skeletons (world_of v) p) x) refl some
      where
        never : false ≡ true → ⊥
        never h = cc

        by_marker : Lawful (logged_world v) → (p : ℕ) (o : Option Decision) → marker_of (part_skeletons (world_of v) p) x ≡ o → is_some o ≡ true → marker_of (part_skeletons (world_of v) p) x ≡ Some d
        by_marker lawful_here p None e some = absurd (never some)
        by_marker lawful_here p (Some k) e some = e ∙ sym (lawful_here.decided p x k e) ∙ decided

    allowed : IsTied v → Lawful (world_of v) → IsAllowed (in_coord (closing_entry x d)) (world_of v)
    allowed tied lawful =
        let same : world_of v ≡ logged_world v = world_is v is whole tied in
        subst (IsAllowed (in_coord (closing_entry x d))) (sym same) (closing_allowed (logged_world v) x d (subst Lawful same lawful) unclosed decided (stands tied lawful))

    pub close_goes : {D : Type 0} (on : Ghosts D) (old new : D) → IsBacked (on.image old) w → (coordinator.IsFrontOf v.coord → coordinator.IsFrontOf c') → Stored (on.image new) c'.content
        → After on (Appends IsFile StandsIn v.coord.content (coord_batch (closing_of_view v.coord x))) old new → Elsewhere v.coord.content.key (on.seen old) (on.seen new) → FailsIn on v.coord.content.key.part old new r
        → EngineGoesOn on (IsErr r) w u old new
    close_goes on old new backed tie here since others cause =
        subst (λ (z : EngineView). EngineGoesOn on (IsErr r) z u old new) view
        (coord_goes on v is old new (subst (IsBacked (on.image old)) (sym view) backed) (IsErr r) (IsErr r) (closing_entry x d) u whole (closing_fits x d fits) allowed refl refl whole_after table_after tie here
        (subst (λ (e : CoordEntry). After on (Appends IsFile StandsIn v.coord.content (coord_batch e)) old new) entry_is since) others
        (record { later = cause.later; parts_later = cause.parts_later; failed = λ e. from_ok_err r (Rose (on.faults old) (on.faults new) × Rose (on.part_faults old v.coord.content.key.part) (on.part_faults new v.coord.content.key.part)) e cause.failed; others = cause.others }) (λ h. h))
