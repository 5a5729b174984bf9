-- What an engine tells of an end, and how it goes on through one.
use Rattle.std.proofs.Common.{◌≡◌, inl, inr, ℕ, ◌==◌, true, false, List, [], ◌∷◌, Some, Result, Err, refl, sym, ap, ◌∙◌, subst}
use Rattle.txn_base.specs.declared.disk.Disk.{Ghosts}
use Rattle.txn_base.specs.declared.limits.Limits.{Limits}
use Rattle.txn_base.specs.declared.reply.Outcome.{Outcome}
use Rattle.txn_base.specs.declared.reply.Refusal.{Refusal}
use Rattle.txn_base.specs.declared.reply.Refusal.TheVariants as no
use Rattle.txn_base.specs.declared.reply.Reply.TheVariants as reply
use Rattle.txn_base.specs.declared.reply.Why.{Why}
use Rattle.txn_base.specs.declared.txn.TxnId.{TxnId}
use Rattle.txn_base.specs.declared.txn.Decision.{Decision}
use Rattle.txn_base.specs.declared.txn.Decision.TheVariants.{Commit, Abort}
use Rattle.txn_base.specs.declared.txn.Status.{Status}
use Rattle.txn_coordinator.specs.declared.error.CoordError.{CoordError}
use Rattle.txn_coordinator.specs.declared.error.CoordError.TheVariants as coord_error
use Rattle.txn_model.specs.declared.world.World.{World}
use Rattle.txn_model.specs.Answers.{early, granted, no_memory}
use Rattle.txn_model.specs.Drive.{StopsAt, recovery_fault, recovery_memory, marker_memory, marker_fault, StopsWithin, Drives, already, closes, close_fault, stops}
use Rattle.txn_model.specs.EarlyRows.{early_refusal}
use Rattle.txn_model.specs.Replies.{is_fault}
use Rattle.txn_model.specs.Table.{TableState, decision_batch, with_batch}
use Rattle.txn_engine.specs.Ending.{end_request, IsGranted}
use Rattle.txn_engine.specs.Refusals.{coord_refusal}
use Rattle.txn_engine.specs.Table.{table_of}
use Rattle.txn_engine.specs.Told.{MayTell, RoseFor, EngineGoesOn}
use Rattle.txn_engine.specs.View.{EngineView}
use Rattle.txn_engine.proofs.Begun.{short_told}
use Rattle.txn_engine.proofs.BegunGoes.{fault_refusal}
use Rattle.txn_engine.proofs.Decided.{at_once, end_succeeds}
use Rattle.txn_engine.proofs.Going.{goes_like}

-- ---- The same drive, where more counts rose.

module _ (rose rose' : ℕ → Type 0) (more : (p : ℕ) → rose p → rose' p) (x : TxnId) where
  stop_wider : (d : Decision) (p : ℕ) (t : TableState) (reason : Why) (t' : TableState) → StopsAt rose x d p t reason t' → StopsAt rose' x d p t reason t'
  stop_wider d p t reason t' (recovery_fault h r e) = recovery_fault h (more p r) e
  stop_wider d p t reason t' (recovery_memory h e) = recovery_memory h e
  stop_wider d p t reason t' (marker_memory f h n e) = marker_memory f h n e
  stop_wider d p t reason t' (marker_fault mid h n r e w) = marker_fault mid h n (more p r) e w

  stops_wider : (d : Decision) (ps : List ℕ) (p : ℕ) (t : TableState) (reason : Why) (t' : TableState) → StopsWithin rose x d ps p t reason t' → StopsWithin rose' x d ps p t reason t'
  stops_wider d [] p t reason t' h = absurd h
  stops_wider d (q ∷ qs) p t reason t' (inl h) = inl (h.0, stop_wider d q t reason t' h.1)
  stops_wider d (q ∷ qs) p t reason t' (inr h) = inr (h.0, h.1, stops_wider d qs p _ reason t' h.2)

  pub drives_wider : (t : TableState) (outcome : Outcome) (t' : TableState) → Drives rose x t outcome t' → Drives rose' x t outcome t'
  drives_wider t outcome t' (already d c o e) = already d c o e
  drives_wider t outcome t' (closes d c k mid h o e) = closes d c k mid h o e
  drives_wider t outcome t' (close_fault d c k mid h r o e) = close_fault d c k mid h (more 0 r) o e
  drives_wider t outcome t' (stops d c k p reason h o) = stops d c k p reason (stops_wider d _ p t reason t' h) o

-- ---- What is told.

module _ (f g : ℕ) (fs gs : ℕ → ℕ) (v : EngineView) (x : TxnId) (d : Decision) (m : ℕ) where
  abbrev rose : ℕ → Type 0
  rose = RoseFor f g fs gs

  pub ended_told : IsGranted v.limits (table_of v) (end_request d x) → (u w : EngineView) → table_of u ≡ with_batch (decision_batch (table_of v) x d) (table_of v) → (before : ℕ → Type 0) → ((p : ℕ) → before p → rose p) → (outcome : Outcome) → Drives before x (table_of u) outcome (table_of w)
      → MayTell f g fs gs v (end_request d x) m (reply.Ended d outcome) w
  ended_told free u w settled before more outcome drives =
      short_told f g fs gs v (end_request d x) m (reply.Ended d outcome) w refl
      (at_once v.limits v x d rose m (table_of v) (reply.Ended d outcome) (table_of w)
      (granted free.early (table_of v) free.whole free.late
      (end_succeeds v.limits rose (table_of v) x d (reply.Ended d outcome) (table_of w)
      (inl (outcome, subst (λ (t : TableState). Drives rose x t outcome (table_of w)) settled (drives_wider before rose more x (table_of u) outcome (table_of w) drives), refl)))))

  foreign_row : (limits : Limits) (w : World) (d : Decision) → (x.most == 0) ≡ false → early_refusal limits w (end_request d x) ≡ Some (no.UnknownCoordinator x.most)
  foreign_row limits w Commit other = rw other refl
  foreign_row limits w Abort other = rw other refl

  pub foreign_end_told : (x.most == 0) ≡ false → MayTell f g fs gs v (end_request d x) m (reply.No (no.UnknownCoordinator x.most)) v
  foreign_end_told other =
      short_told f g fs gs v (end_request d x) m (reply.No (no.UnknownCoordinator x.most)) v refl
      (at_once v.limits v x d rose m (table_of v) (reply.No (no.UnknownCoordinator x.most)) (table_of v) (early (no.UnknownCoordinator x.most) (foreign_row v.limits (table_of v).world d other) refl refl))

  -- memory ran out, before anything but room was taken
  pub end_memory_told : (w : EngineView) → table_of w ≡ table_of v → MayTell f g fs gs v (end_request d x) m (reply.No no.NoMemory) w
  end_memory_told w same =
      short_told f g fs gs v (end_request d x) m (reply.No no.NoMemory) w refl (at_once v.limits v x d rose m (table_of v) (reply.No no.NoMemory) (table_of w) (no_memory refl same))

-- ---- A refusal of the coordinator.

module _ {D : Type 0} (on : Ghosts D) where
  pub refused_goes : (r : Result Status CoordError) (e : CoordError) → r ≡ Err e → (row : Refusal) → row ≡ coord_refusal e → (v w : EngineView) (old new : D) → EngineGoesOn on (r ≡ Err coord_error.Fault) v w old new
      → EngineGoesOn on (is_fault (reply.No row) ≡ true) v w old new
  refused_goes r e is_err row is v w old new goes =
      goes_like on (r ≡ Err coord_error.Fault) (is_fault (reply.No row) ≡ true) v w old new
      (λ h. ap (λ (y : Refusal). is_fault (reply.No y)) (is ∙ ap coord_refusal (same r e coord_error.Fault is_err h)))
      (λ h. is_err ∙ ap (λ y. Err y) (fault_refusal e (ap (λ (y : Refusal). is_fault (reply.No y)) (sym is) ∙ h))) goes
    where
      same : (r : Result Status CoordError) (e y : CoordError) → r ≡ Err e → r ≡ Err y → e ≡ y
      same r e y p q = cc
