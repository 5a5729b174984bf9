-- How an engine goes on through a call of its coordinator.
use Rattle.std.proofs.Common.{◌≡◌, ◌⊎◌, inl, inr, ℕ, ◌+◌, ◌==◌, Bool, true, false, List, Option, Some, None, Result, Ok, Err, IfErr, OnOk, IsOk, MatchOption, IsTrue, option_map, refl, sym, ap, ◌∙◌, subst}
use Rattle.txn_base.specs.declared.disk.Disk.{Ghosts}
use Rattle.txn_base.specs.Moves.{After, FaultsIn}
use Rattle.txn_base.specs.declared.entry.CoordEntry.{CoordEntry}
use Rattle.txn_base.specs.declared.entry.CoordEntry.TheVariants as coord
use Rattle.txn_base.specs.declared.request.Request.{Request}
use Rattle.txn_base.specs.declared.request.Request.TheVariants as request
use Rattle.txn_base.specs.declared.reply.Reply.TheVariants as reply
use Rattle.txn_base.specs.declared.txn.TxnId.{TxnId}
use Rattle.txn_base.specs.Content.{Appends}
use Rattle.txn_base.specs.Disk.{Elsewhere}
use Rattle.txn_base.specs.Records.{IsCoordEntry}
use Rattle.txn_ledger.specs.Ledger.{IsFile, StandsIn, Stored}
use Rattle.txn_coordinator.specs.declared.error.CoordError.{CoordError}
use Rattle.txn_coordinator.specs.declared.error.CoordError.TheVariants as coord_error
use Rattle.txn_coordinator.specs.Calls.{MayFail, begin_refusal, add_refusal, has_part, with_part, next_txn}
use Rattle.txn_coordinator.specs.View as coordinator
use Rattle.txn_coordinator.specs.View.{CoordView, coord_batch, with_entry, with_failed_entry, reserving}
use Rattle.txn_model.specs.Allowed.{IsAllowed}
use Rattle.txn_model.specs.EarlyRows.{early_refusal, is_bad_timeout}
use Rattle.txn_model.specs.LateRows.{late_refusal}
use Rattle.txn_model.specs.Names.{part_of}
use Rattle.txn_model.specs.Replies.{is_fault}
use Rattle.txn_model.specs.Successes.{success_of}
use Rattle.txn_model.specs.Table.{TableState, EntryBatch, in_coord}
use Rattle.txn_model.specs.World.{Lawful}
use Rattle.txn_model.proofs.Laws.Grants.{row_granted}
use Rattle.txn_engine.specs.Kept.{IsEngine}
use Rattle.txn_engine.specs.Refusals.{coord_refusal, begun_reply, added_reply}
use Rattle.txn_engine.specs.Table.{world_of, table_of}
use Rattle.txn_engine.specs.Told.{EngineGoesOn}
use Rattle.txn_engine.specs.View.{EngineView, IsTied, IsBacked, with_coord}
use Rattle.txn_engine.proofs.Begun.{batch_one, not_ok}
use Rattle.txn_engine.proofs.Coordinators.{refusal_is, not_refused}
use Rattle.txn_engine.proofs.Going.{goes_still, coord_goes}
use Rattle.txn_engine.proofs.Rows.{early_new, begin_row, early_add, add_row}
use Rattle.txn_engine.proofs.Logged.{logged_table, table_is}
use Rattle.txn_engine.proofs.Tables.{table_grown, table_failed}

-- What a request that isn't refused adds is allowed.
pub row_allowed : (v : EngineView) (r : Request) (b : EntryBatch) (t : TableState) → table_of v ≡ t → early_refusal v.limits t.world r ≡ None → late_refusal v.limits t r ≡ None → (success_of v.limits t r).adds ≡ b → Lawful (world_of v) → IsAllowed b (world_of v)
row_allowed v r b t same early late adds lawful =
    let world : world_of v ≡ t.world = ap (λ (s : TableState). s.world) same in
    subst (IsAllowed b) (sym world) (subst (λ (x : EntryBatch). IsAllowed x t.world) adds (row_granted v.limits t r (subst Lawful world lawful) early late).allowed)

pub no_fault_refusal : (e : CoordError) → (e ≡ coord_error.Fault → ⊥) → is_fault (reply.No (coord_refusal e)) ≡ true → ⊥
no_fault_refusal coord_error.NotFound ne h = cc
no_fault_refusal (coord_error.NotOpen status) ne h = cc
no_fault_refusal coord_error.BadTimeout ne h = cc
no_fault_refusal (coord_error.Full what count) ne h = cc
no_fault_refusal coord_error.Fault ne h = ne refl
no_fault_refusal coord_error.NoMemory ne h = cc

pub fault_refusal : (e : CoordError) → is_fault (reply.No (coord_refusal e)) ≡ true → e ≡ coord_error.Fault
fault_refusal coord_error.NotFound h = cc
fault_refusal (coord_error.NotOpen status) h = cc
fault_refusal coord_error.BadTimeout h = cc
fault_refusal (coord_error.Full what count) h = cc
fault_refusal coord_error.Fault h = refl
fault_refusal coord_error.NoMemory h = cc

module _ {D : Type 0} (on : Ghosts D) (v : EngineView) (is : IsEngine v) (whole : IsTrue v.coord.whole) (old new : D) (backed : IsBacked (on.image old) v) where
  -- nothing happened
  pub still_goes : (X : Type 0) → (X → ⊥) → (c' : CoordView) → c' ≡ v.coord → new ≡ old → EngineGoesOn on X v (with_coord v c') old new
  still_goes X none c' same disk = subst (λ (d : D). EngineGoesOn on X v (with_coord v c') old d) (sym disk) (goes_still on X none v (with_coord v c') old backed refl same refl)

  -- where the coordinator refuses or fails
  module _ {A : Type 0} (o : Option CoordError) (no_fault : o ≡ Some coord_error.Fault → ⊥) (r : Result A CoordError) (refused : MatchOption o (MayFail r) (λ x. r ≡ Err x)) (entry : CoordEntry) (fits : IsCoordEntry entry)
      (allowed : o ≡ None → IsTied v → Lawful (world_of v) → IsAllowed (in_coord entry) (world_of v)) (c' : CoordView) (fault : r ≡ Err coord_error.Fault → c' ≡ with_failed_entry v.coord entry) (tied : coordinator.IsFrontOf v.coord → coordinator.IsFrontOf c') (here : Stored (on.image new) c'.content)
      (since : After on (Appends IsFile StandsIn v.coord.content (coord_batch entry)) old new) (others : Elsewhere v.coord.content.key (on.seen old) (on.seen new)) (cause : FaultsIn on v.coord.content.key.part old new (r ≡ Err coord_error.Fault)) where
    pub error_goes : (e : CoordError) → r ≡ Err e → ((e ≡ coord_error.Fault → ⊥) → c' ≡ v.coord) → ((e ≡ coord_error.Fault → ⊥) → new ≡ old) → EngineGoesOn on (is_fault (reply.No (coord_refusal e)) ≡ true) v (with_coord v c') old new
    error_goes e is_err same still = by_case (refusal_is o r e is_err refused)
      where
        quiet : (e ≡ coord_error.Fault → ⊥) → EngineGoesOn on (is_fault (reply.No (coord_refusal e)) ≡ true) v (with_coord v c') old new
        quiet ne = still_goes (is_fault (reply.No (coord_refusal e)) ≡ true) (no_fault_refusal e ne) c' (same ne) (still ne)

        other : e ≡ coord_error.NoMemory → e ≡ coord_error.Fault → ⊥
        other p q = cc

        by_case : (o ≡ Some e) ⊎ ((o ≡ None) × ((e ≡ coord_error.Fault) ⊎ (e ≡ coord_error.NoMemory))) → EngineGoesOn on (is_fault (reply.No (coord_refusal e)) ≡ true) v (with_coord v c') old new
        by_case (inl some) = quiet (λ f. no_fault (some ∙ ap (λ x. Some x) f))
        by_case (inr (none, inl failed)) =
            coord_goes on v is old new backed (is_fault (reply.No (coord_refusal e)) ≡ true) (r ≡ Err coord_error.Fault) entry (with_coord v c') whole fits (allowed none) refl refl
            (inr (subst (λ (x : CoordError). is_fault (reply.No (coord_refusal x)) ≡ true) (sym failed) refl))
            (inr (table_failed v is entry fits whole c' (fault (is_err ∙ ap (λ y. Err y) failed)))) tied here since others cause (λ x. is_err ∙ ap (λ y. Err y) failed)
        by_case (inr (none, inr memory)) = quiet (other memory)

  -- ---- A transaction that is begun.

  module _ (timeout : ℕ) (ok : is_bad_timeout timeout ≡ false) where
    abbrev new_entry : CoordEntry
    new_entry = coord.New (next_txn v.coord) (v.latest + timeout)

    new_allowed : begin_refusal v.coord timeout ≡ None → IsTied v → Lawful (world_of v) → IsAllowed (in_coord new_entry) (world_of v)
    new_allowed none tied = row_allowed v (request.New timeout) (in_coord new_entry) (logged_table v) (table_is v is whole tied) (early_new v.limits v timeout ok) (begin_row v is whole timeout ok ∙ ap (option_map coord_refusal) none) refl

    pub begun_goes : (no_fault : begin_refusal v.coord timeout ≡ Some coord_error.Fault → ⊥) (r : Result TxnId CoordError) (c' : CoordView) → IsCoordEntry new_entry → MatchOption (begin_refusal v.coord timeout) (MayFail r) (λ x. r ≡ Err x) → OnOk r (c' ≡ with_entry v.coord new_entry)
        → (r ≡ Err coord_error.Fault → c' ≡ with_failed_entry v.coord new_entry) → IfErr r (λ e. (e ≡ coord_error.Fault → ⊥) → c' ≡ v.coord) → IfErr r (λ e. (e ≡ coord_error.Fault → ⊥) → new ≡ old) → (coordinator.IsFrontOf v.coord → coordinator.IsFrontOf c') → Stored (on.image new) c'.content
        → After on (Appends IsFile StandsIn v.coord.content (coord_batch new_entry)) old new → Elsewhere v.coord.content.key (on.seen old) (on.seen new) → FaultsIn on v.coord.content.key.part old new (r ≡ Err coord_error.Fault)
        → EngineGoesOn on (is_fault (begun_reply r) ≡ true) v (with_coord v c') old new
    begun_goes no_fault (Ok x) c' fits refused now fault same still tied here since others cause =
        coord_goes on v is old new backed (false ≡ true) (◌≡◌ {A = Result TxnId CoordError} (Ok x) (Err coord_error.Fault)) new_entry (with_coord v c') whole fits (new_allowed (not_refused (begin_refusal v.coord timeout) (Ok x) x refl refused)) refl refl
        (inl (subst (λ (c : CoordView). IsTrue c.whole) (sym now) whole)) (inl (table_grown v is new_entry fits whole c' v.coord.reserved now)) tied here since others cause (λ x. cc)
    begun_goes no_fault (Err e) c' fits refused now fault same still tied here since others cause =
        error_goes (begin_refusal v.coord timeout) no_fault (Err e) refused new_entry fits new_allowed c' fault tied here since others cause e refl same still

  -- ---- A part that is added.

  module _ (x : TxnId) (part : List ℕ) (p : ℕ) (known : part_of v.names part ≡ Some p) (own : (x.most == 0) ≡ true) where
    abbrev add_entry : CoordEntry
    add_entry = coord.AddPart x p

    add_allowed : add_refusal v.coord x p ≡ None → has_part v.coord x p ≡ false → IsTied v → Lawful (world_of v) → IsAllowed (in_coord add_entry) (world_of v)
    add_allowed none fresh tied = row_allowed v (request.Add x part) (in_coord add_entry) (logged_table v) (table_is v is whole tied) (early_add v.limits v x part p known own) (add_row v is whole x part p known ∙ ap (option_map coord_refusal) none) (batch_one v x part p known fresh)

    pub added_goes : (no_fault : add_refusal v.coord x p ≡ Some coord_error.Fault → ⊥) (r : Result (Unit {0}) CoordError) (c' : CoordView) → IsCoordEntry add_entry → MatchOption (add_refusal v.coord x p) (MayFail r) (λ y. r ≡ Err y)
        → (add_refusal v.coord x p ≡ None → has_part v.coord x p ≡ true → IsOk r) → (has_part v.coord x p ≡ true → new ≡ old) → OnOk r (c' ≡ with_part v.coord x p)
        → (r ≡ Err coord_error.Fault → c' ≡ with_failed_entry v.coord add_entry) → IfErr r (λ e. (e ≡ coord_error.Fault → ⊥) → c' ≡ v.coord) → IfErr r (λ e. (e ≡ coord_error.Fault → ⊥) → new ≡ old) → (coordinator.IsFrontOf v.coord → coordinator.IsFrontOf c') → Stored (on.image new) c'.content
        → After on (Appends IsFile StandsIn v.coord.content (coord_batch add_entry)) old new → Elsewhere v.coord.content.key (on.seen old) (on.seen new) → FaultsIn on v.coord.content.key.part old new (r ≡ Err coord_error.Fault)
        → EngineGoesOn on (is_fault (added_reply r) ≡ true) v (with_coord v c') old new
    added_goes no_fault (Ok u) c' fits refused repeated idle now fault same still tied here since others cause = by_part (has_part v.coord x p) refl
      where
        kept : has_part v.coord x p ≡ true → with_part v.coord x p ≡ v.coord
        kept has = rw has refl

        grown : has_part v.coord x p ≡ false → with_part v.coord x p ≡ with_entry v.coord add_entry
        grown has = rw has refl

        none : add_refusal v.coord x p ≡ None
        none = not_refused (add_refusal v.coord x p) (Ok u) u refl refused

        by_part : (b : Bool) → has_part v.coord x p ≡ b → EngineGoesOn on (false ≡ true) v (with_coord v c') old new
        by_part true has = still_goes (false ≡ true) (λ h. cc) c' (now ∙ kept has) (idle has)
        by_part false has =
            coord_goes on v is old new backed (false ≡ true) (◌≡◌ {A = Result (Unit {0}) CoordError} (Ok u) (Err coord_error.Fault)) add_entry (with_coord v c') whole fits (add_allowed none has) refl refl
            (inl (subst (λ (c : CoordView). IsTrue c.whole) (sym (now ∙ grown has)) whole)) (inl (table_grown v is add_entry fits whole c' v.coord.reserved (now ∙ grown has))) tied here since others cause (λ h. cc)
    added_goes no_fault (Err e) c' fits refused repeated idle now fault same still tied here since others cause =
        error_goes (add_refusal v.coord x p) no_fault (Err e) refused add_entry fits allowed c' fault tied here since others cause e refl same still
      where
        fresh : (b : Bool) → has_part v.coord x p ≡ b → add_refusal v.coord x p ≡ None → has_part v.coord x p ≡ false
        fresh true has none = absurd (not_ok (Err e) e refl (repeated none has))
        fresh false has none = has

        allowed : add_refusal v.coord x p ≡ None → IsTied v → Lawful (world_of v) → IsAllowed (in_coord add_entry) (world_of v)
        allowed none = add_allowed none (fresh (has_part v.coord x p) refl none)
