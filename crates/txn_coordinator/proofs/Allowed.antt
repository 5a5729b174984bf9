-- The entries that calls add are allowed.
use Rattle.std.proofs.Common.{◌≡◌, ℕ, true, List, Some, None, refl, sym, ap, ◌∙◌, true≢false}
use Rattle.std.specs.Prelude.{Option, unwrap_or}
use Rattle.txn_base.specs.declared.txn.TxnId.{TxnId}
use Rattle.txn_base.specs.declared.txn.Decision.{Decision}
use Rattle.txn_base.specs.declared.txn.Decision.TheVariants.{Commit, Abort}
use Rattle.txn_base.specs.declared.txn.Status.{Status}
use Rattle.txn_base.specs.declared.txn.Status.TheVariants.{Open, Committing, Committed, Aborting, Aborted}
use Rattle.txn_base.specs.declared.entry.CoordEntry.{CoordEntry}
use Rattle.txn_base.specs.declared.core_entry.CoreEntry.{CoreEntry}
use Rattle.txn_model.specs.Skeletons.{coord_skeleton}
use Rattle.txn_model.specs.Coord.{status_of, decision_of, is_open, is_deciding, coord_allows, CoordLawful}
use Rattle.txn_model.specs.Deadlines.{is_undriven}
use Rattle.txn_table.specs.Table.{decision_in}
use Rattle.txn_model.specs.Table.{decision_entry, closing_entry}
use Rattle.txn_table.proofs.Laws.{decision_by_status}

decide_allowed : (n : ℕ) (c : List CoreEntry) (x : TxnId) (d : Decision) → is_open (status_of c x) ≡ true → coord_allows n c (coord_skeleton (decision_entry x d)) ≡ true
decide_allowed n c x Commit h = h
decide_allowed n c x Abort h = h

pub decides_open : (n : ℕ) (c : List CoreEntry) (x : TxnId) (d : Decision) (status : Status) (e : CoordEntry) → status ≡ Open → Some status ≡ status_of c x → e ≡ decision_entry x d → coord_allows n c (coord_skeleton e) ≡ true
decides_open n c x d status e is at same =
    ap (λ f. coord_allows n c (coord_skeleton f)) same ∙ decide_allowed n c x d (ap is_open (sym at ∙ ap (λ (s : Status). Some s) is))

close_allowed : (n : ℕ) (c : List CoreEntry) (x : TxnId) (o : Option Status) → status_of c x ≡ o → is_undriven o ≡ true → coord_allows n c (coord_skeleton (closing_entry x (unwrap_or (decision_in o) Commit))) ≡ true
close_allowed n c x None at h = absurd (true≢false (sym h))
close_allowed n c x (Some Open) at h = absurd (true≢false (sym h))
close_allowed n c x (Some Committing) at h = ap (is_deciding Commit) at
close_allowed n c x (Some Committed) at h = absurd (true≢false (sym h))
close_allowed n c x (Some Aborting) at h = ap (is_deciding Abort) at
close_allowed n c x (Some Aborted) at h = absurd (true≢false (sym h))

pub closes_undriven : (n : ℕ) (c : List CoreEntry) (x : TxnId) (e : CoordEntry) → CoordLawful 62 c → e ≡ closing_entry x (unwrap_or (decision_of c x) Commit) → is_undriven (status_of c x) ≡ true → coord_allows n c (coord_skeleton e) ≡ true
closes_undriven n c x e lawful same h =
    ap (λ f. coord_allows n c (coord_skeleton f)) (same ∙ ap (λ d. closing_entry x (unwrap_or d Commit)) (sym (decision_by_status c x lawful))) ∙ close_allowed n c x (status_of c x) refl h
