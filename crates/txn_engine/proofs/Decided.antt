-- What an engine tells of a decision, and how it goes on through one.
use Rattle.std.proofs.Common.{◌≡◌, ◌⊎◌, inl, inr, ℕ, ◌+◌, ◌==◌, ◌||◌, Bool, true, false, if◌then◌else◌, List, [], ◌∷◌, ◌++◌, length, Option, Some, None, Result, Ok, Err, IfErr, OnOk, IsOk, MatchOption, IsTrue, option_map, refl, sym, ap, ◌∙◌, subst, arith}
use Rattle.std.specs.Option.{option_or}
use Rattle.std.proofs.lemmas.Bool.Decides.{nat_tests}
use Rattle.txn_base.specs.declared.disk.Disk.{Ghosts}
use Rattle.txn_base.specs.Moves.{After, FaultsIn}
use Rattle.txn_base.specs.declared.core_entry.CoreEntry.{CoreEntry}
use Rattle.txn_base.specs.declared.entry.CoordEntry.{CoordEntry}
use Rattle.txn_base.specs.declared.limits.Limits.{Limits}
use Rattle.txn_base.specs.declared.reply.Reply.{Reply}
use Rattle.txn_base.specs.declared.reply.Reply.TheVariants as reply
use Rattle.txn_base.specs.declared.reply.Outcome.{Outcome}
use Rattle.txn_base.specs.declared.reply.Refusal.TheVariants as no
use Rattle.txn_base.specs.declared.txn.TxnId.{TxnId}
use Rattle.txn_base.specs.declared.txn.Decision.{Decision}
use Rattle.txn_base.specs.declared.txn.Decision.TheVariants.{Commit, Abort}
use Rattle.txn_base.specs.declared.txn.Status.{Status}
use Rattle.txn_base.specs.declared.txn.Status.TheVariants.{Open, Committing, Committed, Aborting, Aborted}
use Rattle.txn_base.specs.Content.{Appends}
use Rattle.txn_base.specs.Disk.{Elsewhere, CountsFaults}
use Rattle.txn_base.specs.Records.{IsTxnId, IsCoordEntry}
use Rattle.txn_coordinator.specs.declared.error.CoordError.{CoordError}
use Rattle.txn_coordinator.specs.declared.error.CoordError.TheVariants as coord_error
use Rattle.txn_coordinator.specs.Calls.{MayFail, status_in_view, decide_refusal, decide_refusal_at, decided}
use Rattle.txn_coordinator.specs.View as coordinator
use Rattle.txn_coordinator.specs.View.{CoordView, coord_batch, with_entry, with_failed_entry}
use Rattle.txn_ledger.specs.Ledger.{IsFile, StandsIn, Stored}
use Rattle.txn_model.specs.Allowed.{IsAllowed}
use Rattle.txn_model.specs.Answers.{Answers, AnswersAt, Ends, Succeeds, AppendFails, moved, uses}
use Rattle.txn_model.specs.Coord.{CoordLawful, coord_allows, status_of, decision_of, closing_of, has_new, is_open, says_decision, in_parts, is_add, closed, deciding}
use Rattle.txn_model.specs.Drive.{RebuildsAll}
use Rattle.txn_model.specs.EarlyRows.{early_refusal}
use Rattle.txn_model.specs.LateRows.{late_refusal, opposes}
use Rattle.txn_model.specs.Replies.{is_fault}
use Rattle.txn_model.specs.Skeletons.{coord_skeleton, coord_skeletons}
use Rattle.txn_model.specs.Table.{TableState, EntryBatch, nothing, in_coord, decision_entry, decision_batch, with_batch}
use Rattle.txn_model.specs.World.{Lawful}
use Rattle.txn_model.proofs.Laws.Grants.{decision_granted}
use Rattle.txn_model.proofs.Laws.Lists.{map_append, first_of-append}
use Rattle.txn_model.proofs.Laws.Logs.{Agrees, last_by, status_by, open_means, lawful_agrees}
use Rattle.txn_coordinator.proofs.Laws.{same_itself, in_parts-push}
use Rattle.txn_engine.specs.Ending.{end_request, IsReady, IsGranted}
use Rattle.txn_engine.specs.Kept.{IsEngine, IsCoordinator}
use Rattle.txn_engine.specs.Refusals.{coord_refusal}
use Rattle.txn_engine.specs.Table.{table_of, world_of}
use Rattle.txn_engine.specs.Told.{MayTell, RoseFor, EngineGoesOn}
use Rattle.txn_engine.specs.View.{EngineView, IsTied, IsBacked, with_coord}
use Rattle.txn_engine.proofs.Begun.{short_told, error_told, coord_fails, begun_short, kept_by}
use Rattle.txn_engine.proofs.BegunGoes.{still_goes, error_goes, fault_refusal}
use Rattle.txn_engine.proofs.Coordinators.{not_refused, logged_is, engine_with}
use Rattle.txn_engine.proofs.Going.{coord_goes, goes_like}
use Rattle.txn_engine.proofs.Logged.{logged_world, logged_table, world_is, table_is}
use Rattle.txn_engine.proofs.Rows.{log_stays}
use Rattle.txn_engine.proofs.Tables.{table_grown}

-- ---- The rows.

module _ (limits : Limits) (v : EngineView) (x : TxnId) where
  pub early_end : (d : Decision) → (x.most == 0) ≡ true → early_refusal limits (world_of v) (end_request d x) ≡ None
  early_end Commit own = rw own refl
  early_end Abort own = rw own refl

  pub foreign_end : (d : Decision) → (x.most == 0) ≡ false → early_refusal limits (world_of v) (end_request d x) ≡ Some (no.UnknownCoordinator x.most)
  foreign_end Commit other = rw other refl
  foreign_end Abort other = rw other refl

  late_by : (d : Decision) (s : Option Status) → status_of (coord_skeletons v.coord.front) x ≡ s → late_refusal limits (logged_table v) (end_request d x) ≡ option_map coord_refusal (decide_refusal_at s d)
  late_by Commit None e = rw e refl
  late_by Commit (Some Open) e = rw e refl
  late_by Commit (Some Committing) e = rw e refl
  late_by Commit (Some Committed) e = rw e refl
  late_by Commit (Some Aborting) e = rw e refl
  late_by Commit (Some Aborted) e = rw e refl
  late_by Abort None e = rw e refl
  late_by Abort (Some Open) e = rw e refl
  late_by Abort (Some Committing) e = rw e refl
  late_by Abort (Some Committed) e = rw e refl
  late_by Abort (Some Aborting) e = rw e refl
  late_by Abort (Some Aborted) e = rw e refl

  pub end_row : (d : Decision) → late_refusal limits (logged_table v) (end_request d x) ≡ option_map coord_refusal (decide_refusal v.coord x d)
  end_row d = late_by d (status_of (coord_skeletons v.coord.front) x) refl

  moved_end : (d : Decision) (m : ℕ) (t : TableState) → moved (end_request d x) m t ≡ t
  moved_end Commit m t = refl
  moved_end Abort m t = refl

  pub at_once : (d : Decision) (rose : ℕ → Type 0) (m : ℕ) (t : TableState) (told : Reply) (t' : TableState) → Answers limits rose t (end_request d x) told t' → AnswersAt limits rose t (end_request d x) m told t'
  at_once d rose m t told t' h = subst (λ (s : TableState). Answers limits rose s (end_request d x) told t') (sym (moved_end d m t)) h

pub end_succeeds : (limits : Limits) (rose : ℕ → Type 0) (t : TableState) (x : TxnId) (d : Decision) (told : Reply) (t' : TableState) → ((outcome : Outcome) × Ends rose t x d outcome t' × (told ≡ reply.Ended d outcome)) ⊎ AppendFails rose (decision_batch t x d) t told t' → Succeeds limits rose t (end_request d x) told t'
end_succeeds limits rose t x Commit told t' h = h
end_succeeds limits rose t x Abort told t' h = h

no_fault_by : (b : Bool) (s : Status) → (if b then Some (coord_error.NotOpen s) else None) ≡ Some coord_error.Fault → ⊥
no_fault_by true s e = cc
no_fault_by false s e = cc

pub no_fault_decide : (s : Option Status) (d : Decision) → decide_refusal_at s d ≡ Some coord_error.Fault → ⊥
no_fault_decide None d e = cc
no_fault_decide (Some s) d e = no_fault_by (opposes d s) s e

-- ---- The decision of a log.

-- one that isn't refused, and isn't open: it has this decision already
found_by : (d e : Decision) (s : Status) → (s ≡ closed e) ⊎ (s ≡ deciding e) → (if opposes d s then Some (coord_error.NotOpen s) else None) ≡ None → e ≡ d
found_by Commit Commit s h none = refl
found_by Abort Abort s h none = refl
found_by Commit Abort s (inl e) none = absurd (never s e none)
  where
    never : (s : Status) → s ≡ closed Abort → (if opposes Commit s then Some (coord_error.NotOpen s) else None) ≡ None → ⊥
    never s e none = cc (subst (λ (k : Status). (if opposes Commit k then Some (coord_error.NotOpen k) else None) ≡ None) e none)
found_by Commit Abort s (inr e) none = absurd (never s e none)
  where
    never : (s : Status) → s ≡ deciding Abort → (if opposes Commit s then Some (coord_error.NotOpen s) else None) ≡ None → ⊥
    never s e none = cc (subst (λ (k : Status). (if opposes Commit k then Some (coord_error.NotOpen k) else None) ≡ None) e none)
found_by Abort Commit s (inl e) none = absurd (never s e none)
  where
    never : (s : Status) → s ≡ closed Commit → (if opposes Abort s then Some (coord_error.NotOpen s) else None) ≡ None → ⊥
    never s e none = cc (subst (λ (k : Status). (if opposes Abort k then Some (coord_error.NotOpen k) else None) ≡ None) e none)
found_by Abort Commit s (inr e) none = absurd (never s e none)
  where
    never : (s : Status) → s ≡ deciding Commit → (if opposes Abort s then Some (coord_error.NotOpen s) else None) ≡ None → ⊥
    never s e none = cc (subst (λ (k : Status). (if opposes Abort k then Some (coord_error.NotOpen k) else None) ≡ None) e none)

stood_by : (begun : Bool) (k g : Option Decision) (d : Decision) → ((e : Decision) → k ≡ Some e → g ≡ Some e) → decide_refusal_at (status_by begun (last_by k g)) d ≡ None → is_open (status_by begun (last_by k g)) ≡ false → g ≡ Some d
stood_by false k g d when none shut = cc
stood_by true (Some e) g d when none shut = when e refl ∙ ap (λ (c : Decision). Some c) (found_by d e (closed e) (inl refl) none)
stood_by true None (Some e) d when none shut = ap (λ (c : Decision). Some c) (found_by d e (deciding e) (inr refl) none)
stood_by true None None d when none shut = cc

decides_itself : (x : TxnId) (d : Decision) → says_decision x (coord_skeleton (decision_entry x d)) ≡ Some d
decides_itself x Commit = ap (λ (b : Bool). if b then Some Commit else None) (same_itself x)
decides_itself x Abort = ap (λ (b : Bool). if b then Some Abort else None) (same_itself x)

module _ (n : ℕ) (c : List CoordEntry) (lawful : CoordLawful n (coord_skeletons c)) (x : TxnId) (d : Decision) where
  agree : Agrees (coord_skeletons c) x
  agree = lawful_agrees n (coord_skeletons c) x lawful

  status_is : status_of (coord_skeletons c) x ≡ status_by (has_new (coord_skeletons c) x) (last_by (closing_of (coord_skeletons c) x) (decision_of (coord_skeletons c) x))
  status_is = ap (status_by (has_new (coord_skeletons c) x)) agree.said

  pub decision_stood : decide_refusal_at (status_of (coord_skeletons c) x) d ≡ None → is_open (status_of (coord_skeletons c) x) ≡ false → decision_of (coord_skeletons c) x ≡ Some d
  decision_stood none shut =
      stood_by (has_new (coord_skeletons c) x) (closing_of (coord_skeletons c) x) (decision_of (coord_skeletons c) x) d agree.when_closed
      (ap (λ (s : Option Status). decide_refusal_at s d) (sym status_is) ∙ none) (ap is_open (sym status_is) ∙ shut)

  none_yet : is_open (status_of (coord_skeletons c) x) ≡ true → decision_of (coord_skeletons c) x ≡ None
  none_yet still_open = (open_means (has_new (coord_skeletons c) x) (closing_of (coord_skeletons c) x) (decision_of (coord_skeletons c) x) (ap is_open (sym status_is) ∙ still_open)).2

  pub decision_added : is_open (status_of (coord_skeletons c) x) ≡ true → decision_of (coord_skeletons (c ++ decision_entry x d ∷ [])) x ≡ Some d
  decision_added still_open =
      ap (λ (l : List CoreEntry). decision_of l x) (map_append coord_skeleton c (decision_entry x d ∷ []))
      ∙ first_of-append (says_decision x) (coord_skeletons c) (coord_skeleton (decision_entry x d) ∷ [])
      ∙ ap (λ (o : Option Decision). option_or o (option_or (says_decision x (coord_skeleton (decision_entry x d))) None)) (none_yet still_open)
      ∙ ap (λ (o : Option Decision). option_or o None) (decides_itself x d)

  -- ---- Closed, or not.

  closed_by : (begun : Bool) (k g : Option Decision) (e : Decision) → ((e : Decision) → k ≡ Some e → g ≡ Some e) → g ≡ Some e → (k ≡ None) ⊎ (k ≡ Some e)
  closed_by begun None g e when is = inl refl
  closed_by begun (Some k) g e when is = inr (sym (when k refl) ∙ is)

  -- what is decided is closed by its decision, or isn't closed
  pub closed_so : decision_of (coord_skeletons c) x ≡ Some d → (closing_of (coord_skeletons c) x ≡ None) ⊎ (closing_of (coord_skeletons c) x ≡ Some d)
  closed_so is = closed_by (has_new (coord_skeletons c) x) (closing_of (coord_skeletons c) x) (decision_of (coord_skeletons c) x) d agree.when_closed is

-- ---- Answers of the coordinator.

pub on_ok : {A E : Type 0} (r : Result A E) (P : Type 0) → ((a : A) → r ≡ Ok a → P) → OnOk r P
on_ok (Ok a) P h = h a refl
on_ok (Err e) P h = tt

pub if_err : {A E : Type 0} (r : Result A E) (P : E → Type 0) → ((e : E) → r ≡ Err e → P e) → IfErr r P
if_err (Ok a) P h = tt
if_err (Err e) P h = h e refl

pub from_ok : {A E : Type 0} (r : Result A E) (P : Type 0) (a : A) → r ≡ Ok a → OnOk r P → P
from_ok {A = A} {E = E} r P a is h = subst (λ (x : Result A E). OnOk x P) is h

pub from_err : {A E : Type 0} (r : Result A E) (P : E → Type 0) (e : E) → r ≡ Err e → IfErr r P → P e
from_err {A = A} {E = E} r P e is h = subst (λ (x : Result A E). IfErr x P) is h

pub by_result : {A E : Type 0} (r : Result A E) (P : Type 0) → ((a : A) → r ≡ Ok a → P) → ((e : E) → r ≡ Err e → P) → P
by_result (Ok a) P h k = h a refl
by_result (Err e) P h k = k e refl

pub err_not_ok : (r : Result Status CoordError) (e : CoordError) → r ≡ Err e → IsOk r → ⊥
err_not_ok (Ok s) e is ok = cc
err_not_ok (Err y) e is ok = cc

pub ok_not_err : (r : Result Status CoordError) (s : Status) (e : CoordError) → r ≡ Ok s → r ≡ Err e → ⊥
ok_not_err r s e is h = cc

same_err : (r : Result Status CoordError) (e y : CoordError) → r ≡ Err e → r ≡ Err y → e ≡ y
same_err r e y is h = cc

-- ---- The coordinator after it.

pub decision_fits : (x : TxnId) (d : Decision) → IsTxnId x → IsCoordEntry (decision_entry x d)
decision_fits x Commit fits = fits
decision_fits x Abort fits = fits

decision_allowed : (n : ℕ) (c : List CoreEntry) (x : TxnId) (d : Decision) → is_open (status_of c x) ≡ true → coord_allows n c (coord_skeleton (decision_entry x d)) ≡ true
decision_allowed n c x Commit still_open = still_open
decision_allowed n c x Abort still_open = still_open

module _ (v : CoordView) (x : TxnId) (d : Decision) where
  pub decided_shut : is_open (status_in_view v x) ≡ false → decided v x d ≡ v
  decided_shut e = rw e refl

  pub decided_open : is_open (status_in_view v x) ≡ true → decided v x d ≡ with_entry v (decision_entry x d)
  decided_open e = rw e refl

module _ (v : EngineView) (x : TxnId) (d : Decision) where
  batch_shut : is_open (status_in_view v.coord x) ≡ false → decision_batch (logged_table v) x d ≡ nothing
  batch_shut e = rw e refl

  batch_open : is_open (status_in_view v.coord x) ≡ true → decision_batch (logged_table v) x d ≡ in_coord (decision_entry x d)
  batch_open e = rw e refl

module _ (v : EngineView) (is : IsEngine v) (whole : IsTrue v.coord.whole) (x : TxnId) (d : Decision) (fits : IsTxnId x) (result : Result Status CoordError) (c' : CoordView)
    (refused : MatchOption (decide_refusal v.coord x d) (MayFail result) (λ y. result ≡ Err y)) (repeated : decide_refusal v.coord x d ≡ None → is_open (status_in_view v.coord x) ≡ false → IsOk result)
    (now : OnOk result (c' ≡ decided v.coord x d)) (fault : result ≡ Err coord_error.Fault → c' ≡ with_failed_entry v.coord (decision_entry x d)) (same : IfErr result (λ e. (e ≡ coord_error.Fault → ⊥) → c' ≡ v.coord)) where
  abbrev pub u : EngineView
  u = with_coord v c'

  kept_ok : (s : Status) → result ≡ Ok s → c' ≡ decided v.coord x d → IsCoordinator v.limits (length v.names) c'
  kept_ok s is_ok e = by_test (is_open (status_in_view v.coord x)) refl
    where
      by_test : (b : Bool) → is_open (status_in_view v.coord x) ≡ b → IsCoordinator v.limits (length v.names) c'
      by_test true still_open =
          subst (IsCoordinator v.limits (length v.names)) (sym (e ∙ decided_open v.coord x d still_open))
          (logged_is v.limits (length v.names) v.coord (decision_entry x d) is.coord whole (decision_allowed (length v.names) (coord_skeletons v.coord.front) x d still_open))
      by_test false shut = subst (IsCoordinator v.limits (length v.names)) (sym (e ∙ decided_shut v.coord x d shut)) is.coord

  no_refusal : (s : Status) → result ≡ Ok s → decide_refusal v.coord x d ≡ None
  no_refusal s is_ok = not_refused (decide_refusal v.coord x d) result s is_ok refused

  -- where it was decided
  module _ (s : Status) (is_ok : result ≡ Ok s) (e : c' ≡ decided v.coord x d) where
    pub decided_now : decision_of (coord_skeletons c'.front) x ≡ Some d
    decided_now = by_test (is_open (status_in_view v.coord x)) refl
      where
        by_test : (b : Bool) → is_open (status_in_view v.coord x) ≡ b → decision_of (coord_skeletons c'.front) x ≡ Some d
        by_test true still_open = ap (λ (c : CoordView). decision_of (coord_skeletons c.front) x) (e ∙ decided_open v.coord x d still_open) ∙ decision_added (length v.names) v.coord.front is.coord.lawful x d still_open
        by_test false shut = ap (λ (c : CoordView). decision_of (coord_skeletons c.front) x) (e ∙ decided_shut v.coord x d shut) ∙ decision_stood (length v.names) v.coord.front is.coord.lawful x d (no_refusal s is_ok) shut

    pub decided_whole : IsTrue c'.whole
    decided_whole = by_test (is_open (status_in_view v.coord x)) refl
      where
        by_test : (b : Bool) → is_open (status_in_view v.coord x) ≡ b → IsTrue c'.whole
        by_test true still_open = subst (λ (c : CoordView). IsTrue c.whole) (sym (e ∙ decided_open v.coord x d still_open)) whole
        by_test false shut = subst (λ (c : CoordView). IsTrue c.whole) (sym (e ∙ decided_shut v.coord x d shut)) whole

    pub decided_table : IsTied v → table_of u ≡ with_batch (decision_batch (table_of v) x d) (table_of v)
    decided_table tied = by_test (is_open (status_in_view v.coord x)) refl
      where
        -- by the batch that the log tells
        told : (b : EntryBatch) → decision_batch (logged_table v) x d ≡ b → table_of u ≡ with_batch b (table_of v) → table_of u ≡ with_batch (decision_batch (table_of v) x d) (table_of v)
        told b is_it grown = grown ∙ ap (λ (y : EntryBatch). with_batch y (table_of v)) (sym is_it ∙ ap (λ (t : TableState). decision_batch t x d) (sym (table_is v is whole tied)))

        by_test : (b : Bool) → is_open (status_in_view v.coord x) ≡ b → table_of u ≡ with_batch (decision_batch (table_of v) x d) (table_of v)
        by_test true still_open =
            told (in_coord (decision_entry x d)) (batch_open v x d still_open)
            (table_grown v is (decision_entry x d) (decision_fits x d fits) whole c' v.coord.reserved (e ∙ decided_open v.coord x d still_open))
        by_test false shut = told nothing (batch_shut v x d shut) (ap (λ (c : CoordView). table_of (with_coord v c)) (e ∙ decided_shut v.coord x d shut))

    pub reserved_still : v.coord.reserved ≡ 1 → c'.reserved ≡ 1
    reserved_still ready = by_test (is_open (status_in_view v.coord x)) refl
      where
        by_test : (b : Bool) → is_open (status_in_view v.coord x) ≡ b → c'.reserved ≡ 1
        by_test true still_open = ap (λ (c : CoordView). c.reserved) (e ∙ decided_open v.coord x d still_open) ∙ ready
        by_test false shut = ap (λ (c : CoordView). c.reserved) (e ∙ decided_shut v.coord x d shut) ∙ ready

  -- its parts are those that it had
  pub parts_still : (s : Status) → result ≡ Ok s → c' ≡ decided v.coord x d → (p : ℕ) → in_parts (coord_skeletons c'.front) x p ≡ in_parts (coord_skeletons v.coord.front) x p
  parts_still s is_ok e p = by_test (is_open (status_in_view v.coord x)) refl
    where
      no_more : (b : Bool) → (b || false) ≡ b
      no_more true = refl
      no_more false = refl

      adds_none : (d : Decision) → is_add x p (coord_skeleton (decision_entry x d)) ≡ false
      adds_none Commit = refl
      adds_none Abort = refl

      by_test : (b : Bool) → is_open (status_in_view v.coord x) ≡ b → in_parts (coord_skeletons c'.front) x p ≡ in_parts (coord_skeletons v.coord.front) x p
      by_test true still_open =
          ap (λ (c : CoordView). in_parts (coord_skeletons c.front) x p) (e ∙ decided_open v.coord x d still_open)
          ∙ in_parts-push v.coord.front (decision_entry x d) x p ∙ ap (λ (b : Bool). in_parts (coord_skeletons v.coord.front) x p || b) (adds_none d) ∙ no_more (in_parts (coord_skeletons v.coord.front) x p)
      by_test false shut = ap (λ (c : CoordView). in_parts (coord_skeletons c.front) x p) (e ∙ decided_shut v.coord x d shut)

  pub ready_still : (s : Status) → result ≡ Ok s → c' ≡ decided v.coord x d → IsReady x v → IsReady x u
  ready_still s is_ok e ready = record {
    coord = reserved_still s is_ok e ready.coord;
    topics = λ j t below within has. ready.topics j t below within (sym (parts_still s is_ok e (1 + j)) ∙ has);
  }

  pub decided_engine : (s : Status) → result ≡ Ok s → c' ≡ decided v.coord x d → IsEngine u
  decided_engine s is_ok e = engine_with v is c' (kept_ok s is_ok e) v.latest is.latest

  -- ---- What is told.

  module _ (own : (x.most == 0) ≡ true) (tied : IsTied v) (f g : ℕ) (fs gs : ℕ → ℕ) (m : ℕ) where
    abbrev rose : ℕ → Type 0
    rose = RoseFor f g fs gs

    stays_for : (d : Decision) → RebuildsAll (uses (logged_world v) (end_request d x)) (logged_table v) (logged_table v)
    stays_for Commit = log_stays v
    stays_for Abort = log_stays v

    is_open_now : (e : CoordError) → result ≡ Err e → decide_refusal v.coord x d ≡ None → (b : Bool) → is_open (status_in_view v.coord x) ≡ b → is_open (status_in_view v.coord x) ≡ true
    is_open_now e is_err none true still_open = still_open
    is_open_now e is_err none false shut = absurd (err_not_ok result e is_err (repeated none shut))

    pub refused_told : (e : CoordError) → result ≡ Err e → ((e ≡ coord_error.Fault → ⊥) → c' ≡ v.coord) → CountsFaults v.coord.content.key.part f g fs gs (result ≡ Err coord_error.Fault) → MayTell f g fs gs v (end_request d x) m (reply.No (coord_refusal e)) u
    refused_told e is_err still cause =
        short_told f g fs gs v (end_request d x) m (reply.No (coord_refusal e)) u (begun_short (Err e))
        (at_once v.limits v x d rose m (table_of v) (reply.No (coord_refusal e)) (table_of u)
        (error_told v is whole tied v.limits rose (end_request d x) (early_end v.limits v x d own) (stays_for d) (decide_refusal v.coord x d) (end_row v.limits v x d) (no_fault_decide (status_of (coord_skeletons v.coord.front) x) d) result refused c' e is_err still
        (λ failed none.
        subst (λ (y : CoordError). Answers v.limits rose (logged_table v) (end_request d x) (reply.No (coord_refusal y)) (table_of u)) (sym failed)
        (subst (λ (c : CoordView). Answers v.limits rose (logged_table v) (end_request d x) (reply.No (coord_refusal coord_error.Fault)) (table_of (with_coord v c))) (sym (fault (is_err ∙ ap (λ y. Err y) failed)))
        (coord_fails v is whole tied v.limits rose (end_request d x) (early_end v.limits v x d own) (stays_for d) (decision_entry x d) (decision_fits x d fits) (end_row v.limits v x d ∙ ap (option_map coord_refusal) none)
        (subst (λ (k : ℕ). RoseFor f g fs gs k) (ap (λ key. key.part) is.coord.key) (cause.failed (is_err ∙ ap (λ y. Err y) failed)))
        (λ fails. end_succeeds v.limits rose (logged_table v) x d (reply.No (coord_refusal coord_error.Fault)) (table_of (with_coord v (with_failed_entry v.coord (decision_entry x d))))
        (inr (subst (λ (b : EntryBatch). AppendFails rose b (logged_table v) (reply.No (coord_refusal coord_error.Fault)) (table_of (with_coord v (with_failed_entry v.coord (decision_entry x d))))) (sym (batch_open v x d (is_open_now e is_err none (is_open (status_in_view v.coord x)) refl))) fails))))))))

    pub decided_granted : (s : Status) → result ≡ Ok s → IsGranted v.limits (table_of v) (end_request d x)
    decided_granted s is_ok =
        subst (λ (t : TableState). IsGranted v.limits t (end_request d x)) (sym (table_is v is whole tied))
        (record {
          early = early_end v.limits v x d own;
          whole = stays_for d;
          late = end_row v.limits v x d ∙ ap (option_map coord_refusal) (no_refusal s is_ok);
        })

  -- ---- How it goes on.

  module _ {D : Type 0} (on : Ghosts D) (old new : D) (backed : IsBacked (on.image old) v)
      (idle : is_open (status_in_view v.coord x) ≡ false → new ≡ old) (unwritten : IfErr result (λ e. (e ≡ coord_error.Fault → ⊥) → new ≡ old)) (tie : coordinator.IsFrontOf v.coord → coordinator.IsFrontOf c') (here : Stored (on.image new) c'.content)
      (since : After on (Appends IsFile StandsIn v.coord.content (coord_batch (decision_entry x d))) old new) (others : Elsewhere v.coord.content.key (on.seen old) (on.seen new)) (cause : FaultsIn on v.coord.content.key.part old new (result ≡ Err coord_error.Fault)) where
    allowed_open : is_open (status_in_view v.coord x) ≡ true → IsTied v → Lawful (world_of v) → IsAllowed (in_coord (decision_entry x d)) (world_of v)
    allowed_open still_open tied lawful =
        let same_world : world_of v ≡ logged_world v = world_is v is whole tied in
        subst (IsAllowed (in_coord (decision_entry x d))) (sym same_world)
        (subst (λ (b : EntryBatch). IsAllowed b (logged_world v)) (batch_open v x d still_open) (decision_granted (logged_table v) x d (subst Lawful same_world lawful)).allowed)

    open_by : (e : CoordError) → result ≡ Err e → decide_refusal v.coord x d ≡ None → (b : Bool) → is_open (status_in_view v.coord x) ≡ b → is_open (status_in_view v.coord x) ≡ true
    open_by e is_err none true still_open = still_open
    open_by e is_err none false shut = absurd (err_not_ok result e is_err (repeated none shut))

    pub decided_ok_goes : (s : Status) → result ≡ Ok s → c' ≡ decided v.coord x d → EngineGoesOn on (result ≡ Err coord_error.Fault) v u old new
    decided_ok_goes s is_ok e = by_test (is_open (status_in_view v.coord x)) refl
      where
        never : result ≡ Err coord_error.Fault → ⊥
        never h = ok_not_err result s coord_error.Fault is_ok h

        by_test : (b : Bool) → is_open (status_in_view v.coord x) ≡ b → EngineGoesOn on (result ≡ Err coord_error.Fault) v u old new
        by_test true still_open =
            coord_goes on v is old new backed (result ≡ Err coord_error.Fault) (result ≡ Err coord_error.Fault) (decision_entry x d) u whole (decision_fits x d fits) (allowed_open still_open) refl refl
            (inl (decided_whole s is_ok e)) (inl (table_grown v is (decision_entry x d) (decision_fits x d fits) whole c' v.coord.reserved (e ∙ decided_open v.coord x d still_open))) tie here since others cause (λ h. h)
        by_test false shut = still_goes on v is whole old new backed (result ≡ Err coord_error.Fault) never c' (e ∙ decided_shut v.coord x d shut) (idle shut)

    pub decided_err_goes : (e : CoordError) → result ≡ Err e → ((e ≡ coord_error.Fault → ⊥) → c' ≡ v.coord) → ((e ≡ coord_error.Fault → ⊥) → new ≡ old) → EngineGoesOn on (result ≡ Err coord_error.Fault) v u old new
    decided_err_goes e is_err still quiet =
        goes_like on (is_fault (reply.No (coord_refusal e)) ≡ true) (result ≡ Err coord_error.Fault) v u old new
        (λ h. is_err ∙ ap (λ y. Err y) (fault_refusal e h)) (λ h. subst (λ (y : CoordError). is_fault (reply.No (coord_refusal y)) ≡ true) (sym (same_err result e coord_error.Fault is_err h)) refl)
        (error_goes on v is whole old new backed (decide_refusal v.coord x d) (no_fault_decide (status_of (coord_skeletons v.coord.front) x) d) result refused (decision_entry x d) (decision_fits x d fits)
        (λ none. allowed_open (open_by e is_err none (is_open (status_in_view v.coord x)) refl)) c' fault tie here since others cause e is_err still quiet)

-- ---- The clauses, over an equal view.

module _ (v : EngineView) (is : IsEngine v) (w : EngineView) (view : v ≡ w) (whole' : IsTrue w.coord.whole) (x : TxnId) (d : Decision) (fits : IsTxnId x) (result : Result Status CoordError) (c' : CoordView)
    (refused : MatchOption (decide_refusal v.coord x d) (MayFail result) (λ y. result ≡ Err y)) (repeated : decide_refusal v.coord x d ≡ None → is_open (status_in_view v.coord x) ≡ false → IsOk result)
    (now : OnOk result (c' ≡ decided v.coord x d)) (fault : result ≡ Err coord_error.Fault → c' ≡ with_failed_entry v.coord (decision_entry x d)) (same : IfErr result (λ e. (e ≡ coord_error.Fault → ⊥) → c' ≡ v.coord)) where
  whole_here : IsTrue v.coord.whole
  whole_here = subst (λ (z : EngineView). IsTrue z.coord.whole) (sym view) whole'

  grown : (s : Status) → result ≡ Ok s → c' ≡ decided v.coord x d
  grown s is_ok = from_ok result (c' ≡ decided v.coord x d) s is_ok now

  still : (e : CoordError) → result ≡ Err e → (e ≡ coord_error.Fault → ⊥) → c' ≡ v.coord
  still e is_err = from_err result (λ e. (e ≡ coord_error.Fault → ⊥) → c' ≡ v.coord) e is_err same

  pub engine_clause : IsEngine (with_coord v c')
  engine_clause =
      by_result result (IsEngine (with_coord v c')) (λ s is_ok. decided_engine v is whole_here x d fits result c' refused repeated now fault same s is_ok (grown s is_ok))
      (λ e is_err. engine_with v is c' (kept_by v is c' (decision_entry x d) e (λ f. fault (is_err ∙ ap (λ y. Err y) f)) (still e is_err)) v.latest is.latest)

  pub decided_clause : OnOk result (decision_of (coord_skeletons c'.front) x ≡ Some d)
  decided_clause = on_ok result (decision_of (coord_skeletons c'.front) x ≡ Some d) (λ s is_ok. decided_now v is whole_here x d fits result c' refused repeated now fault same s is_ok (grown s is_ok))

  pub whole_clause : OnOk result (IsTrue c'.whole)
  whole_clause = on_ok result (IsTrue c'.whole) (λ s is_ok. decided_whole v is whole_here x d fits result c' refused repeated now fault same s is_ok (grown s is_ok))

  pub ready_clause : IsReady x w → OnOk result (IsReady x (with_coord v c'))
  ready_clause ready = on_ok result (IsReady x (with_coord v c')) (λ s is_ok. ready_still v is whole_here x d fits result c' refused repeated now fault same s is_ok (grown s is_ok) (subst (IsReady x) (sym view) ready))

  module _ (own : x.most ≡ 0) (tied' : IsTied w) where
    own_here : (x.most == 0) ≡ true
    own_here = is_zero x.most own
      where
        is_zero : (k : ℕ) → k ≡ 0 → (k == 0) ≡ true
        is_zero k e = grind (arith, nat_tests, e)

    tied_here : IsTied v
    tied_here = subst IsTied (sym view) tied'

    pub granted_clause : OnOk result (IsGranted w.limits (table_of w) (end_request d x))
    granted_clause =
        on_ok result (IsGranted w.limits (table_of w) (end_request d x))
        (λ s is_ok. subst (λ (z : EngineView). IsGranted z.limits (table_of z) (end_request d x)) view
        (decided_granted v is whole_here x d fits result c' refused repeated now fault same own_here tied_here 0 0 (λ p. 0) (λ p. 0) 0 s is_ok))

    pub settled_clause : OnOk result (table_of (with_coord v c') ≡ with_batch (decision_batch (table_of w) x d) (table_of w))
    settled_clause =
        on_ok result (table_of (with_coord v c') ≡ with_batch (decision_batch (table_of w) x d) (table_of w))
        (λ s is_ok. subst (λ (z : EngineView). table_of (with_coord v c') ≡ with_batch (decision_batch (table_of z) x d) (table_of z)) view
        (decided_table v is whole_here x d fits result c' refused repeated now fault same s is_ok (grown s is_ok) tied_here))

    pub refused_clause : (f g : ℕ) (fs gs : ℕ → ℕ) → CountsFaults v.coord.content.key.part f g fs gs (result ≡ Err coord_error.Fault) → IfErr result (λ e. (m : ℕ) → MayTell f g fs gs w (end_request d x) m (reply.No (coord_refusal e)) (with_coord v c'))
    refused_clause f g fs gs cause =
        if_err result (λ e. (m : ℕ) → MayTell f g fs gs w (end_request d x) m (reply.No (coord_refusal e)) (with_coord v c'))
        (λ e is_err m. subst (λ (z : EngineView). MayTell f g fs gs z (end_request d x) m (reply.No (coord_refusal e)) (with_coord v c')) view
        (refused_told v is whole_here x d fits result c' refused repeated now fault same own_here tied_here f g fs gs m e is_err (still e is_err) cause))

  module _ {D : Type 0} (on : Ghosts D) (old new : D) (backed' : IsBacked (on.image old) w) where
    pub goes_clause : (idle : is_open (status_in_view v.coord x) ≡ false → new ≡ old) (unwritten : IfErr result (λ e. (e ≡ coord_error.Fault → ⊥) → new ≡ old)) (tie : coordinator.IsFrontOf v.coord → coordinator.IsFrontOf c') (here : Stored (on.image new) c'.content)
        (since : After on (Appends IsFile StandsIn v.coord.content (coord_batch (decision_entry x d))) old new) (others : Elsewhere v.coord.content.key (on.seen old) (on.seen new)) (cause : FaultsIn on v.coord.content.key.part old new (result ≡ Err coord_error.Fault))
        → EngineGoesOn on (result ≡ Err coord_error.Fault) w (with_coord v c') old new
    goes_clause idle unwritten tie here since others cause =
        let backed : IsBacked (on.image old) v = subst (IsBacked (on.image old)) (sym view) backed' in
        subst (λ (z : EngineView). EngineGoesOn on (result ≡ Err coord_error.Fault) z (with_coord v c') old new) view
        (by_result result (EngineGoesOn on (result ≡ Err coord_error.Fault) v (with_coord v c') old new)
        (λ s is_ok. decided_ok_goes v is whole_here x d fits result c' refused repeated now fault same on old new backed idle unwritten tie here since others cause s is_ok (grown s is_ok))
        (λ e is_err. decided_err_goes v is whole_here x d fits result c' refused repeated now fault same on old new backed idle unwritten tie here since others cause e is_err (still e is_err)
        (from_err result (λ e. (e ≡ coord_error.Fault → ⊥) → new ≡ old) e is_err unwritten)))
