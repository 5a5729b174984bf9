-- What an engine tells of a transaction that is begun, of a part that is added, and of a status.
use Rattle.std.proofs.Common.{◌≡◌, ◌⊎◌, inl, inr, ℕ, ◌+◌, ◌<◌, ◌≤◌, ◌^◌, min, max, ◌==◌, Bool, true, false, if◌then◌else◌, List, length, Option, Some, None, Result, Ok, Err, IfOk, IfErr, OnOk, IsOk, MatchOption, IsTrue, option_map, refl, sym, ap, ◌∙◌, subst, arith, unwrap_or}
use Rattle.std.specs.Option.{option_or}
use Rattle.std.proofs.lemmas.Bool.Decides.{nat_tests}
use Rattle.txn_base.specs.declared.entry.CoordEntry.{CoordEntry}
use Rattle.txn_base.specs.declared.entry.CoordEntry.TheVariants as coord
use Rattle.txn_base.specs.declared.file_id.FileId.{FileId}
use Rattle.txn_base.specs.declared.limits.Limits.{Limits}
use Rattle.txn_base.specs.declared.request.Request.{Request}
use Rattle.txn_base.specs.declared.request.Request.TheVariants as request
use Rattle.txn_base.specs.declared.reply.Reply.{Reply}
use Rattle.txn_base.specs.declared.reply.Reply.TheVariants as reply
use Rattle.txn_base.specs.declared.reply.Refusal.{Refusal}
use Rattle.txn_base.specs.declared.reply.Refusal.TheVariants as no
use Rattle.txn_base.specs.declared.reply.What.TheVariants.{Transactions, Log}
use Rattle.txn_base.specs.declared.txn.TxnId.{TxnId}
use Rattle.txn_base.specs.declared.txn.Status.{Status}
use Rattle.txn_base.specs.declared.txn.Status.TheVariants.{Open, Committing, Committed, Aborting, Aborted}
use Rattle.txn_base.specs.Disk.{CountsFaults}
use Rattle.txn_base.specs.Outside.{Rose}
use Rattle.txn_base.specs.Records.{IsCoordEntry}
use Rattle.txn_coordinator.specs.declared.error.CoordError.{CoordError}
use Rattle.txn_coordinator.specs.declared.error.CoordError.TheVariants as coord_error
use Rattle.txn_coordinator.specs.Calls.{MayFail, refused_full, begin_refusal, add_refusal, add_refusal_at, has_part, with_part, next_txn, log_refusal}
use Rattle.txn_coordinator.specs.View as coordinator
use Rattle.txn_coordinator.specs.View.{CoordView, with_entry, with_failed_entry}
use Rattle.txn_model.specs.Answers.{Answers, AnswersAt, Succeeds, AppendFails, uses}
use Rattle.txn_model.specs.Coord.{status_of, in_parts, count_new}
use Rattle.txn_model.specs.Drive.{RebuildsAll}
use Rattle.txn_model.specs.EarlyRows.{early_refusal, is_bad_timeout}
use Rattle.txn_model.specs.Full.{full_transactions, full_log}
use Rattle.txn_model.specs.LateRows.{late_refusal}
use Rattle.txn_model.specs.Names.{part_of}
use Rattle.txn_model.specs.Requests.{number_of}
use Rattle.txn_model.specs.Skeletons.{coord_skeletons}
use Rattle.txn_model.specs.Sound.{ledger_file}
use Rattle.txn_model.specs.Table.{TableState, EntryBatch, nothing, in_coord, with_batch, with_failed_batch}
use Rattle.txn_wire.specs.Short.{is_long}
use Rattle.txn_engine.specs.Kept.{IsEngine, IsCoordinator}
use Rattle.txn_engine.specs.Refusals.{coord_refusal, begun_reply, added_reply}
use Rattle.txn_engine.specs.Table.{world_of, table_of}
use Rattle.txn_engine.specs.Told.{MayTell, RoseFor, IsTellable}
use Rattle.txn_engine.specs.View.{EngineView, IsTied, with_coord}
use Rattle.txn_engine.proofs.Coordinators.{refusal_is, not_refused, logged_is, failed_is, engine_with, new_allowed, add_allowed}
use Rattle.txn_engine.proofs.Rows.{refused_early, refused_late, granted_here, memory_here, log_stays, early_new, bad_new, begin_row, unknown_add, foreign_add, early_add, add_row, add_number, foreign_status, early_status, no_status, late_status}
use Rattle.txn_engine.proofs.TopicNames.{coordinator_name}
use Rattle.txn_engine.proofs.Logged.{logged_world, logged_table, table_is, told_from}
use Rattle.txn_engine.proofs.Tables.{table_grown, table_failed}

-- a reply whose text isn't long
pub short_told : (f g : ℕ) (fs gs : ℕ → ℕ) (v : EngineView) (r : Request) (m : ℕ) (told : Reply) (v' : EngineView) → is_long told ≡ false → AnswersAt v.limits (RoseFor f g fs gs) (table_of v) r m told (table_of v') → MayTell f g fs gs v r m told v'
short_told f g fs gs v r m told v' short answers = record { answers = answers; instead = λ long. absurd (never (is_long told) long short) }
  where
    never : (b : Bool) → b ≡ true → b ≡ false → ⊥
    never b p q = cc

-- a refusal that leaves an engine as it was
module _ (v : EngineView) (limits : Limits) (rose : ℕ → Type 0) where
  pub row_told : (r : Request) (row : Refusal) → early_refusal limits (world_of v) r ≡ Some row → Answers limits rose (table_of v) r (reply.No row) (table_of v)
  row_told r row e = refused_early limits rose (table_of v) r row e

  pub memory_told : (r : Request) → Answers limits rose (table_of v) r (reply.No no.NoMemory) (table_of v)
  memory_told r = memory_here limits rose (table_of v) r

-- what the coordinator refuses, and where it fails
module _ (v : EngineView) (is : IsEngine v) (whole : IsTrue v.coord.whole) (tied : IsTied v) (limits : Limits) (rose : ℕ → Type 0) (r : Request) (early : early_refusal limits (logged_world v) r ≡ None) (used : RebuildsAll (uses (logged_world v) r) (logged_table v) (logged_table v)) where
  pub late_told : (row : Refusal) → late_refusal limits (logged_table v) r ≡ Some row → Answers limits rose (table_of v) r (reply.No row) (table_of v)
  late_told row l = subst (λ (t : TableState). Answers limits rose t r (reply.No row) t) (sym (table_is v is whole tied)) (refused_late limits rose (logged_table v) r early used row l)

  module _ {A : Type 0} (o : Option CoordError) (row : late_refusal limits (logged_table v) r ≡ option_map coord_refusal o)
      (no_fault : o ≡ Some coord_error.Fault → ⊥) (result : Result A CoordError) (refused : MatchOption o (MayFail result) (λ x. result ≡ Err x)) (c' : CoordView) where
    pub error_told : (e : CoordError) → result ≡ Err e → ((e ≡ coord_error.Fault → ⊥) → c' ≡ v.coord) → (e ≡ coord_error.Fault → o ≡ None → Answers limits rose (logged_table v) r (reply.No (coord_refusal e)) (table_of (with_coord v c')))
        → Answers limits rose (table_of v) r (reply.No (coord_refusal e)) (table_of (with_coord v c'))
    error_told e is_err same fails = by_case (refusal_is o result e is_err refused)
      where
        here : c' ≡ v.coord → Answers limits rose (table_of v) r (reply.No (coord_refusal e)) (table_of v) → Answers limits rose (table_of v) r (reply.No (coord_refusal e)) (table_of (with_coord v c'))
        here eq h = subst (λ (c : CoordView). Answers limits rose (table_of v) r (reply.No (coord_refusal e)) (table_of (with_coord v c))) (sym eq) h

        other : e ≡ coord_error.NoMemory → e ≡ coord_error.Fault → ⊥
        other p q = cc

        by_case : (o ≡ Some e) ⊎ ((o ≡ None) × ((e ≡ coord_error.Fault) ⊎ (e ≡ coord_error.NoMemory))) → Answers limits rose (table_of v) r (reply.No (coord_refusal e)) (table_of (with_coord v c'))
        by_case (inl some) = here (same (λ f. no_fault (some ∙ ap (λ x. Some x) f))) (late_told (coord_refusal e) (row ∙ ap (option_map coord_refusal) some))
        by_case (inr (none, inl fault)) = told_from v is whole tied limits rose r (reply.No (coord_refusal e)) (table_of (with_coord v c')) (fails fault none)
        by_case (inr (none, inr memory)) = here (same (other memory)) (subst (λ x. Answers limits rose (table_of v) r (reply.No (coord_refusal x)) (table_of v)) (sym memory) (memory_told v limits rose r))

  -- an append of the coordinator that failed
  pub coord_fails : (e : CoordEntry) → IsCoordEntry e → late_refusal limits (logged_table v) r ≡ None → rose 0
      → (AppendFails rose (in_coord e) (logged_table v) (reply.No (coord_refusal coord_error.Fault)) (table_of (with_coord v (with_failed_entry v.coord e))) → Succeeds limits rose (logged_table v) r (reply.No (coord_refusal coord_error.Fault)) (table_of (with_coord v (with_failed_entry v.coord e))))
      → Answers limits rose (logged_table v) r (reply.No (coord_refusal coord_error.Fault)) (table_of (with_coord v (with_failed_entry v.coord e)))
  coord_fails e fits late cause succeeds =
      granted_here limits rose (logged_table v) r early used (reply.No (coord_refusal coord_error.Fault)) (table_of (with_coord v (with_failed_entry v.coord e))) late
      (succeeds (0, refl, cause, refl, table_failed v is e fits whole (with_failed_entry v.coord e) refl ∙ ap (with_failed_batch (in_coord e) 0) (table_is v is whole tied)))

-- ---- A new transaction.

no_fault_full : (a b : Option ℕ) → option_or (refused_full Transactions a) (refused_full Log b) ≡ Some coord_error.Fault → ⊥
no_fault_full None None e = cc
no_fault_full None (Some n) e = cc
no_fault_full (Some n) b e = cc

pub no_fault_begin : (v : CoordView) (timeout : ℕ) → is_bad_timeout timeout ≡ false → begin_refusal v timeout ≡ Some coord_error.Fault → ⊥
no_fault_begin v timeout ok e = no_fault_full (full_transactions v.limits v.opened_low (coord_skeletons v.front)) (full_log v.limits (coordinator.coord_total v) 1) (sym (rw ok refl) ∙ e)

rose_at : (key : FileId) (f g : ℕ) (fs gs : ℕ → ℕ) → key ≡ ledger_file 0 → Rose f g × Rose (fs key.part) (gs key.part) → RoseFor f g fs gs 0
rose_at key f g fs gs e rose = subst (λ (k : FileId). Rose f g × Rose (fs k.part) (gs k.part)) e rose

module _ (u : EngineView) (is : IsEngine u) (whole : IsTrue u.coord.whole) (tied : IsTied u) (f g : ℕ) (fs gs : ℕ → ℕ) (timeout : ℕ) (ok : is_bad_timeout timeout ≡ false) where
  abbrev rose : ℕ → Type 0
  rose = RoseFor f g fs gs

  abbrev entry : CoordEntry
  entry = coord.New (next_txn u.coord) (u.latest + timeout)

  free : early_refusal u.limits (logged_world u) (request.New timeout) ≡ None
  free = early_new u.limits u timeout ok

  pub begun_told : (result : Result TxnId CoordError) (c' : CoordView) → IsCoordEntry entry → MatchOption (begin_refusal u.coord timeout) (MayFail result) (λ x. result ≡ Err x) → IfOk result (λ x. x ≡ next_txn u.coord) → OnOk result (c' ≡ with_entry u.coord entry)
      → (result ≡ Err coord_error.Fault → c' ≡ with_failed_entry u.coord entry) → IfErr result (λ e. (e ≡ coord_error.Fault → ⊥) → c' ≡ u.coord) → CountsFaults u.coord.content.key.part f g fs gs (result ≡ Err coord_error.Fault)
      → Answers u.limits rose (table_of u) (request.New timeout) (begun_reply result) (table_of (with_coord u c'))
  begun_told (Ok x) c' fits refused told now fault same cause =
      let late : late_refusal u.limits (logged_table u) (request.New timeout) ≡ None = begin_row u is whole timeout ok ∙ ap (option_map coord_refusal) (not_refused (begin_refusal u.coord timeout) (Ok x) x refl refused) in
      told_from u is whole tied u.limits rose (request.New timeout) (reply.New x) (table_of (with_coord u c'))
      (granted_here u.limits rose (logged_table u) (request.New timeout) free (log_stays u) (reply.New x) (table_of (with_coord u c')) late
      (inl (ap (λ (y : TxnId). reply.New y) told, table_grown u is entry fits whole c' u.coord.reserved now ∙ ap (with_batch (in_coord entry)) (table_is u is whole tied))))
  begun_told (Err e) c' fits refused told now fault same cause =
      error_told u is whole tied u.limits rose (request.New timeout) free (log_stays u) (begin_refusal u.coord timeout) (begin_row u is whole timeout ok) (no_fault_begin u.coord timeout ok) (Err e) refused c' e refl same
      (λ failed none.
      subst (λ (x : CoordError). Answers u.limits rose (logged_table u) (request.New timeout) (reply.No (coord_refusal x)) (table_of (with_coord u c'))) (sym failed)
      (subst (λ (c : CoordView). Answers u.limits rose (logged_table u) (request.New timeout) (reply.No (coord_refusal coord_error.Fault)) (table_of (with_coord u c))) (sym (fault (ap (λ x. Err x) failed)))
      (coord_fails u is whole tied u.limits rose (request.New timeout) free (log_stays u) entry fits (begin_row u is whole timeout ok ∙ ap (option_map coord_refusal) none)
      (rose_at u.coord.content.key f g fs gs is.coord.key (cause.failed (ap (λ x. Err x) failed))) (λ fails. inr fails))))

-- ---- A part more.

pub no_fault_add : (s : Option Status) (has : Bool) (a : Option ℕ) → add_refusal_at s has (refused_full Log a) ≡ Some coord_error.Fault → ⊥
no_fault_add None has a e = cc
no_fault_add (Some Open) true a e = cc
no_fault_add (Some Open) false None e = cc
no_fault_add (Some Open) false (Some n) e = cc
no_fault_add (Some Committing) has a e = cc
no_fault_add (Some Committed) has a e = cc
no_fault_add (Some Aborting) has a e = cc
no_fault_add (Some Aborted) has a e = cc

pub not_ok : (r : Result (Unit {0}) CoordError) (e : CoordError) → r ≡ Err e → IsOk r → ⊥
not_ok (Ok u) e is ok = cc
not_ok (Err x) e is ok = cc

-- The batch of its row, for the part of the number q.
abbrev pub add_batch : EngineView → TxnId → ℕ → EntryBatch
add_batch v x q = if in_parts (coord_skeletons v.coord.front) x q then nothing else in_coord (coord.AddPart x q)

module _ (v : EngineView) (x : TxnId) (part : List ℕ) (p : ℕ) (known : part_of v.names part ≡ Some p) where
  number : number_of (world_of v) part ≡ p
  number = add_number v.limits v x part p known

  pub batch_none : has_part v.coord x p ≡ true → add_batch v x (number_of (world_of v) part) ≡ nothing
  batch_none has = ap (add_batch v x) number ∙ rw has refl

  pub batch_one : has_part v.coord x p ≡ false → add_batch v x (number_of (world_of v) part) ≡ in_coord (coord.AddPart x p)
  batch_one has = ap (add_batch v x) number ∙ rw has refl

module _ (v : EngineView) (is : IsEngine v) (whole : IsTrue v.coord.whole) (tied : IsTied v) (f g : ℕ) (fs gs : ℕ → ℕ) (x : TxnId) (part : List ℕ) (p : ℕ) (known : part_of v.names part ≡ Some p) (own : (x.most == 0) ≡ true) where
  abbrev rose_add : ℕ → Type 0
  rose_add = RoseFor f g fs gs

  abbrev added_entry : CoordEntry
  added_entry = coord.AddPart x p

  abbrev r : Request
  r = request.Add x part

  free_add : early_refusal v.limits (logged_world v) r ≡ None
  free_add = early_add v.limits v x part p known own

  pub added_told : (result : Result (Unit {0}) CoordError) (c' : CoordView) → IsCoordEntry added_entry → MatchOption (add_refusal v.coord x p) (MayFail result) (λ y. result ≡ Err y) → (add_refusal v.coord x p ≡ None → has_part v.coord x p ≡ true → IsOk result) → OnOk result (c' ≡ with_part v.coord x p)
      → (result ≡ Err coord_error.Fault → c' ≡ with_failed_entry v.coord added_entry) → IfErr result (λ e. (e ≡ coord_error.Fault → ⊥) → c' ≡ v.coord) → CountsFaults v.coord.content.key.part f g fs gs (result ≡ Err coord_error.Fault)
      → Answers v.limits rose_add (table_of v) r (added_reply result) (table_of (with_coord v c'))
  added_told (Ok u) c' fits refused repeated now fault same cause = by_part (has_part v.coord x p) refl
    where
      late : late_refusal v.limits (logged_table v) r ≡ None
      late = add_row v is whole x part p known ∙ ap (option_map coord_refusal) (not_refused (add_refusal v.coord x p) (Ok u) u refl refused)

      told : (b : EntryBatch) → add_batch v x (number_of (world_of v) part) ≡ b → table_of (with_coord v c') ≡ with_batch b (table_of v) → Answers v.limits rose_add (table_of v) r reply.Add (table_of (with_coord v c'))
      told b row after =
          let back : b ≡ add_batch v x (number_of (world_of v) part) = sym row in
          told_from v is whole tied v.limits rose_add r reply.Add (table_of (with_coord v c'))
          (granted_here v.limits rose_add (logged_table v) r free_add (log_stays v) reply.Add (table_of (with_coord v c')) late
          (inl (refl, after ∙ ap (with_batch b) (table_is v is whole tied) ∙ ap (λ (y : EntryBatch). with_batch y (logged_table v)) back)))

      kept : has_part v.coord x p ≡ true → with_part v.coord x p ≡ v.coord
      kept has = rw has refl

      grown : has_part v.coord x p ≡ false → with_part v.coord x p ≡ with_entry v.coord added_entry
      grown has = rw has refl

      by_part : (b : Bool) → has_part v.coord x p ≡ b → Answers v.limits rose_add (table_of v) r reply.Add (table_of (with_coord v c'))
      by_part true has = told nothing (batch_none v x part p known has) (ap (λ (c : CoordView). table_of (with_coord v c)) (now ∙ kept has))
      by_part false has = told (in_coord added_entry) (batch_one v x part p known has) (table_grown v is added_entry fits whole c' v.coord.reserved (now ∙ grown has))
  added_told (Err e) c' fits refused repeated now fault same cause =
      error_told v is whole tied v.limits rose_add r free_add (log_stays v) (add_refusal v.coord x p) (add_row v is whole x part p known)
      (no_fault_add (status_of (coord_skeletons v.coord.front) x) (has_part v.coord x p) (full_log v.coord.limits (coordinator.coord_total v.coord) 1)) (Err e) refused c' e refl same
      (λ failed none.
      subst (λ (y : CoordError). Answers v.limits rose_add (logged_table v) r (reply.No (coord_refusal y)) (table_of (with_coord v c'))) (sym failed)
      (subst (λ (c : CoordView). Answers v.limits rose_add (logged_table v) r (reply.No (coord_refusal coord_error.Fault)) (table_of (with_coord v c))) (sym (fault (ap (λ y. Err y) failed)))
      (coord_fails v is whole tied v.limits rose_add r free_add (log_stays v) added_entry fits (add_row v is whole x part p known ∙ ap (option_map coord_refusal) none)
      (rose_at v.coord.content.key f g fs gs is.coord.key (cause.failed (ap (λ y. Err y) failed)))
      (λ fails. inr (subst (λ (b : EntryBatch). AppendFails rose_add b (logged_table v) (reply.No (coord_refusal coord_error.Fault)) (table_of (with_coord v (with_failed_entry v.coord added_entry)))) (sym (batch_one v x part p known (fresh (has_part v.coord x p) refl none))) fails)))))
    where
      fresh : (b : Bool) → has_part v.coord x p ≡ b → add_refusal v.coord x p ≡ None → has_part v.coord x p ≡ false
      fresh true has none = absurd (not_ok (Err e) e refl (repeated none has))
      fresh false has none = has

-- ---- The status of a transaction.

module _ (v : EngineView) (f g : ℕ) (fs gs : ℕ → ℕ) (m : ℕ) (x : TxnId) where
  abbrev of_status : Request
  of_status = request.Status x

  pub foreign_status_told : (x.most == 0) ≡ false → MayTell f g fs gs v of_status m (reply.No (no.UnknownCoordinator x.most)) v
  foreign_status_told other = short_told f g fs gs v of_status m (reply.No (no.UnknownCoordinator x.most)) v refl (row_told v v.limits (RoseFor f g fs gs) of_status (no.UnknownCoordinator x.most) (foreign_status v.limits v x other))

  module _ (is : IsEngine v) (whole : IsTrue v.coord.whole) (tied : IsTied v) (own : (x.most == 0) ≡ true) where
    pub not_found_told : status_of (coord_skeletons v.coord.front) x ≡ None → MayTell f g fs gs v of_status m (reply.No no.NotFound) v
    not_found_told e =
        short_told f g fs gs v of_status m (reply.No no.NotFound) v refl
        (late_told v is whole tied v.limits (RoseFor f g fs gs) of_status (early_status v.limits v x own) (log_stays v) no.NotFound (no_status v.limits v x e))

    pub status_told : (s : Status) → status_of (coord_skeletons v.coord.front) x ≡ Some s → MayTell f g fs gs v of_status m (reply.Status s) v
    status_told s e =
        short_told f g fs gs v of_status m (reply.Status s) v refl
        (subst (λ (t : TableState). Answers v.limits (RoseFor f g fs gs) t of_status (reply.Status s) t) (sym (table_is v is whole tied))
        (granted_here v.limits (RoseFor f g fs gs) (logged_table v) of_status (early_status v.limits v x own) (log_stays v) (reply.Status s) (logged_table v) (late_status v.limits v x s e) (inl (ap (λ (o : Option Status). reply.Status (unwrap_or o Open)) (sym e), refl))))

-- ---- From the fields of an engine.

-- at a later moment
abbrev pub moved_to : EngineView → ℕ → EngineView
moved_to v latest = record { names = v.names; coord = v.coord; topics = v.topics; latest = latest; limits = v.limits }

pub new_told : (v : EngineView) (rose : ℕ → Type 0) (latest now timeout : ℕ) (told : Reply) (t' : TableState) → latest ≡ max v.latest (min now (2 ^ 62)) → Answers v.limits rose (table_of (moved_to v latest)) (request.New timeout) told t' → AnswersAt v.limits rose (table_of v) (request.New timeout) now told t'
new_told v rose latest now timeout told t' e h = subst (λ (l : ℕ). Answers v.limits rose (table_of (moved_to v l)) (request.New timeout) told t') e h

pub moved_is : (v : EngineView) (latest now : ℕ) → IsEngine v → latest ≡ max v.latest (min now (2 ^ 62)) → IsEngine (moved_to v latest)
moved_is v latest now is e = record { range = is.range; names = is.names; topic_names = is.topic_names; coord = is.coord; topics = is.topics; count = is.count; latest = few v.latest now latest is.latest e }
  where
    few : (a n l : ℕ) → a ≤ 2 ^ 62 → l ≡ max a (min n (2 ^ 62)) → l ≤ 2 ^ 62
    few a n l h e = grind (arith, h, e)

short_refusal : (e : CoordError) → is_long (reply.No (coord_refusal e)) ≡ false
short_refusal coord_error.NotFound = refl
short_refusal (coord_error.NotOpen status) = refl
short_refusal coord_error.BadTimeout = refl
short_refusal (coord_error.Full what count) = refl
short_refusal coord_error.Fault = refl
short_refusal coord_error.NoMemory = refl

pub begun_short : (r : Result TxnId CoordError) → is_long (begun_reply r) ≡ false
begun_short (Ok x) = refl
begun_short (Err e) = short_refusal e

pub added_short : (r : Result (Unit {0}) CoordError) → is_long (added_reply r) ≡ false
added_short (Ok u) = refl
added_short (Err e) = short_refusal e

-- by an error
pub kept_by : (v : EngineView) → IsEngine v → (c' : CoordView) (entry : CoordEntry) (e : CoordError) → (e ≡ coord_error.Fault → c' ≡ with_failed_entry v.coord entry) → ((e ≡ coord_error.Fault → ⊥) → c' ≡ v.coord) → IsCoordinator v.limits (length v.names) c'
kept_by v is c' entry coord_error.Fault fault same = subst (IsCoordinator v.limits (length v.names)) (sym (fault refl)) (failed_is v.limits (length v.names) v.coord entry is.coord)
kept_by v is c' entry coord_error.NotFound fault same = subst (IsCoordinator v.limits (length v.names)) (sym (same (λ f. cc))) is.coord
kept_by v is c' entry (coord_error.NotOpen status) fault same = subst (IsCoordinator v.limits (length v.names)) (sym (same (λ f. cc))) is.coord
kept_by v is c' entry coord_error.BadTimeout fault same = subst (IsCoordinator v.limits (length v.names)) (sym (same (λ f. cc))) is.coord
kept_by v is c' entry (coord_error.Full what count) fault same = subst (IsCoordinator v.limits (length v.names)) (sym (same (λ f. cc))) is.coord
kept_by v is c' entry coord_error.NoMemory fault same = subst (IsCoordinator v.limits (length v.names)) (sym (same (λ f. cc))) is.coord

pub tellable_refusal : (e : CoordError) → IsTellable (reply.No (coord_refusal e))
tellable_refusal coord_error.NotFound short = tt
tellable_refusal (coord_error.NotOpen status) short = tt
tellable_refusal coord_error.BadTimeout short = tt
tellable_refusal (coord_error.Full what count) short = tt
tellable_refusal coord_error.Fault short = coordinator_name
tellable_refusal coord_error.NoMemory short = tt

pub begun_tellable : (r : Result TxnId CoordError) → IsTellable (begun_reply r)
begun_tellable (Ok x) short = tt
begun_tellable (Err e) short = tellable_refusal e short

pub added_tellable : (r : Result (Unit {0}) CoordError) → IsTellable (added_reply r)
added_tellable (Ok u) short = tt
added_tellable (Err e) short = tellable_refusal e short

-- ---- What is kept of the coordinator.

pub begun_kept : (u : EngineView) → IsEngine u → IsTrue u.coord.whole → (timeout : ℕ) (r : Result TxnId CoordError) (c' : CoordView) → OnOk r (c' ≡ with_entry u.coord (coord.New (next_txn u.coord) (u.latest + timeout)))
    → (r ≡ Err coord_error.Fault → c' ≡ with_failed_entry u.coord (coord.New (next_txn u.coord) (u.latest + timeout))) → IfErr r (λ e. (e ≡ coord_error.Fault → ⊥) → c' ≡ u.coord) → IsCoordinator u.limits (length u.names) c'
begun_kept u is whole timeout (Ok x) c' now fault same =
    subst (IsCoordinator u.limits (length u.names)) (sym now)
    (logged_is u.limits (length u.names) u.coord (coord.New (next_txn u.coord) (u.latest + timeout)) is.coord whole (new_allowed (length u.names) (coord_skeletons u.coord.front)))
begun_kept u is whole timeout (Err e) c' now fault same = kept_by u is c' (coord.New (next_txn u.coord) (u.latest + timeout)) e (λ f. fault (ap (λ x. Err x) f)) same

pub added_kept : (v : EngineView) → IsEngine v → IsTrue v.coord.whole → (x : TxnId) (p : ℕ) → 1 ≤ p → p ≤ length v.names → (r : Result (Unit {0}) CoordError) (c' : CoordView) → MatchOption (add_refusal v.coord x p) (MayFail r) (λ y. r ≡ Err y) → OnOk r (c' ≡ with_part v.coord x p)
    → (r ≡ Err coord_error.Fault → c' ≡ with_failed_entry v.coord (coord.AddPart x p)) → IfErr r (λ e. (e ≡ coord_error.Fault → ⊥) → c' ≡ v.coord) → IsCoordinator v.limits (length v.names) c'
added_kept v is whole x p low high (Ok u) c' refused now fault same = by_part (has_part v.coord x p) refl
  where
    kept : has_part v.coord x p ≡ true → with_part v.coord x p ≡ v.coord
    kept has = rw has refl

    grown : has_part v.coord x p ≡ false → with_part v.coord x p ≡ with_entry v.coord (coord.AddPart x p)
    grown has = rw has refl

    by_part : (b : Bool) → has_part v.coord x p ≡ b → IsCoordinator v.limits (length v.names) c'
    by_part true has = subst (IsCoordinator v.limits (length v.names)) (sym (now ∙ kept has)) is.coord
    by_part false has =
        subst (IsCoordinator v.limits (length v.names)) (sym (now ∙ grown has))
        (logged_is v.limits (length v.names) v.coord (coord.AddPart x p) is.coord whole
        (add_allowed (length v.names) (coord_skeletons v.coord.front) x p (log_refusal v.coord) (not_refused (add_refusal v.coord x p) (Ok u) u refl refused) has low high))
added_kept v is whole x p low high (Err e) c' refused now fault same = kept_by v is c' (coord.AddPart x p) e (λ f. fault (ap (λ x. Err x) f)) same

-- ---- A `new` from its moment on.

module _ (v : EngineView) (is : IsEngine v) (f g : ℕ) (fs gs : ℕ → ℕ) (latest now timeout : ℕ) (moment : latest ≡ max v.latest (min now (2 ^ 62))) where
  abbrev u : EngineView
  u = moved_to v latest

  u_is : IsEngine u
  u_is = moved_is v latest now is moment

  pub bad_told : is_bad_timeout timeout ≡ true → MayTell f g fs gs v (request.New timeout) now (reply.No no.BadTimeout) u
  bad_told bad =
      short_told f g fs gs v (request.New timeout) now (reply.No no.BadTimeout) u refl
      (new_told v (RoseFor f g fs gs) latest now timeout (reply.No no.BadTimeout) (table_of u) moment
      (row_told u v.limits (RoseFor f g fs gs) (request.New timeout) no.BadTimeout (bad_new v.limits u timeout bad)))

  pub new_answer : IsTrue v.coord.whole → IsTied v → is_bad_timeout timeout ≡ false → (result : Result TxnId CoordError) (c' : CoordView) → IsCoordEntry (coord.New (next_txn v.coord) (latest + timeout)) → MatchOption (begin_refusal v.coord timeout) (MayFail result) (λ x. result ≡ Err x) → IfOk result (λ x. x ≡ next_txn v.coord)
      → OnOk result (c' ≡ with_entry v.coord (coord.New (next_txn v.coord) (latest + timeout))) → (result ≡ Err coord_error.Fault → c' ≡ with_failed_entry v.coord (coord.New (next_txn v.coord) (latest + timeout))) → IfErr result (λ e. (e ≡ coord_error.Fault → ⊥) → c' ≡ v.coord)
      → CountsFaults v.coord.content.key.part f g fs gs (result ≡ Err coord_error.Fault)
      → MayTell f g fs gs v (request.New timeout) now (begun_reply result) (with_coord u c')
  new_answer whole tied ok result c' fits refused told grown fault same cause =
      short_told f g fs gs v (request.New timeout) now (begun_reply result) (with_coord u c') (begun_short result)
      (new_told v (RoseFor f g fs gs) latest now timeout (begun_reply result) (table_of (with_coord u c')) moment
      (begun_told u u_is whole (record { coord = tied.coord; topics = tied.topics }) f g fs gs timeout ok result c' fits refused told grown fault same cause))

pub new_fits : (v : CoordView) (count latest timeout : ℕ) → count ≡ count_new (coord_skeletons v.front) → count < 2 ^ 64 → latest ≤ 2 ^ 62 → is_bad_timeout timeout ≡ false → IsCoordEntry (coord.New (next_txn v) (latest + timeout))
new_fits v count latest timeout e few early ok = (record { most = omega arith; least = subst (λ (n : ℕ). n < 2 ^ 64) e few }, fits latest timeout early (small timeout ok))
  where
    small : (t : ℕ) → is_bad_timeout t ≡ false → t ≤ 86400000
    small t h = grind (arith, nat_tests)

    fits : (a t : ℕ) → a ≤ 2 ^ 62 → t ≤ 86400000 → a + t < 2 ^ 64
    fits a t h k = omega (arith, h, k)

-- ---- An `add`.

pub add_fits : (x : TxnId) (p n : ℕ) → x.most < 2 ^ 64 → x.least < 2 ^ 64 → 1 ≤ p → p ≤ n → n ≤ 62 → IsCoordEntry (coord.AddPart x p)
add_fits x p n most least low high few = (record { most = most; least = least }, low, omega (arith, high, few))

module _ (v : EngineView) (f g : ℕ) (fs gs : ℕ → ℕ) (x : TxnId) (part : List ℕ) (m : ℕ) where
  -- a reply to a name that isn't known, or want of memory for it
  pub unknown_add_told : part_of v.names part ≡ None → (told : Reply) → (told ≡ reply.No (no.UnknownPart part)) ⊎ (told ≡ reply.No no.NoMemory) → MayTell f g fs gs v (request.Add x part) m told v
  unknown_add_told none told (inl e) =
      subst (λ (r : Reply). MayTell f g fs gs v (request.Add x part) m r v) (sym e)
      (record { answers = row_told v v.limits (RoseFor f g fs gs) (request.Add x part) (no.UnknownPart part) (unknown_add v.limits v x part none); instead = λ long. memory_told v v.limits (RoseFor f g fs gs) (request.Add x part) })
  unknown_add_told none told (inr e) =
      subst (λ (r : Reply). MayTell f g fs gs v (request.Add x part) m r v) (sym e)
      (short_told f g fs gs v (request.Add x part) m (reply.No no.NoMemory) v refl (memory_told v v.limits (RoseFor f g fs gs) (request.Add x part)))

  pub foreign_add_told : (p : ℕ) → part_of v.names part ≡ Some p → (x.most == 0) ≡ false → MayTell f g fs gs v (request.Add x part) m (reply.No (no.UnknownCoordinator x.most)) v
  foreign_add_told p known other =
      short_told f g fs gs v (request.Add x part) m (reply.No (no.UnknownCoordinator x.most)) v refl
      (row_told v v.limits (RoseFor f g fs gs) (request.Add x part) (no.UnknownCoordinator x.most) (foreign_add v.limits v x part p known other))

  pub add_answer : IsEngine v → IsTrue v.coord.whole → IsTied v → (p : ℕ) → part_of v.names part ≡ Some p → (x.most == 0) ≡ true → (result : Result (Unit {0}) CoordError) (c' : CoordView) → IsCoordEntry (coord.AddPart x p) → MatchOption (add_refusal v.coord x p) (MayFail result) (λ y. result ≡ Err y)
      → (add_refusal v.coord x p ≡ None → has_part v.coord x p ≡ true → IsOk result) → OnOk result (c' ≡ with_part v.coord x p)
      → (result ≡ Err coord_error.Fault → c' ≡ with_failed_entry v.coord (coord.AddPart x p)) → IfErr result (λ e. (e ≡ coord_error.Fault → ⊥) → c' ≡ v.coord)
      → CountsFaults v.coord.content.key.part f g fs gs (result ≡ Err coord_error.Fault)
      → MayTell f g fs gs v (request.Add x part) m (added_reply result) (with_coord v c')
  add_answer is whole tied p known own result c' fits refused repeated grown fault same cause =
      short_told f g fs gs v (request.Add x part) m (added_reply result) (with_coord v c') (added_short result)
      (added_told v is whole tied f g fs gs x part p known own result c' fits refused repeated grown fault same cause)
