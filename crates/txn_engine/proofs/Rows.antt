-- What the table tells over an engine, where what a line uses is rebuilt.
use Rattle.std.proofs.Common.{◌≡◌, ℕ, ◌==◌, ◌&&◌, ◌||◌, not, Bool, true, false, if◌then◌else◌, List, [], ◌∷◌, length, Option, Some, None, is_some, is_none, option_map, IsTrue, MatchBool, refl, sym, ap, ap₂, ◌∙◌, subst, unwrap_or}
use Rattle.std.specs.Option.{option_or}
use Rattle.txn_base.specs.declared.limits.Limits.{Limits}
use Rattle.txn_base.specs.declared.request.Request.{Request}
use Rattle.txn_base.specs.declared.request.Request.TheVariants as request
use Rattle.txn_base.specs.declared.reply.Reply.{Reply}
use Rattle.txn_base.specs.declared.reply.Reply.TheVariants as reply
use Rattle.txn_base.specs.declared.reply.Refusal.{Refusal}
use Rattle.txn_base.specs.declared.reply.Refusal.TheVariants as no
use Rattle.txn_base.specs.declared.reply.What.TheVariants.{Transactions, Log}
use Rattle.txn_base.specs.declared.txn.TxnId.{TxnId}
use Rattle.txn_base.specs.declared.txn.Status.{Status}
use Rattle.txn_base.specs.declared.txn.Status.TheVariants.{Open, Committing, Committed, Aborting, Aborted}
use Rattle.txn_coordinator.specs.Calls.{refused_full, begin_refusal, add_refusal, add_refusal_at}
use Rattle.txn_model.specs.Answers.{Answers, Succeeds, uses, early, late, granted, no_memory}
use Rattle.txn_model.specs.Coord.{status_of, in_parts, is_open}
use Rattle.txn_model.specs.Drive.{Rebuilds, RebuildsAll}
use Rattle.txn_model.specs.EarlyRows.{early_refusal, is_bad_timeout}
use Rattle.txn_model.specs.Full.{full_transactions, full_log}
use Rattle.txn_model.specs.LateRows.{late_refusal}
use Rattle.txn_model.specs.Names.{part_of}
use Rattle.txn_model.specs.Requests.{number_of}
use Rattle.txn_model.specs.Skeletons.{coord_skeletons}
use Rattle.txn_model.specs.Table.{TableState, is_unrebuilt, rebuilt}
use Rattle.txn_model.specs.Words.{when, that}
use Rattle.txn_engine.specs.Kept.{IsEngine}
use Rattle.txn_engine.specs.Refusals.{coord_refusal}
use Rattle.txn_engine.specs.Table.{world_of}
use Rattle.txn_engine.specs.View.{EngineView}
use Rattle.txn_engine.proofs.Logged.{logged_table}

-- ---- Over any table.

-- a part that is rebuilt stays as it is
pub one_stays : (t : TableState) (p : ℕ) → is_unrebuilt t p ≡ false → Rebuilds p t t
one_stays t p whole = subst (λ (b : Bool). MatchBool b ((stays : Bool) × (t ≡ rebuilt p stays t)) (t ≡ t)) (sym whole) refl

module _ (limits : Limits) (rose : ℕ → Type 0) (t : TableState) where
  pub refused_early : (r : Request) (row : Refusal) → early_refusal limits t.world r ≡ Some row → Answers limits rose t r (reply.No row) t
  refused_early r row e = early row e refl refl

  pub memory_here : (r : Request) → Answers limits rose t r (reply.No no.NoMemory) t
  memory_here r = no_memory refl refl

  -- where all that it uses is rebuilt
  module _ (r : Request) (free : early_refusal limits t.world r ≡ None) (whole : RebuildsAll (uses t.world r) t t) where
    pub refused_late : (row : Refusal) → late_refusal limits t r ≡ Some row → Answers limits rose t r (reply.No row) t
    refused_late row l = late free whole row l refl

    pub granted_here : (told : Reply) (t' : TableState) → late_refusal limits t r ≡ None → Succeeds limits rose t r told t' → Answers limits rose t r told t'
    granted_here told t' l s = granted free t whole l s

-- so does the coordinator
pub log_stays : (v : EngineView) → RebuildsAll (0 ∷ []) (logged_table v) (logged_table v)
log_stays v = (logged_table v, refl, refl)

-- ---- A new transaction.

module _ (limits : Limits) (v : EngineView) where
  pub early_new : (timeout : ℕ) → is_bad_timeout timeout ≡ false → early_refusal limits (world_of v) (request.New timeout) ≡ None
  early_new timeout ok = rw ok refl

  pub bad_new : (timeout : ℕ) → is_bad_timeout timeout ≡ true → early_refusal limits (world_of v) (request.New timeout) ≡ Some no.BadTimeout
  bad_new timeout bad = rw bad refl

  two_full : (a b : Option ℕ) → option_or (option_map (λ (n : ℕ). no.Full Transactions n) a) (option_or (option_map (λ (n : ℕ). no.Full Log n) b) None) ≡ option_map coord_refusal (option_or (refused_full Transactions a) (refused_full Log b))
  two_full None None = refl
  two_full None (Some n) = refl
  two_full (Some n) b = refl

  pub late_new : (timeout : ℕ) → late_refusal limits (logged_table v) (request.New timeout)
      ≡ option_map coord_refusal (option_or (refused_full Transactions (full_transactions limits v.coord.opened_low (coord_skeletons v.coord.front))) (refused_full Log (full_log limits (length v.coord.front) 1)))
  late_new timeout = two_full (full_transactions limits v.coord.opened_low (coord_skeletons v.coord.front)) (full_log limits (length v.coord.front) 1)

-- by the refusal of the coordinator
pub begin_row : (v : EngineView) → IsEngine v → IsTrue v.coord.whole → (timeout : ℕ) → is_bad_timeout timeout ≡ false → late_refusal v.limits (logged_table v) (request.New timeout) ≡ option_map coord_refusal (begin_refusal v.coord timeout)
begin_row v is whole timeout ok =
    late_new v.limits v timeout
    ∙ ap₂ (λ (l : Limits) (n : ℕ). option_map coord_refusal (option_or (refused_full Transactions (full_transactions l v.coord.opened_low (coord_skeletons v.coord.front))) (refused_full Log (full_log l n 1)))) (sym is.coord.limits_are) (is.coord.all whole)
    ∙ sym (rw ok refl)

-- ---- A part more.

module _ (limits : Limits) (v : EngineView) (x : TxnId) (part : List ℕ) where
  pub unknown_add : part_of v.names part ≡ None → early_refusal limits (world_of v) (request.Add x part) ≡ Some (no.UnknownPart part)
  unknown_add e = rw e refl

  pub foreign_add : (p : ℕ) → part_of v.names part ≡ Some p → (x.most == 0) ≡ false → early_refusal limits (world_of v) (request.Add x part) ≡ Some (no.UnknownCoordinator x.most)
  foreign_add p e other = rw (e, other) refl

  pub early_add : (p : ℕ) → part_of v.names part ≡ Some p → (x.most == 0) ≡ true → early_refusal limits (world_of v) (request.Add x part) ≡ None
  early_add p e own = rw (e, own) refl

  pub add_number : (p : ℕ) → part_of v.names part ≡ Some p → number_of (world_of v) part ≡ p
  add_number p e = ap (λ (o : Option ℕ). unwrap_or o 0) e

  add_by_full : (f : Option ℕ) → option_or (option_map (λ (n : ℕ). no.Full Log n) f) None ≡ option_map coord_refusal (add_refusal_at (Some Open) false (refused_full Log f))
  add_by_full None = refl
  add_by_full (Some n) = refl

  add_by : (s : Option Status) (has ended : Bool) (n : ℕ)
      → option_or (when (is_some (that (λ (y : TxnId). is_none s) (Some x))) no.NotFound)
      (option_or (option_map (λ (status : Status). no.NotOpen status) (that (λ (status : Status). not (is_open (Some status)) || (false && ended)) s))
      (option_or (option_map (λ (n : ℕ). no.Full Log n) (full_log limits n (if has then 0 else 1))) None))
      ≡ option_map coord_refusal (add_refusal_at s has (refused_full Log (full_log limits n 1)))
  add_by None has ended n = refl
  add_by (Some Open) true ended n = refl
  add_by (Some Open) false ended n = add_by_full (full_log limits n 1)
  add_by (Some Committing) has ended n = refl
  add_by (Some Committed) has ended n = refl
  add_by (Some Aborting) has ended n = refl
  add_by (Some Aborted) has ended n = refl

  pub late_add : late_refusal limits (logged_table v) (request.Add x part)
      ≡ option_map coord_refusal (add_refusal_at (status_of (coord_skeletons v.coord.front) x) (in_parts (coord_skeletons v.coord.front) x (number_of (world_of v) part)) (refused_full Log (full_log limits (length v.coord.front) 1)))
  late_add = add_by (status_of (coord_skeletons v.coord.front) x) (in_parts (coord_skeletons v.coord.front) x (number_of (world_of v) part)) false (length v.coord.front)

pub add_row : (v : EngineView) → IsEngine v → IsTrue v.coord.whole → (x : TxnId) (part : List ℕ) (p : ℕ) → part_of v.names part ≡ Some p → late_refusal v.limits (logged_table v) (request.Add x part) ≡ option_map coord_refusal (add_refusal v.coord x p)
add_row v is whole x part p e =
    late_add v.limits v x part
    ∙ ap (λ (q : ℕ). option_map coord_refusal (add_refusal_at (status_of (coord_skeletons v.coord.front) x) (in_parts (coord_skeletons v.coord.front) x q) (refused_full Log (full_log v.limits (length v.coord.front) 1)))) (add_number v.limits v x part p e)
    ∙ ap₂ (λ (l : Limits) (n : ℕ). option_map coord_refusal (add_refusal_at (status_of (coord_skeletons v.coord.front) x) (in_parts (coord_skeletons v.coord.front) x p) (refused_full Log (full_log l n 1)))) (sym is.coord.limits_are) (is.coord.all whole)

-- ---- The status of a transaction.

module _ (limits : Limits) (v : EngineView) (x : TxnId) where
  pub foreign_status : (x.most == 0) ≡ false → early_refusal limits (world_of v) (request.Status x) ≡ Some (no.UnknownCoordinator x.most)
  foreign_status other = rw other refl

  pub early_status : (x.most == 0) ≡ true → early_refusal limits (world_of v) (request.Status x) ≡ None
  early_status own = rw own refl

  pub no_status : status_of (coord_skeletons v.coord.front) x ≡ None → late_refusal limits (logged_table v) (request.Status x) ≡ Some no.NotFound
  no_status e = rw e refl

  pub late_status : (s : Status) → status_of (coord_skeletons v.coord.front) x ≡ Some s → late_refusal limits (logged_table v) (request.Status x) ≡ None
  late_status s e = rw e refl
