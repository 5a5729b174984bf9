-- Over a lawful log, with every part whole, the plain answer is one that the table has. So the table is never without one.
use Rattle.std.proofs.Common.{◌≡◌, ◌⊎◌, inl, inr, ℕ, Bool, true, false, cond, if◌then◌else◌, List, [], ◌∷◌, ◌++◌, Some, None, refl, sym, ap, ◌∙◌, subst}
use Rattle.txn_model.proofs.Words.{Option, MatchBool, MatchOption, is_none, find, option_or, Limits, TxnId, Status, Decision, Commit, Abort, CoreEntry, CoordEntry, Request, Refusal, nowhere, coord_skeleton, coord_skeletons, decision_skeleton, says_decision, has_new, status_of, decision_of, closing_of, parts_of, is_open, CoordLawful, transactions, is_undriven, is_due, first_due, first_undriven, log_of, TableState, nothing, in_coord, with_batch, marked, rebuilt, decision_entry, decision_batch, early_refusal, late_refusal, Rebuilds, RebuildsAll, MarksAll, Drives, already, closes, uses, Ends, AppendFails, Succeeds, Answers, early, late, granted, tick_target, tick_reply, all_marked, drive_by, end_of, after_tick, plain_success, or_refused, plain_answer}
use Rattle.txn_base.specs.declared.request.Request.TheVariants as request
use Rattle.txn_model.proofs.Bools.{no_true, and_l, none_some, some_none}
use Rattle.txn_model.proofs.Prefixes.{map_append, first_of-append}
use Rattle.txn_model.proofs.Refused.{passed, status_known}
use Rattle.txn_model.proofs.Statuses.{Agrees, last_by, status_by, same_self, lawful_agrees}

rebuilds_self : (p : ℕ) (t : TableState) → t.unrebuilt ≡ nowhere → Rebuilds p t t
rebuilds_self p t e = subst (λ f. MatchBool (f p) ((stays : Bool) × (t ≡ rebuilt p stays t)) (t ≡ t)) (sym e) refl

all_self : (ps : List ℕ) (t : TableState) → t.unrebuilt ≡ nowhere → RebuildsAll ps t t
all_self [] t e = refl
all_self (p ∷ ps) t e = (t, rebuilds_self p t e, all_self ps t e)

marks_self : (x : TxnId) (d : Decision) (ps : List ℕ) (t : TableState) → t.unrebuilt ≡ nowhere → MarksAll x d ps t (all_marked x d ps t)
marks_self x d [] t e = refl
marks_self x d (p ∷ ps) t e = (t, rebuilds_self p t e, marks_self x d ps (marked x d p t) e)

-- ---- A transaction with a status is decided or closed, once its decision is logged.

-- the transaction is closed or decided
abbrev IsEnding : List CoreEntry → TxnId → Type 0
IsEnding c x = closing_of c x ≡ None → (d : Decision) × (decision_of c x ≡ Some d)

or_some : (o : Option Decision) (d : Decision) → (v : Decision) × (option_or o (Some d) ≡ Some v)
or_some None d = (d, refl)
or_some (Some v) d = (v, refl)

decides_says : (x : TxnId) (d : Decision) → says_decision x (decision_skeleton x d) ≡ Some d
decides_says x Commit = ap (λ b. if b then Some Commit else None) (same_self x)
decides_says x Abort = ap (λ b. if b then Some Abort else None) (same_self x)

decided_now : (c : List CoreEntry) (x : TxnId) (d : Decision) → (v : Decision) × (decision_of (c ++ decision_skeleton x d ∷ []) x ≡ Some v)
decided_now c x d =
    let v : (v : Decision) × (option_or (decision_of c x) (Some d) ≡ Some v) = or_some (decision_of c x) d in
    (v.0, first_of-append (says_decision x) c (decision_skeleton x d ∷ []) ∙ ap (λ o. option_or (decision_of c x) (option_or o None)) (decides_says x d) ∙ v.1)

skeleton_decides : (x : TxnId) (d : Decision) → coord_skeleton (decision_entry x d) ≡ decision_skeleton x d
skeleton_decides x Commit = refl
skeleton_decides x Abort = refl

log_decided : (c : List CoordEntry) (x : TxnId) (d : Decision) → coord_skeletons (c ++ decision_entry x d ∷ []) ≡ coord_skeletons c ++ decision_skeleton x d ∷ []
log_decided c x d = map_append coord_skeleton c (decision_entry x d ∷ []) ∙ ap (λ e. coord_skeletons c ++ e ∷ []) (skeleton_decides x d)

shut_by : (n : Bool) (k d : Option Decision) → is_none (status_by n (last_by k d)) ≡ false → is_open (status_by n (last_by k d)) ≡ false → k ≡ None → (v : Decision) × (d ≡ Some v)
shut_by false k d s o e = absurd (no_true (sym s))
shut_by true (Some v) d s o e = absurd (some_none e)
shut_by true None (Some v) s o e = (v, refl)
shut_by true None None s o e = absurd (no_true (sym o))

shut : (n : ℕ) (c : List CoreEntry) (x : TxnId) → CoordLawful n c → is_none (status_of c x) ≡ false → is_open (status_of c x) ≡ false → IsEnding c x
shut n c x h s o =
    let a : Agrees c x = lawful_agrees n c x h in
    shut_by (has_new c x) (closing_of c x) (decision_of c x) (subst (λ l. is_none (status_by (has_new c x) l) ≡ false) a.said s) (subst (λ l. is_open (status_by (has_new c x) l) ≡ false) a.said o)

ended_by : (b : Bool) (n : ℕ) (t : TableState) (x : TxnId) (d : Decision) → CoordLawful n (log_of t.world) → is_none (status_of (log_of t.world) x) ≡ false → is_open (status_of (log_of t.world) x) ≡ b
    → IsEnding (log_of (with_batch (if b then in_coord (decision_entry x d) else nothing) t).world) x
ended_by true n t x d h s o = λ k. subst (λ l. (v : Decision) × (decision_of l x ≡ Some v)) (sym (log_decided t.world.coord x d)) (decided_now (log_of t.world) x d)
ended_by false n t x d h s o = shut n (log_of t.world) x h s o

module _ (rose : ℕ → Type 0) where
  drives_by : (x : TxnId) (t : TableState) (k d : Option Decision) → t.unrebuilt ≡ nowhere → closing_of (log_of t.world) x ≡ k → decision_of (log_of t.world) x ≡ d → (k ≡ None → (v : Decision) × (d ≡ Some v))
      → Drives rose x t (drive_by x t k d).0 (drive_by x t k d).1
  drives_by x t (Some v) d e c k may = already v c refl refl
  drives_by x t None (Some v) e c k may = closes v c k (all_marked x v (parts_of (log_of t.world) x) t) (marks_self x v (parts_of (log_of t.world) x) t e) refl refl
  drives_by x t None None e c k may = absurd (none_some (may refl).1)

  ends_exist : (n : ℕ) (t : TableState) (x : TxnId) (d : Decision) → t.unrebuilt ≡ nowhere → CoordLawful n (log_of t.world) → is_none (status_of (log_of t.world) x) ≡ false → Ends rose t x d (end_of t x d).0 (end_of t x d).1
  ends_exist n t x d e h s =
      let u : TableState = with_batch (decision_batch t x d) t in
      drives_by x u (closing_of (log_of u.world) x) (decision_of (log_of u.world) x) e refl refl (ended_by (is_open (status_of (log_of t.world) x)) n t x d h s refl)

  found : (p : TxnId → Bool) (xs : List TxnId) (x : TxnId) → find p xs ≡ Some x → p x ≡ true
  found p [] x h = absurd (none_some h)
  found p (y ∷ ys) x h = by_test (p y) refl h (found p ys x)
    where
      out : TxnId → Option TxnId → TxnId
      out d None = d
      out d (Some z) = z

      by_test : (b : Bool) → p y ≡ b → cond b (Some y) (find p ys) ≡ Some x → (find p ys ≡ Some x → p x ≡ true) → p x ≡ true
      by_test true e h rest = subst (λ z. p z ≡ true) (ap (out y) h) e
      by_test false e h rest = rest h

  open_is_some : (o : Option Status) → is_open o ≡ true → is_none o ≡ false
  open_is_some None h = absurd (no_true h)
  open_is_some (Some s) h = refl

  undriven_is_some : (o : Option Status) → is_undriven o ≡ true → is_none o ≡ false
  undriven_is_some None h = absurd (no_true h)
  undriven_is_some (Some s) h = refl

  target_cases : (a b : Option TxnId) (x : TxnId) → option_or a b ≡ Some x → (a ≡ Some x) ⊎ (b ≡ Some x)
  target_cases None b x h = inr h
  target_cases (Some y) b x h = inl h

  target_known : (t : TableState) (x : TxnId) → tick_target t ≡ Some x → is_none (status_of (log_of t.world) x) ≡ false
  target_known t x h =
      elim (target_cases (first_due t.world.coord t.latest) (first_undriven t.world.coord) x h) [
        | inl k ↦ open_is_some (status_of (log_of t.world) x) (and_l _ _ (and_l _ _ (found (is_due t.world.coord t.latest) (transactions t.world.coord) x k)))
        | inr k ↦ undriven_is_some (status_of (log_of t.world) x) (found (λ y. is_undriven (status_of (coord_skeletons t.world.coord) y)) (transactions t.world.coord) x k)
      ]

  tick_exists : (n : ℕ) (t : TableState) (o : Option TxnId) → t.unrebuilt ≡ nowhere → CoordLawful n (log_of t.world) → ((x : TxnId) → o ≡ Some x → is_none (status_of (log_of t.world) x) ≡ false)
      → MatchOption o (((after_tick t o).0 ≡ tick_reply t None) × ((after_tick t o).1 ≡ t))
      (λ x. ((outcome : _) × Ends rose t x Abort outcome (after_tick t o).1 × ((after_tick t o).0 ≡ tick_reply (after_tick t o).1 (Some (x, outcome)))) ⊎ AppendFails rose (decision_batch t x Abort) t (after_tick t o).0 (after_tick t o).1)
  tick_exists n t None e h known = (refl, refl)
  tick_exists n t (Some x) e h known = inl ((end_of t x Abort).0, ends_exist n t x Abort e h (known x refl), refl)

  success_exists : (n : ℕ) (limits : Limits) (t : TableState) (r : Request) → t.unrebuilt ≡ nowhere → CoordLawful n (log_of t.world) → late_refusal limits t r ≡ None
      → Succeeds limits rose t r (plain_success limits t r).0 (plain_success limits t r).1
  success_exists n limits t (request.Commit x) e h k = inl ((end_of t x Commit).0, ends_exist n t x Commit e h (ap is_none (status_known limits t (request.Commit x) x refl (passed limits t (request.Commit x) k)).1), refl)
  success_exists n limits t (request.Abort x) e h k = inl ((end_of t x Abort).0, ends_exist n t x Abort e h (ap is_none (status_known limits t (request.Abort x) x refl (passed limits t (request.Abort x) k)).1), refl)
  success_exists n limits t request.Tick e h k = tick_exists n t (tick_target t) e h (target_known t)
  success_exists n limits t (request.New timeout) e h k = inl (refl, refl)
  success_exists n limits t (request.Add x part) e h k = inl (refl, refl)
  success_exists n limits t (request.Publish topic who bodies) e h k = inl (refl, refl)
  success_exists n limits t (request.Ack sub who places) e h k = inl (refl, refl)
  success_exists n limits t (request.AckUpTo sub who place) e h k = inl (refl, refl)
  success_exists n limits t (request.Status x) e h k = inl (refl, refl)
  success_exists n limits t (request.Read topic first max) e h k = inl (refl, refl)
  success_exists n limits t (request.Receive sub max) e h k = inl (refl, refl)
  success_exists n limits t (request.Redeliver sub) e h k = inl (refl, refl)
  success_exists n limits t request.Stop e h k = inl (refl, refl)

  answer_by : (n : ℕ) (limits : Limits) (t : TableState) (r : Request) (a b : Option Refusal) → t.unrebuilt ≡ nowhere → CoordLawful n (log_of t.world) → early_refusal limits t.world r ≡ a → late_refusal limits t r ≡ b
      → Answers limits rose t r (or_refused t (option_or a b) (plain_success limits t r)).0 (or_refused t (option_or a b) (plain_success limits t r)).1
  answer_by n limits t r (Some row) b e h i k = early row i refl refl
  answer_by n limits t r None (Some row) e h i k = late i (all_self (uses t.world r) t e) row k refl
  answer_by n limits t r None None e h i k = granted i t (all_self (uses t.world r) t e) k (success_exists n limits t r e h k)

  -- the plain answer is one
  pub plain_is_one : (n : ℕ) (limits : Limits) (t : TableState) (r : Request) → t.unrebuilt ≡ nowhere → CoordLawful n (log_of t.world) → Answers limits rose t r (plain_answer limits t r).0 (plain_answer limits t r).1
  plain_is_one n limits t r e h = answer_by n limits t r (early_refusal limits t.world r) (late_refusal limits t r) e h refl refl
