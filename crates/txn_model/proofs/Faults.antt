-- Each reply that tells of a fault was paid by a rise of the count of faults.
use Rattle.std.proofs.Common.{◌≡◌, inl, inr, ℕ, ◌+◌, ◌-◌, ◌^◌, ◌≤◌, min, arith, zero-add, cond, Bool, true, false, List, [], ◌∷◌, Some, None, refl, sym, ap, ◌∙◌, subst}
use Rattle.std.proofs.lemmas.List.Sums.{sum_by-append}
use Rattle.txn_model.proofs.Words.{Option, option_map, list_all, Limits, TxnId, Decision, Request, Reply, Outcome, Why, Refusal, Transactions, Log, Held, World, first_of, when, parts_of, log_of, TableState, with_batch, marked, decision_batch, limit_in, early_rows, late_rows, success_of, StopsAt, recovery_fault, recovery_memory, marker_memory, marker_fault, StopsWithin, Drives, already, closes, close_fault, stops, Answers, early, unrecovered, unread, late, granted, no_memory, no_memory_later, tick_reply, moved, is_fault_why, is_stopped, is_fault, count_faults, RunState, RoseAt, LineKind, too_long, blank, form, AnswersFrom, Replied, Replies}
use Rattle.txn_base.specs.declared.reply.Reply.TheVariants as reply
use Rattle.txn_base.specs.declared.reply.Why.TheVariants as why
use Rattle.txn_base.specs.declared.reply.Refusal.TheVariants as no
use Rattle.txn_model.specs.EarlyRows as early_row
use Rattle.txn_model.specs.LateRows as late_row
use Rattle.txn_model.proofs.Bools.{no_true, and_l, and_both, none_some}
use Rattle.txn_model.proofs.Moves.{Way, by_row, is_idle, by_end, way}

-- a row that is none, or tells of no fault
abbrev safe : Option Refusal → Bool
safe None = true
safe (Some (no.Fault part)) = false
safe (Some _) = true

safe_tells : (row : Refusal) → safe (Some row) ≡ true → is_fault (reply.No row) ≡ false
safe_tells no.TooLong h = refl
safe_tells no.BadLine h = refl
safe_tells no.BadTimeout h = refl
safe_tells no.BadPlaces h = refl
safe_tells no.TooBig h = refl
safe_tells no.NoMemory h = refl
safe_tells no.NotFound h = refl
safe_tells no.Empty h = refl
safe_tells (no.UnknownPart name) h = refl
safe_tells (no.WrongKind name) h = refl
safe_tells (no.UnknownCoordinator number) h = refl
safe_tells (no.NotOpen status) h = refl
safe_tells (no.NotRegistered part) h = refl
safe_tells (no.Fault part) h = absurd (no_true h)
safe_tells (no.Recovering part at total) h = refl
safe_tells (no.Damaged part place) h = refl
safe_tells (no.Unread place limit) h = refl
safe_tells (no.AlreadyAcked place) h = refl
safe_tells (no.Conflict place holder) h = refl
safe_tells (no.Full what count) h = refl

first_safe : (rows : List (Option Refusal)) (row : Refusal) → list_all safe rows ≡ true → first_of (λ r. r) rows ≡ Some row → safe (Some row) ≡ true
first_safe [] row h e = absurd (none_some e)
first_safe (None ∷ rows) row h e = first_safe rows row h e
first_safe (Some r ∷ rows) row h e = ap safe (sym e) ∙ and_l (safe (Some r)) (list_all safe rows) h

safe_when : (b : Bool) (row : Refusal) → safe (Some row) ≡ true → safe (when b row) ≡ true
safe_when true row h = h
safe_when false row h = refl

safe_map : {A : Type 0} (f : A → Refusal) (o : Option A) → ((a : A) → safe (Some (f a)) ≡ true) → safe (option_map f o) ≡ true
safe_map f None h = refl
safe_map f (Some a) h = h a

cons_safe : (o : Option Refusal) (rows : List (Option Refusal)) → safe o ≡ true → list_all safe rows ≡ true → list_all safe (o ∷ rows) ≡ true
cons_safe o rows h k = and_both (safe o) (list_all safe rows) h k

early_safe : (limits : Limits) (w : World) (r : Request) → list_all safe (early_rows limits w r) ≡ true
early_safe limits w r =
    and_both _ _ (safe_when (early_row.is_stop r) no.BadLine refl)
    (and_both _ _ (safe_map (λ name. no.UnknownPart name) (early_row.unknown_name w r) (λ a. refl))
    (and_both _ _ (safe_map (λ name. no.WrongKind name) (early_row.wrong_kind w r) (λ a. refl))
    (and_both _ _ (safe_map (λ number. no.UnknownCoordinator number) (early_row.foreign_coordinator r) (λ a. refl))
    (and_both _ _ (safe_when (early_row.has_bad_timeout r) no.BadTimeout refl)
    (and_both _ _ (safe_when (early_row.lists_bad_places limits r) no.BadPlaces refl)
    (and_both _ _ (safe_when (early_row.is_too_big limits r) no.TooBig refl) refl))))))

late_safe : (limits : Limits) (t : TableState) (r : Request) → list_all safe (late_rows limits t r) ≡ true
late_safe limits t r =
    and_both _ _ (safe_when (late_row.is_not_found t.world r) no.NotFound refl)
    (and_both _ _ (safe_map (λ status. no.NotOpen status) (late_row.forbidding_status t.world r) (λ a. refl))
    (and_both _ _ (safe_map (λ part. no.NotRegistered part) (late_row.unregistered t.world r) (λ a. refl))
    (and_both _ _ (safe_map (λ place. no.Unread place (limit_in t.world r)) (late_row.unread_in t.world r) (λ a. refl))
    (and_both _ _ (safe_map (λ place. no.AlreadyAcked place) (late_row.acked_in t.world r) (λ a. refl))
    (and_both _ _ (safe_map (λ held. no.Conflict held.0 held.1) (late_row.conflict_in t.world r) (λ a. refl))
    (and_both _ _ (safe_map (λ count. no.Full Transactions count) (late_row.transactions_in limits t r) (λ a. refl))
    (and_both _ _ (safe_map (λ count. no.Full Held count) (late_row.held_in limits t.world r) (λ a. refl))
    (and_both _ _ (safe_map (λ count. no.Full Log count) (late_row.log_in limits t.world r) (λ a. refl))
    (and_both _ _ (safe_when (late_row.has_nothing limits t r) no.Empty refl) refl)))))))))

clash : {b : Bool} → b ≡ false → b ≡ true → ⊥
clash e h = no_true (sym e ∙ h)

told_clash : (one other : Reply) → one ≡ other → is_fault other ≡ false → is_fault one ≡ true → ⊥
told_clash one other e s h = clash (ap is_fault e ∙ s) h

memory_not : (reason : Why) → reason ≡ why.Memory → is_fault_why reason ≡ true → ⊥
memory_not reason e h = clash (ap is_fault_why e) h

module _ (rose : ℕ → Type 0) where
  stop_paid : (x : TxnId) (d : Decision) (p : ℕ) (t : TableState) (reason : Why) (t' : TableState) → StopsAt rose x d p t reason t' → is_fault_why reason ≡ true → (q : ℕ) × rose q
  stop_paid x d p t reason t' (recovery_fault h r w) f = (p, r)
  stop_paid x d p t reason t' (recovery_memory h w) f = absurd (memory_not reason w f)
  stop_paid x d p t reason t' (marker_memory m r n w) f = absurd (memory_not reason w f)
  stop_paid x d p t reason t' (marker_fault mid r n z s w) f = (p, z)

  stops_paid : (x : TxnId) (d : Decision) (ps : List ℕ) (p : ℕ) (t : TableState) (reason : Why) (t' : TableState) → StopsWithin rose x d ps p t reason t' → is_fault_why reason ≡ true → (q : ℕ) × rose q
  stops_paid x d [] p t reason t' h f = absurd h
  stops_paid x d (q ∷ qs) p t reason t' (inl h) f = stop_paid x d q t reason t' h.1 f
  stops_paid x d (q ∷ qs) p t reason t' (inr h) f = stops_paid x d qs p (marked x d q h.0) reason t' h.2 f

  drives_paid : (x : TxnId) (t : TableState) (outcome : Outcome) (t' : TableState) → Drives rose x t outcome t' → is_stopped outcome.stuck ≡ true → (q : ℕ) × rose q
  drives_paid x t outcome t' (already d c o s) f = absurd (clash (ap (λ u. is_stopped u.stuck) o) f)
  drives_paid x t outcome t' (closes d c k mid m o s) f = absurd (clash (ap (λ u. is_stopped u.stuck) o) f)
  drives_paid x t outcome t' (close_fault d c k mid m z o s) f = (0, z)
  drives_paid x t outcome t' (stops d c k p reason h o) f = stops_paid x d (parts_of (log_of t.world) x) p t reason t' h (sym (ap (λ u. is_stopped u.stuck) o) ∙ f)

  way_paid : (limits : Limits) (t : TableState) (r : Request) (told : Reply) (t' : TableState) → Way limits rose t r told t' → is_fault told ≡ true → (q : ℕ) × rose q
  way_paid limits t r told t' (by_row plain quiet (inl h)) f = absurd (told_clash told (success_of limits t r).reply h.0 quiet f)
  way_paid limits t r told t' (by_row plain quiet (inr h)) f = (h.0, h.2)
  way_paid limits t r told t' (is_idle plain o s) f = absurd (told_clash told (tick_reply t None) o refl f)
  way_paid limits t r told t' (by_end x d say quiet plain u (inl h)) f = drives_paid x (with_batch (decision_batch t x d) t) h.0 t' h.1 (sym (ap (λ o. is_fault o.0) h.2 ∙ quiet (h.0, t')) ∙ f)
  way_paid limits t r told t' (by_end x d say quiet plain u (inr h)) f = (h.0, h.2)

  -- a reply that tells of a fault comes only where the count of some part rose
  pub answers_paid : (limits : Limits) (t : TableState) (r : Request) (told : Reply) (t' : TableState) → Answers limits rose t r told t' → is_fault told ≡ true → (q : ℕ) × rose q
  answers_paid limits t r told t' (early row h o s) f =
      absurd (told_clash told (reply.No row) o (safe_tells row (first_safe (early_rows limits t.world r) row (early_safe limits t.world r) h)) f)
  answers_paid limits t r told t' (unrecovered h p g q o) f = (p, q)
  answers_paid limits t r told t' (unread h mid w g) f = (g.0, g.2)
  answers_paid limits t r told t' (late h w row k o) f =
      absurd (told_clash told (reply.No row) o (safe_tells row (first_safe (late_rows limits t' r) row (late_safe limits t' r) k)) f)
  answers_paid limits t r told t' (granted h mid w k g) f = way_paid limits mid r told t' (way limits rose mid r told t' g) f
  answers_paid limits t r told t' (no_memory o s) f = absurd (told_clash told (reply.No no.NoMemory) o refl f)
  answers_paid limits t r told t' (no_memory_later h o w) f = absurd (told_clash told (reply.No no.NoMemory) o refl f)

-- ---- Lines.

-- a count that rises by so many, and stands still at its end
abbrev pub Paid : ℕ → ℕ → ℕ → Type 0
Paid before count after = min (before + count) (2 ^ 64 - 1) ≤ after

paid_both : (top a m b n c : ℕ) → min (a + m) top ≤ b → min (b + n) top ≤ c → min (a + (m + n)) top ≤ c
paid_both top a m b n c h k = omega (arith, h, k)

paid_none : (top a b : ℕ) → a ≤ b → min (a + 0) top ≤ b
paid_none top a b h = omega (arith, h)

paid_still : (s s' : RunState) → s' ≡ s → Paid s.faults 0 s'.faults
paid_still s s' e = subst (λ u. Paid s.faults 0 u.faults) (sym e) (paid_none (2 ^ 64 - 1) s.faults s.faults (omega arith))

one_paid : (a b : ℕ) (one : Reply) (c : Bool) → is_fault one ≡ c → (c ≡ true → min (a + 1) (2 ^ 64 - 1) ≤ b) → a ≤ b → Paid a (count_faults (one ∷ [])) b
one_paid a b one true e rises h = subst (λ n. Paid a n b) (sym (zero-add (cond (is_fault one) 1 0) ∙ ap (λ k. cond k 1 0) e)) (rises refl)
one_paid a b one false e rises h = subst (λ n. Paid a n b) (sym (zero-add (cond (is_fault one) 1 0) ∙ ap (λ k. cond k 1 0) e)) (paid_none (2 ^ 64 - 1) a b h)

from_paid : (limits : Limits) (s : RunState) (r : Request) (one : Reply) (s' : RunState) → AnswersFrom limits s r one s' → Paid s.faults (count_faults (one ∷ [])) s'.faults
from_paid limits s r one s' (inl h) =
    subst (λ u. Paid s.faults (count_faults (one ∷ [])) u.faults) (sym h.1)
    (subst (λ o. Paid s.faults (count_faults (o ∷ [])) s.faults) (sym h.0) (paid_none (2 ^ 64 - 1) s.faults s.faults (omega arith)))
from_paid limits s r one s' (inr h) =
    one_paid s.faults s'.faults one (is_fault one) refl (λ f. (answers_paid (RoseAt s s') limits (moved r h.0 s.table) r one s'.table h.2 f).1.0) h.3.faults

line_paid : (limits : Limits) (s : RunState) (kind : LineKind) (told : List Reply) (s' : RunState) → Replied limits s kind told s' → Paid s.faults (count_faults told) s'.faults
line_paid limits s too_long told s' h = subst (λ o. Paid s.faults (count_faults o) s'.faults) (sym h.0) (paid_still s s' h.1)
line_paid limits s blank told s' h = subst (λ o. Paid s.faults (count_faults o) s'.faults) (sym h.0) (paid_still s s' h.1)
line_paid limits s (form None) told s' h =
    elim h.0 [
      | inl e ↦ subst (λ o. Paid s.faults (count_faults o) s'.faults) (sym e) (paid_still s s' h.1)
      | inr e ↦ subst (λ o. Paid s.faults (count_faults o) s'.faults) (sym e) (paid_still s s' h.1)
    ]
line_paid limits s (form (Some r)) told s' h = subst (λ o. Paid s.faults (count_faults o) s'.faults) (sym h.1) (from_paid limits s r h.0 s' h.2)

-- the replies that tell of a fault are at most as many as the count of faults rose by
pub replies_paid : (limits : Limits) (s : RunState) (kinds : List LineKind) (told : List Reply) (s' : RunState) → Replies limits s kinds told s' → Paid s.faults (count_faults told) s'.faults
replies_paid limits s [] told s' h = subst (λ o. Paid s.faults (count_faults o) s'.faults) (sym h.0) (paid_still s s' h.1)
replies_paid limits s (kind ∷ kinds) told s' h =
    subst (λ o. Paid s.faults (count_faults o) s'.faults) (sym h.5)
    (subst (λ n. Paid s.faults n s'.faults) (sym (sum_by-append (λ o. cond (is_fault o) 1 0) h.1 h.2))
    (paid_both (2 ^ 64 - 1) s.faults (count_faults h.1) h.0.faults (count_faults h.2) s'.faults (line_paid limits s kind h.1 h.0 h.3) (replies_paid limits h.0 kinds h.2 s' h.4)))
