-- Why a line is refused after the parts that it uses are recovered: by the lists.
use Rattle.std.specs.Prelude.{ℕ, ◌&&◌, ◌||◌, not, Bool, true, false, if◌then◌else◌, List, [], ◌∷◌, length, Option, Some, None, is_some, is_none, option_map, option_and_then, unwrap_or}
use Rattle.txn_base.specs.declared.limits.Limits.{Limits}
use Rattle.txn_base.specs.declared.txn.TxnId.{TxnId}
use Rattle.txn_base.specs.declared.txn.Decision.{Decision}
use Rattle.txn_base.specs.declared.txn.Decision.TheVariants.{Commit, Abort}
use Rattle.txn_base.specs.declared.txn.Status.{Status}
use Rattle.txn_base.specs.declared.txn.Status.TheVariants.{Committing, Committed, Aborting, Aborted}
use Rattle.txn_base.specs.declared.messages.Message.{Message}
use Rattle.txn_base.specs.declared.entry.AckEntry.{AckEntry}
use Rattle.txn_base.specs.declared.request.Request.{Request}
use Rattle.txn_base.specs.declared.request.Request.TheVariants as request
use Rattle.txn_base.specs.declared.reply.Refusal.{Refusal}
use Rattle.txn_base.specs.declared.reply.Refusal.TheVariants as no
use Rattle.txn_base.specs.declared.reply.What.TheVariants.{Transactions, Log, Held}
use Rattle.txn_model.specs.declared.world.World.{World}
use Rattle.txn_model.specs.Words.{when, that, first_said, list_at, is_empty}
use Rattle.txn_model.specs.Coord.{status_of, in_parts, is_open}
use Rattle.txn_model.specs.Topic.{marker_of}
use Rattle.txn_model.specs.World.{log_of, part_skeletons}
use Rattle.txn_model.specs.Table.{TableState}
use Rattle.txn_model.specs.Requests.{txn_of, ack_asked, adds_inside, number_of, name_in, part_in, topic_list, ack_list, limit_in}
use Rattle.txn_model.specs.AckRules.{unread_place, acked_place, conflict, new_places, newly_held, acks_added}
use Rattle.txn_model.specs.Full.{full_transactions, full_held, full_log}
use Rattle.txn_model.specs.Delivery.{deliverable}

-- No New stands of its transaction.
abbrev pub is_not_found : World → Request → Bool
is_not_found w r = is_some (that (λ x. is_none (status_of (log_of w) x)) (txn_of r))

-- The other decision is logged, or closed by.
abbrev pub opposes : Decision → Status → Bool
opposes Commit Aborting = true
opposes Commit Aborted = true
opposes Abort Committing = true
opposes Abort Committed = true
opposes _ _ = false

-- A status forbids a request: an end where the other one is decided, all others but the question for the status
-- where the transaction isn't open.
abbrev pub forbids : Request → Status → Bool
forbids (request.Status x) s = false
forbids (request.Commit x) s = opposes Commit s
forbids (request.Abort x) s = opposes Abort s
forbids r s = not (is_open (Some s))

-- The part that a request adds to has a marker of x.
abbrev pub has_ended : World → Request → TxnId → Bool
has_ended w r x = adds_inside r && is_some (marker_of (part_skeletons w (part_in w r)) x)

-- The status of its transaction, where that forbids it or the part has a marker of it.
abbrev pub forbidding_status : World → Request → Option Status
forbidding_status w r = option_and_then (λ x. that (λ s. forbids r s || has_ended w r x) (status_of (log_of w) x)) (txn_of r)

-- The part that it adds to, where that isn't registered for its transaction.
abbrev pub unregistered : World → Request → Option (List ℕ)
unregistered w r = option_and_then (λ x. when (adds_inside r && not (in_parts (log_of w) x (part_in w r))) (name_in r)) (txn_of r)

-- For an acknowledgement, the place that isn't read yet, the one that is acknowledged, the conflict.
abbrev pub unread_in : World → Request → Option ℕ
unread_in w r = option_and_then (unread_place (limit_in w r)) (ack_asked r)

abbrev pub acked_in : World → Request → Option ℕ
acked_in w r = option_and_then (acked_place (ack_list w r) (txn_of r)) (ack_asked r)

abbrev pub conflict_in : World → Request → Option (ℕ × TxnId)
conflict_in w r = option_and_then (conflict (limit_in w r) (ack_list w r) (txn_of r)) (ack_asked r)

-- For an acknowledgement, the entries that it adds, and how many places it newly holds one by one.
abbrev pub acks_in : World → Request → List AckEntry
acks_in w r = unwrap_or (option_map (acks_added (limit_in w r) (ack_list w r) (txn_of r)) (ack_asked r)) []

abbrev pub newly_held_in : World → Request → ℕ
newly_held_in w r = unwrap_or (option_map (λ asked. newly_held (txn_of r) asked (new_places (limit_in w r) (ack_list w r) asked)) (ack_asked r)) 0

-- What is full of the transactions, of the places that are held one by one, and of the list that a request adds to.
abbrev pub transactions_in : Limits → TableState → Request → Option ℕ
transactions_in limits t (request.New timeout) = full_transactions limits t.opened_low (log_of t.world)
transactions_in limits t _ = None

abbrev pub held_in : Limits → World → Request → Option ℕ
held_in limits w r = full_held limits (ack_list w r) (newly_held_in w r)

abbrev pub log_in : Limits → World → Request → Option ℕ
log_in limits w (request.New timeout) = full_log limits (length w.coord) 1
log_in limits w (request.Add x part) = full_log limits (length w.coord) (if in_parts (log_of w) x (number_of w part) then 0 else 1)
log_in limits w (request.Publish topic who bodies) = full_log limits (length (list_at w.topics (number_of w topic))) (length bodies)
log_in limits w r = full_log limits (length (ack_list w r)) (length (acks_in w r))

-- What a receive may be given, at most max; and where it is nothing.
abbrev pub deliverable_in : Limits → TableState → Request → ℕ → List Message
deliverable_in limits t r max = deliverable limits (topic_list t.world r) (ack_list t.world r) (t.given (part_in t.world r)) max

abbrev pub has_nothing : Limits → TableState → Request → Bool
has_nothing limits t (request.Receive sub max) = is_empty (deliverable_in limits t (request.Receive sub max) max)
has_nothing limits t _ = false

-- The rows in their order. The first that comes is the answer.
abbrev pub late_rows : Limits → TableState → Request → List (Option Refusal)
late_rows limits t r =
    when (is_not_found t.world r) no.NotFound
    ∷ option_map (λ status. no.NotOpen status) (forbidding_status t.world r)
    ∷ option_map (λ part. no.NotRegistered part) (unregistered t.world r)
    ∷ option_map (λ place. no.Unread place (limit_in t.world r)) (unread_in t.world r)
    ∷ option_map (λ place. no.AlreadyAcked place) (acked_in t.world r)
    ∷ option_map (λ held. no.Conflict held.0 held.1) (conflict_in t.world r)
    ∷ option_map (λ count. no.Full Transactions count) (transactions_in limits t r)
    ∷ option_map (λ count. no.Full Held count) (held_in limits t.world r)
    ∷ option_map (λ count. no.Full Log count) (log_in limits t.world r)
    ∷ when (has_nothing limits t r) no.Empty
    ∷ []

abbrev pub late_refusal : Limits → TableState → Request → Option Refusal
late_refusal limits t r = first_said (late_rows limits t r)
