-- Worked examples of acknowledgements and ticks, computed.
use Rattle.std.specs.Prelude.{◌≡◌, List, [], ◌∷◌, ◌++◌, Some, None, codes, refl}
use Rattle.txn_base.specs.Limits.{standard}
use Rattle.txn_model.proofs.Words.{Abort, Aborted, Request, Reply, message_at, txn, ended, TableState, plain_replies, fresh}
use Rattle.txn_base.specs.declared.request.Request.TheVariants as request
use Rattle.txn_base.specs.declared.reply.Reply.TheVariants as reply
use Rattle.txn_base.specs.declared.reply.Refusal.TheVariants as no
use Rattle.txn_model.proofs.Worked.{orders, billing, at_0}

abbrev with_sub : TableState
with_sub = fresh (orders ∷ billing ∷ [])

abbrev four : List Request
four = request.Publish orders None (codes "a" ∷ codes "b" ∷ codes "c" ∷ codes "d" ∷ []) ∷ request.New 60000 ∷ request.New 60000 ∷ request.Add (txn 0) billing ∷ request.Add (txn 1) billing ∷ []

abbrev told_four : List Reply
told_four = reply.Publish 0 4 ∷ reply.New (txn 0) ∷ reply.New (txn 1) ∷ reply.Add ∷ reply.Add ∷ []

-- Individual acknowledgements conflict at the least place that another holds.
pub individual_ack_conflicts : plain_replies standard with_sub (at_0 (four
    ++ (request.Ack billing (Some (txn 0)) (0 ∷ 2 ∷ []) ∷ request.Ack billing (Some (txn 1)) (2 ∷ 1 ∷ []) ∷ request.AckUpTo billing None 0 ∷ [])))
    ≡ told_four ++ (reply.Ack ∷ reply.No (no.Conflict 2 (txn 0)) ∷ reply.No (no.Conflict 0 (txn 0)) ∷ [])
individual_ack_conflicts = refl

-- A cumulative one conflicts until the holder aborts.
pub cumulative_ack_conflicts_until_abort : plain_replies standard with_sub (at_0 (four
    ++ (request.Ack billing (Some (txn 0)) (2 ∷ []) ∷ request.AckUpTo billing (Some (txn 1)) 3 ∷ request.Abort (txn 0) ∷ request.AckUpTo billing (Some (txn 1)) 3 ∷ [])))
    ≡ told_four ++ (reply.Ack ∷ reply.No (no.Conflict 2 (txn 0)) ∷ reply.Ended Abort (ended Aborted) ∷ reply.AckUpTo ∷ [])
cumulative_ack_conflicts_until_abort = refl

-- Cumulative holds conflict at the least place; a repeat is granted.
pub cumulative_holds_conflict_and_repeat : plain_replies standard with_sub (at_0 (four
    ++ (request.AckUpTo billing (Some (txn 0)) 1 ∷ request.AckUpTo billing (Some (txn 1)) 3 ∷ request.AckUpTo billing (Some (txn 0)) 1 ∷ [])))
    ≡ told_four ++ (reply.AckUpTo ∷ reply.No (no.Conflict 0 (txn 0)) ∷ reply.AckUpTo ∷ [])
cumulative_holds_conflict_and_repeat = refl

-- Unread, acknowledged, and plain repeats.
pub unread_already_acked_and_plain_repeat : plain_replies standard with_sub (at_0 (
    request.Publish orders None (codes "a" ∷ []) ∷ request.Ack billing None (1 ∷ []) ∷ request.Ack billing None (0 ∷ []) ∷ request.New 60000 ∷ request.Add (txn 0) billing
    ∷ request.Ack billing (Some (txn 0)) (0 ∷ []) ∷ request.Ack billing None (0 ∷ []) ∷ request.Ack billing None [] ∷ []))
    ≡ reply.Publish 0 1 ∷ reply.No (no.Unread 1 1) ∷ reply.Ack ∷ reply.New (txn 0) ∷ reply.Add ∷ reply.No (no.AlreadyAcked 0) ∷ reply.Ack ∷ reply.No no.BadPlaces ∷ []
unread_already_acked_and_plain_repeat = refl

-- A tick expires at the deadline, and timeouts have their range.
pub tick_expires_at_its_deadline : plain_replies standard (fresh (orders ∷ [])) (
    (10, request.New 1) ∷ (10, request.Tick) ∷ (11, request.Tick) ∷ (11, request.New 0) ∷ (11, request.New 86400001) ∷ (11, request.New 86400000) ∷ [])
    ≡ reply.New (txn 0) ∷ reply.Tick 10 0 None ∷ reply.Tick 11 0 (Some (record { txn = txn 0; outcome = ended Aborted }))
    ∷ reply.No no.BadTimeout ∷ reply.No no.BadTimeout ∷ reply.New (txn 1) ∷ []
tick_expires_at_its_deadline = refl

-- Redelivery, and what an abort undelivers.
pub redeliver_and_abort_undeliver : plain_replies standard with_sub (at_0 (
    request.Publish orders None (codes "a" ∷ codes "b" ∷ []) ∷ request.Receive billing 5 ∷ request.Receive billing 5 ∷ request.Redeliver billing ∷ request.Receive billing 5
    ∷ request.New 60000 ∷ request.Add (txn 0) billing ∷ request.Ack billing (Some (txn 0)) (0 ∷ []) ∷ request.Abort (txn 0) ∷ request.Receive billing 5 ∷ []))
    ≡ reply.Publish 0 2 ∷ reply.Receive (message_at 0 (codes "a") ∷ message_at 1 (codes "b") ∷ []) ∷ reply.No no.Empty ∷ reply.Redeliver ∷ reply.Receive (message_at 0 (codes "a") ∷ message_at 1 (codes "b") ∷ [])
    ∷ reply.New (txn 0) ∷ reply.Add ∷ reply.Ack ∷ reply.Ended Abort (ended Aborted) ∷ reply.Receive (message_at 0 (codes "a") ∷ []) ∷ []
redeliver_and_abort_undeliver = refl

-- Unknown names and names of the other kind.
pub unknown_and_wrong_parts : plain_replies standard with_sub (at_0 (request.Publish (codes "x") None (codes "a" ∷ []) ∷ request.Publish billing None (codes "a" ∷ []) ∷ []))
    ≡ reply.No (no.UnknownPart (codes "x")) ∷ reply.No (no.WrongKind billing) ∷ []
unknown_and_wrong_parts = refl
