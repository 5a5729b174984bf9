-- A commit that a fault stops at a topic, and its repeat, as the table has them.
use Rattle.txn_model.proofs.Words.{◌≡◌, ℕ, Bool, true, false, [], ◌∷◌, Some, codes, refl, Commit, Committing, Committed, Outcome, message_at, txn, TableState, with_batch, with_failed_batch, rebuilt, marked, marker_batch, closing_batch, decision_batch, ended, closes, stops, marker_fault, Answers, granted, plain_answer, fresh}
use Rattle.std.proofs.Common.{inl}
use Rattle.txn_base.specs.Limits.{standard}
use Rattle.txn_base.specs.declared.request.Request.TheVariants as request
use Rattle.txn_base.specs.declared.reply.Reply.TheVariants as reply
use Rattle.txn_base.specs.declared.reply.Why.TheVariants as why
use Rattle.txn_model.proofs.Worked.{orders, after}

-- a message in a transaction
abbrev published : TableState
published = after (fresh (orders ∷ [])) (request.New 60000 ∷ request.Add (txn 0) orders ∷ request.Publish orders (Some (txn 0)) (codes "b" ∷ []) ∷ [])

-- its decision logged
abbrev decided : TableState
decided = with_batch (decision_batch published (txn 0) Commit) published

-- the append of the marker failed
abbrev stopped : TableState
stopped = with_failed_batch (marker_batch decided (txn 0) Commit 1) 1 decided

abbrev stuck : Outcome
stuck = record { status = Committing; stuck = Some (record { part = orders; why = why.Fault }) }

-- the topic's count rose
abbrev topic_rose : ℕ → Type 0
topic_rose p = p ≡ 1

pub stuck_commit : Answers standard topic_rose published (request.Commit (txn 0)) (reply.Ended Commit stuck) stopped
stuck_commit = granted refl published (published, refl, refl) refl (inl (stuck, stops Commit refl refl 1 why.Fault (inl (refl, marker_fault decided refl refl refl refl refl)) refl, refl))

-- the topic is rebuilt without the marker, and gets it
abbrev again : Bool → TableState
again stays = marked (txn 0) Commit 1 (rebuilt 1 stays stopped)

abbrev nothing_rose : ℕ → Type 0
nothing_rose p = ⊥

-- whether the marker was kept or not
pub repeated_commit : (stays : Bool) → Answers standard nothing_rose stopped (request.Commit (txn 0)) (reply.Ended Commit (ended Committed)) (with_batch (closing_batch (txn 0) Commit) (again stays))
repeated_commit stays =
    granted refl stopped (stopped, refl, refl) refl
    (inl (ended Committed, closes Commit refl refl (again stays) (rebuilt 1 stays stopped, (stays, refl), refl) refl refl, refl))

-- and the message is read, with one marker behind it
pub then_read_dropped : (plain_answer standard (with_batch (closing_batch (txn 0) Commit) (again false)) (request.Read orders 0 10)).0 ≡ reply.Read 2 (message_at 0 (codes "b") ∷ [])
then_read_dropped = refl

pub then_read_kept : (plain_answer standard (with_batch (closing_batch (txn 0) Commit) (again true)) (request.Read orders 0 10)).0 ≡ reply.Read 2 (message_at 0 (codes "b") ∷ [])
then_read_kept = refl
