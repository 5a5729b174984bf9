-- The table where nothing fails and there is memory: then the reply and what stands afterwards are functions.
use Rattle.std.specs.Prelude.{ℕ, List, [], ◌∷◌, Option, Some, None}
use Rattle.std.specs.Option.{option_or}
use Rattle.txn_base.specs.declared.limits.Limits.{Limits}
use Rattle.txn_base.specs.declared.txn.TxnId.{TxnId}
use Rattle.txn_base.specs.declared.txn.Decision.{Decision}
use Rattle.txn_base.specs.declared.txn.Decision.TheVariants.{Commit, Abort}
use Rattle.txn_base.specs.declared.txn.Status.TheVariants.{Open}
use Rattle.txn_base.specs.declared.reply.Outcome.{Outcome}
use Rattle.txn_base.specs.declared.request.Request.{Request}
use Rattle.txn_base.specs.declared.request.Request.TheVariants as request
use Rattle.txn_base.specs.declared.reply.Reply.{Reply}
use Rattle.txn_base.specs.declared.reply.Reply.TheVariants as reply
use Rattle.txn_base.specs.declared.reply.Refusal.{Refusal}
use Rattle.txn_model.specs.Coord.{decision_of, closing_of, parts_of, closed}
use Rattle.txn_model.specs.World.{log_of}
use Rattle.txn_model.specs.Table.{TableState, with_batch, decision_batch, closing_batch, marked}
use Rattle.txn_model.specs.EarlyRows.{early_refusal}
use Rattle.txn_model.specs.LateRows.{late_refusal}
use Rattle.txn_model.specs.Successes.{Success, success_of}
use Rattle.txn_model.specs.Drive.{ended}
use Rattle.txn_model.specs.Answers.{tick_target, tick_reply, moved}

-- Each of these parts gets the marker d of x.
abbrev pub all_marked : TxnId → Decision → List ℕ → TableState → TableState
all_marked x d [] t = t
all_marked x d (p ∷ ps) t = all_marked x d ps (marked x d p t)

-- The drive of x to its close, by how it is closed already and how it is decided: nothing where it is closed.
abbrev pub drive_by : TxnId → TableState → Option Decision → Option Decision → Outcome × TableState
drive_by x t (Some d) decision = (ended (closed d), t)
drive_by x t None (Some d) = (ended (closed d), with_batch (closing_batch x d) (all_marked x d (parts_of (log_of t.world) x) t))
drive_by x t None None = (ended Open, t)

abbrev pub drive_of : TxnId → TableState → Outcome × TableState
drive_of x t = drive_by x t (closing_of (log_of t.world) x) (decision_of (log_of t.world) x)

-- The end of x by d: the decision is logged if x is open, and x is driven.
abbrev pub end_of : TableState → TxnId → Decision → Outcome × TableState
end_of t x d = drive_of x (with_batch (decision_batch t x d) t)

abbrev pub after_end : Decision → Outcome × TableState → Reply × TableState
after_end d done = (reply.Ended d done.0, done.1)

abbrev pub after_drive : TxnId → Outcome × TableState → Reply × TableState
after_drive x done = (tick_reply done.1 (Some (x, done.0)), done.1)

abbrev pub after_tick : TableState → Option TxnId → Reply × TableState
after_tick t None = (tick_reply t None, t)
after_tick t (Some x) = after_drive x (end_of t x Abort)

abbrev pub after_success : Success → TableState → Reply × TableState
after_success s t = (s.reply, record (with_batch s.adds t) { given = s.given })

abbrev pub plain_success : Limits → TableState → Request → Reply × TableState
plain_success limits t (request.Commit x) = after_end Commit (end_of t x Commit)
plain_success limits t (request.Abort x) = after_end Abort (end_of t x Abort)
plain_success limits t request.Tick = after_tick t (tick_target t)
plain_success limits t r = after_success (success_of limits t r) t

abbrev pub or_refused : TableState → Option Refusal → Reply × TableState → Reply × TableState
or_refused t (Some row) done = (reply.No row, t)
or_refused t None done = done

-- What a request is told, and what stands afterwards.
abbrev pub plain_answer : Limits → TableState → Request → Reply × TableState
plain_answer limits t r = or_refused t (option_or (early_refusal limits t.world r) (late_refusal limits t r)) (plain_success limits t r)

-- The replies to requests that come one after another, at these moments.
abbrev pub plain_replies : Limits → TableState → List (ℕ × Request) → List Reply
plain_replies limits t [] = []
plain_replies limits t (m ∷ ms) =
    let done : Reply × TableState = plain_answer limits (moved m.1 m.0 t) m.1 in
    done.0 ∷ plain_replies limits done.1 ms
