-- The text of a reply.
use Rattle.std.specs.Prelude.{ℕ, List, [], ◌∷◌, ◌++◌, codes, Option, Some, None}
use Rattle.serde_json.specs.Data.{Data, number, unsigned, string, array, object, Items, no_items, item, Members, no_members, member}
use Rattle.serde_json.specs.Written.{compact_text}
use Rattle.txn_base.specs.declared.txn.TxnId.{TxnId}
use Rattle.txn_base.specs.declared.txn.Decision.{Decision}
use Rattle.txn_base.specs.declared.txn.Decision.TheVariants.{Commit, Abort}
use Rattle.txn_base.specs.declared.txn.Status.{Status}
use Rattle.txn_base.specs.declared.txn.Status.TheVariants.{Open, Committing, Committed, Aborting, Aborted}
use Rattle.txn_base.specs.declared.messages.Message.{Message}
use Rattle.txn_base.specs.declared.reply.Stuck.{Stuck}
use Rattle.txn_base.specs.declared.reply.Driven.{Driven}
use Rattle.txn_base.specs.declared.reply.Why.{Why}
use Rattle.txn_base.specs.declared.reply.Why.TheVariants as why
use Rattle.txn_base.specs.declared.reply.What.{What}
use Rattle.txn_base.specs.declared.reply.What.TheVariants as what
use Rattle.txn_base.specs.declared.reply.Reply.{Reply}
use Rattle.txn_base.specs.declared.reply.Reply.TheVariants as reply
use Rattle.txn_base.specs.declared.reply.Refusal.{Refusal}
use Rattle.txn_base.specs.declared.reply.Refusal.TheVariants as refusal

-- The word of a decision, of a status, of why a drive stopped, and of what is full.
abbrev pub decision_word : Decision → List ℕ
decision_word Commit = codes "commit"
decision_word Abort = codes "abort"

abbrev pub status_word : Status → List ℕ
status_word Open = codes "open"
status_word Committing = codes "committing"
status_word Committed = codes "committed"
status_word Aborting = codes "aborting"
status_word Aborted = codes "aborted"

abbrev pub why_word : Why → List ℕ
why_word why.Fault = codes "fault"
why_word why.Recovering = codes "recovering"
why_word why.Memory = codes "memory"

abbrev pub what_word : What → List ℕ
what_word what.Transactions = codes "transactions"
what_word what.Log = codes "log"
what_word what.Held = codes "held"

-- A number.
abbrev pub whole : ℕ → Data
whole n = number (unsigned n)

-- An id is the list of its two numbers.
abbrev pub id_data : TxnId → Data
id_data txn = array (item (whole txn.most) (item (whole txn.least) no_items))

-- A message is the list of its place and its body.
abbrev pub message_data : Message → Data
message_data m = array (item (whole m.place) (item (string m.body) no_items))

abbrev pub messages_data : List Message → Items
messages_data [] = no_items
messages_data (m ∷ ms) = item (message_data m) (messages_data ms)

-- A member whose value is a word.
abbrev pub word : List ℕ → List ℕ → Members → Members
word key text rest = member key (string text) rest

-- A member whose value is a number.
abbrev pub num : List ℕ → ℕ → Members → Members
num key n rest = member key (whole n) rest

-- The object with nothing but this word.
abbrev pub done : List ℕ → Data
done name = object (word (codes "ok") name no_members)

abbrev pub refused : List ℕ → Data
refused name = object (word (codes "no") name no_members)

-- An end: its word, its status, and where and why its drive stopped, if it did.
abbrev pub ended_members : Status → Option Stuck → Members
ended_members status None = word (codes "status") (status_word status) no_members
ended_members status (Some stuck) = word (codes "part") stuck.part (word (codes "status") (status_word status) (word (codes "why") (why_word stuck.why) no_members))

-- What a tick drove: its status and id, and where and why its drive stopped, if it did.
abbrev pub drive_and_why_members : TxnId → Status → Why → Members
drive_and_why_members txn status w = word (codes "status") (status_word status) (member (codes "txn") (id_data txn) (word (codes "why") (why_word w) no_members))

abbrev pub driven_members : TxnId → Status → Option Stuck → Members
driven_members txn status None = word (codes "status") (status_word status) (member (codes "txn") (id_data txn) no_members)
driven_members txn status (Some stuck) = word (codes "part") stuck.part (drive_and_why_members txn status stuck.why)

abbrev pub drove_members : Option Driven → Members
drove_members None = no_members
drove_members (Some driven) = driven_members driven.txn driven.outcome.status driven.outcome.stuck

-- The object of a refusal, its keys in the order of their bytes.
abbrev pub refusal_data : Refusal → Data
refusal_data refusal.TooLong = refused (codes "too_long")
refusal_data refusal.BadLine = refused (codes "bad_line")
refusal_data refusal.BadTimeout = refused (codes "bad_timeout")
refusal_data refusal.BadPlaces = refused (codes "bad_places")
refusal_data refusal.TooBig = refused (codes "too_big")
refusal_data refusal.NoMemory = refused (codes "no_memory")
refusal_data refusal.NotFound = refused (codes "not_found")
refusal_data refusal.Empty = refused (codes "empty")
refusal_data (refusal.UnknownPart name) = object (word (codes "name") name (word (codes "no") (codes "unknown_part") no_members))
refusal_data (refusal.WrongKind name) = object (word (codes "name") name (word (codes "no") (codes "wrong_kind") no_members))
refusal_data (refusal.UnknownCoordinator n) = object (word (codes "no") (codes "unknown_coordinator") (num (codes "number") n no_members))
refusal_data (refusal.NotOpen status) = object (word (codes "no") (codes "not_open") (word (codes "status") (status_word status) no_members))
refusal_data (refusal.NotRegistered part) = object (word (codes "no") (codes "not_registered") (word (codes "part") part no_members))
refusal_data (refusal.Fault part) = object (word (codes "no") (codes "fault") (word (codes "part") part no_members))
refusal_data (refusal.Recovering part at total) =
    object (num (codes "at") at (word (codes "no") (codes "recovering") (num (codes "of") total (word (codes "part") part no_members))))
refusal_data (refusal.Damaged part place) = object (word (codes "no") (codes "damaged") (word (codes "part") part (num (codes "place") place no_members)))
refusal_data (refusal.Unread place limit) = object (num (codes "limit") limit (word (codes "no") (codes "unread") (num (codes "place") place no_members)))
refusal_data (refusal.AlreadyAcked place) = object (word (codes "no") (codes "already_acked") (num (codes "place") place no_members))
refusal_data (refusal.Conflict place holder) = object (member (codes "by") (id_data holder) (word (codes "no") (codes "conflict") (num (codes "place") place no_members)))
refusal_data (refusal.Full w n) = object (num (codes "count") n (word (codes "no") (codes "full") (word (codes "what") (what_word w) no_members)))

-- The object of a reply, its keys in the order of their bytes.
abbrev pub reply_data : Reply → Data
reply_data (reply.New txn) = object (word (codes "ok") (codes "new") (member (codes "txn") (id_data txn) no_members))
reply_data reply.Add = done (codes "add")
reply_data (reply.Publish place n) = object (num (codes "at") place (num (codes "count") n (word (codes "ok") (codes "publish") no_members)))
reply_data reply.Ack = done (codes "ack")
reply_data reply.AckUpTo = done (codes "ack_upto")
reply_data (reply.Ended decision outcome) = object (word (codes "ok") (decision_word decision) (ended_members outcome.status outcome.stuck))
reply_data (reply.Status status) = object (word (codes "ok") (codes "status") (word (codes "status") (status_word status) no_members))
reply_data (reply.Read limit messages) =
    object (num (codes "limit") limit (member (codes "messages") (array (messages_data messages)) (word (codes "ok") (codes "read") no_members)))
reply_data (reply.Receive messages) = object (member (codes "messages") (array (messages_data messages)) (word (codes "ok") (codes "receive") no_members))
reply_data reply.Redeliver = done (codes "redeliver")
reply_data (reply.Tick now left drove) = object (num (codes "left") left (num (codes "now") now (word (codes "ok") (codes "tick") (drove_members drove))))
reply_data reply.Stop = done (codes "stop")
reply_data (reply.No refusal) = refusal_data refusal

-- The compact text of the object, and a newline.
unfoldable pub text_of : Reply → List ℕ
text_of reply = compact_text (reply_data reply) ++ 10 ∷ []
