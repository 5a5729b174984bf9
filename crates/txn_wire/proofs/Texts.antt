-- The data of a reply, and its text.
use Rattle.std.proofs.Common.{◌≡◌, List, [], ◌∷◌, ◌++◌, false, Option, Some, None, refl, ap, ap₂}
use Rattle.serde_json.specs.Data.{no_items, item}
use Rattle.serde_json.specs.View.{view, items_view}
use Rattle.serde_json.specs.Written.{has_float, items_have_float, members_have_float}
use Rattle.serde_json.specs.declared.value.Value.{Value}
use Rattle.txn_base.specs.declared.messages.Message.{Message}
use Rattle.txn_base.specs.declared.txn.TxnId.{TxnId}
use Rattle.txn_base.specs.declared.txn.Status.{Status}
use Rattle.txn_base.specs.declared.reply.Stuck.{Stuck}
use Rattle.txn_base.specs.declared.reply.Driven.{Driven}
use Rattle.txn_base.specs.declared.reply.Reply.{Reply}
use Rattle.txn_base.specs.declared.reply.Reply.TheVariants as reply
use Rattle.txn_base.specs.declared.reply.Refusal.{Refusal}
use Rattle.txn_base.specs.declared.reply.Refusal.TheVariants as refusal
use Rattle.txn_wire.specs.Replies.{message_data, messages_data, ended_members, driven_members, drove_members, refusal_data, reply_data}

-- one more message
pub messages_push : (vs : List Value) (v : Value) (ms : List Message) (m : Message) → items_view vs ≡ messages_data ms → view v ≡ message_data m → items_view (vs ++ v ∷ []) ≡ messages_data (ms ++ m ∷ [])
messages_push [] v [] m e h = ap (λ d. item d no_items) h
messages_push [] v (n ∷ ms) m e h = cc
messages_push (w ∷ vs) v [] m e h = cc
messages_push (w ∷ vs) v (n ∷ ms) m e h =
    let heads : view w ≡ message_data n = cc in
    let tails : items_view vs ≡ messages_data ms = cc in
    ap₂ item heads (messages_push vs v ms m tails h)

messages_whole : (ms : List Message) → items_have_float (messages_data ms) ≡ false
messages_whole [] = refl
messages_whole (m ∷ ms) = messages_whole ms

refusal_whole : (r : Refusal) → has_float (refusal_data r) ≡ false
refusal_whole refusal.TooLong = refl
refusal_whole refusal.BadLine = refl
refusal_whole refusal.BadTimeout = refl
refusal_whole refusal.BadPlaces = refl
refusal_whole refusal.TooBig = refl
refusal_whole refusal.NoMemory = refl
refusal_whole refusal.NotFound = refl
refusal_whole refusal.Empty = refl
refusal_whole (refusal.UnknownPart name) = refl
refusal_whole (refusal.WrongKind name) = refl
refusal_whole (refusal.UnknownCoordinator n) = refl
refusal_whole (refusal.NotOpen status) = refl
refusal_whole (refusal.NotRegistered part) = refl
refusal_whole (refusal.Fault part) = refl
refusal_whole (refusal.Recovering part at total) = refl
refusal_whole (refusal.Damaged part place) = refl
refusal_whole (refusal.Unread place limit) = refl
refusal_whole (refusal.AlreadyAcked place) = refl
refusal_whole (refusal.Conflict place holder) = refl
refusal_whole (refusal.Full w n) = refl

ended_whole : (status : Status) (stuck : Option Stuck) → members_have_float (ended_members status stuck) ≡ false
ended_whole status None = refl
ended_whole status (Some stuck) = refl

driven_whole : (txn : TxnId) (status : Status) (stuck : Option Stuck) → members_have_float (driven_members txn status stuck) ≡ false
driven_whole txn status None = refl
driven_whole txn status (Some stuck) = refl

drove_whole : (drove : Option Driven) → members_have_float (drove_members drove) ≡ false
drove_whole None = refl
drove_whole (Some driven) = driven_whole driven.txn driven.outcome.status driven.outcome.stuck

-- no reply has a float
pub reply_whole : (r : Reply) → has_float (reply_data r) ≡ false
reply_whole (reply.New txn) = refl
reply_whole reply.Add = refl
reply_whole (reply.Publish place n) = refl
reply_whole reply.Ack = refl
reply_whole reply.AckUpTo = refl
reply_whole (reply.Ended decision outcome) = ended_whole outcome.status outcome.stuck
reply_whole (reply.Status status) = refl
reply_whole (reply.Read limit messages) = rw (messages_whole messages) refl
reply_whole (reply.Receive messages) = rw (messages_whole messages) refl
reply_whole reply.Redeliver = refl
reply_whole (reply.Tick now left drove) = drove_whole drove
reply_whole reply.Stop = refl
reply_whole (reply.No refusal) = refusal_whole refusal
