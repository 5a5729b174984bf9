-- Why a publish in a transaction is refused by the lists.
use Rattle.std.specs.Prelude.{ℕ, ◌==◌, not, Bool, true, false, Option, Some, None, option_map, is_some, List, Result, Ok, Err}
use Rattle.txn_base.specs.declared.core_entry.CoreEntry.{CoreEntry}
use Rattle.txn_base.specs.declared.reply.Reply.{Reply}
use Rattle.txn_base.specs.declared.reply.Reply.TheVariants as reply
use Rattle.txn_base.specs.declared.reply.Refusal.{Refusal}
use Rattle.txn_base.specs.declared.reply.Refusal.TheVariants as no
use Rattle.txn_base.specs.declared.reply.What.TheVariants.{Log}
use Rattle.txn_base.specs.declared.txn.TxnId.{TxnId}
use Rattle.txn_base.specs.declared.txn.Status.{Status}
use Rattle.txn_base.specs.declared.txn.Status.TheVariants.{Open}
use Rattle.txn_model.specs.Coord.{status_of, in_parts}
use Rattle.txn_model.specs.Topic.{marker_of}
use Rattle.txn_model.specs.Words.{that}
use Rattle.txn_buffer.specs.declared.error.TopicError.{TopicError}
use Rattle.txn_buffer.specs.declared.error.TopicError.TheVariants as topic_error
use Rattle.txn_engine.specs.declared.publish.WhyNot.{WhyNot}
use Rattle.txn_engine.specs.declared.publish.WhyNot.TheVariants as why_not

-- The number of the coordinator of a transaction, where that isn't 0.
abbrev pub foreign : Option TxnId → Option ℕ
foreign who = that (λ k. not (k == 0)) (option_map (λ x. x.most) who)

-- By its status, whether the topic has a marker of it, and whether the topic is registered for it.
abbrev pub why_not_by : Option Status → Bool → Bool → Option WhyNot
why_not_by None ended registered = Some why_not.NotFound
why_not_by (Some Open) false true = None
why_not_by (Some Open) false false = Some why_not.NotRegistered
why_not_by (Some status) ended registered = Some (why_not.NotOpen status)

-- By the coordinator's log and the list of the topic, which is the part p.
abbrev pub why_not_in : List CoreEntry → List CoreEntry → ℕ → Option TxnId → Option WhyNot
why_not_in c es p None = None
why_not_in c es p (Some x) = why_not_by (status_of c x) (is_some (marker_of es x)) (in_parts c x p)

-- What is told of it, where the topic has this name.
abbrev pub why_refusal : List ℕ → WhyNot → Refusal
why_refusal topic why_not.NotFound = no.NotFound
why_refusal topic (why_not.NotOpen status) = no.NotOpen status
why_refusal topic why_not.NotRegistered = no.NotRegistered topic

-- What is told of so many messages that were published to the topic of this name or not.
abbrev pub publish_reply : List ℕ → ℕ → Result ℕ TopicError → Reply
publish_reply topic count (Ok place) = reply.Publish place count
publish_reply topic count (Err (topic_error.Full n)) = reply.No (no.Full Log n)
publish_reply topic count (Err (topic_error.Damaged place)) = reply.No (no.Damaged topic place)
publish_reply topic count (Err topic_error.Fault) = reply.No (no.Fault topic)
publish_reply topic count (Err topic_error.NoMemory) = reply.No no.NoMemory
