-- What a request names, and the lists of a world that it speaks of.
use Rattle.std.specs.Prelude.{ℕ, not, Bool, true, false, List, [], Option, Some, None, unwrap_or}
use Rattle.txn_base.specs.declared.txn.TxnId.{TxnId}
use Rattle.txn_base.specs.declared.entry.TopicEntry.{TopicEntry}
use Rattle.txn_base.specs.declared.entry.AckEntry.{AckEntry}
use Rattle.txn_base.specs.declared.request.Ack.{Ack}
use Rattle.txn_base.specs.declared.request.Ack.TheVariants.{These, UpTo}
use Rattle.txn_base.specs.declared.request.Request.{Request}
use Rattle.txn_base.specs.declared.request.Request.TheVariants as request
use Rattle.txn_base.specs.Names.{is_sub, topic_of}
use Rattle.txn_model.specs.declared.world.World.{World}
use Rattle.txn_model.specs.Words.{list_at}
use Rattle.txn_model.specs.Names.{part_of}
use Rattle.txn_model.specs.Topic.{limit_of}

-- The part that a request names.
abbrev pub named : Request → Option (List ℕ)
named (request.Add x part) = Some part
named (request.Publish topic who bodies) = Some topic
named (request.Ack sub who places) = Some sub
named (request.AckUpTo sub who place) = Some sub
named (request.Read topic first max) = Some topic
named (request.Receive sub max) = Some sub
named (request.Redeliver sub) = Some sub
named _ = None

-- A name is of the kind that a request wants.
abbrev pub fits_kind : Request → List ℕ → Bool
fits_kind (request.Add x part) name = true
fits_kind (request.Publish topic who bodies) name = not (is_sub name)
fits_kind (request.Read topic first max) name = not (is_sub name)
fits_kind _ name = is_sub name

-- The transaction that a request names.
abbrev pub txn_of : Request → Option TxnId
txn_of (request.Add x part) = Some x
txn_of (request.Publish topic who bodies) = who
txn_of (request.Ack sub who places) = who
txn_of (request.AckUpTo sub who place) = who
txn_of (request.Commit x) = Some x
txn_of (request.Abort x) = Some x
txn_of (request.Status x) = Some x
txn_of _ = None

-- What a request acknowledges.
abbrev pub ack_asked : Request → Option Ack
ack_asked (request.Ack sub who places) = Some (These places)
ack_asked (request.AckUpTo sub who place) = Some (UpTo place)
ack_asked _ = None

-- A request adds a message or a hold where it names a transaction.
abbrev pub adds_inside : Request → Bool
adds_inside (request.Publish topic who bodies) = true
adds_inside (request.Ack sub who places) = true
adds_inside (request.AckUpTo sub who place) = true
adds_inside _ = false

-- In a world, the number of the part with this name.
abbrev pub number_of : World → List ℕ → ℕ
number_of w name = unwrap_or (part_of w.names name) 0

-- The name that a request names; in a world, its part's number, and that of its topic, which for a subscription is the
-- topic that it belongs to.
abbrev pub name_in : Request → List ℕ
name_in r = unwrap_or (named r) []

abbrev pub part_in : World → Request → ℕ
part_in w r = number_of w (name_in r)

abbrev pub topic_in : World → Request → ℕ
topic_in w r = number_of w (topic_of (name_in r))

-- In a world, for a request, the topic's list, the subscription's list, and the limit.
abbrev pub topic_list : World → Request → List TopicEntry
topic_list w r = list_at w.topics (topic_in w r)

abbrev pub ack_list : World → Request → List AckEntry
ack_list w r = list_at w.subs (part_in w r)

abbrev pub limit_in : World → Request → ℕ
limit_in w r = limit_of (topic_list w r)
