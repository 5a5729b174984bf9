-- Lists that are lawful and lists that aren't, computed.
use Rattle.std.specs.Prelude.{◌≡◌, false, [], ◌∷◌, Some, None, codes, refl}
use Rattle.txn_base.specs.declared.entry.CoordEntry.TheVariants as coord
use Rattle.txn_base.specs.declared.entry.TopicEntry.TheVariants as topic
use Rattle.txn_base.specs.declared.entry.AckEntry.TheVariants as ack
use Rattle.txn_model.proofs.Words.{all_follow, list_at, coord_skeletons, topic_skeletons, NamesLawful, name_allows, coord_allows, CoordLawful, parts_of, part_allows, TopicLawful, ack_allows, AckLawful, holder_of, txn, low_of, log_of, TableState, fresh}
use Rattle.txn_base.specs.declared.request.Request.TheVariants as request
use Rattle.txn_base.specs.Bytes.{only_bytes}
use Rattle.txn_model.proofs.Worked.{orders, billing, after}

-- messages and acknowledgements of two transactions, one committed and one aborted, and plain ones
abbrev busy : TableState
busy = after (fresh (orders ∷ billing ∷ [])) (
    request.Publish orders None (codes "a" ∷ codes "b" ∷ codes "c" ∷ codes "d" ∷ []) ∷ request.New 60000 ∷ request.New 60000
    ∷ request.Add (txn 0) billing ∷ request.Add (txn 0) orders ∷ request.Add (txn 1) billing
    ∷ request.Publish orders (Some (txn 0)) (codes "e" ∷ [])
    ∷ request.Ack billing (Some (txn 0)) (2 ∷ 0 ∷ 2 ∷ []) ∷ request.AckUpTo billing (Some (txn 1)) 3 ∷ request.Ack billing (Some (txn 1)) (1 ∷ [])
    ∷ request.Abort (txn 1) ∷ request.Commit (txn 0) ∷ request.Ack billing None (0 ∷ 1 ∷ []) ∷ request.AckUpTo billing None 5 ∷ [])

pub its_names_are_lawful : NamesLawful busy.world.names
its_names_are_lawful = refl

pub its_log_is_lawful : CoordLawful 2 (log_of busy.world)
its_log_is_lawful = refl

pub its_topic_is_lawful : TopicLawful (list_at busy.world.topics 1)
its_topic_is_lawful = refl

pub its_acks_are_lawful : AckLawful (list_at busy.world.subs 2)
its_acks_are_lawful = refl

-- the list of the subscription: places in order and once, the conflicting cumulative one left out
pub its_acks : list_at busy.world.subs 2 ≡
    ack.Hold (txn 0) (0 ∷ 2 ∷ []) ∷ ack.Hold (txn 1) (1 ∷ []) ∷ ack.Abort (txn 1) ∷ ack.Commit (txn 0) ∷ ack.Plain (1 ∷ []) ∷ ack.PlainUpTo 5 ∷ []
its_acks = refl

pub its_parts : parts_of (log_of busy.world) (txn 0) ≡ 1 ∷ 2 ∷ []
its_parts = refl

pub its_low : low_of busy.world.coord ≡ 2
its_low = refl

-- nothing of a transaction follows its marker
pub message_after_marker : all_follow part_allows [] (topic_skeletons (topic.Commit (txn 0) ∷ topic.Opened (txn 0) (only_bytes []) ∷ [])) ≡ false
message_after_marker = refl

pub second_marker : all_follow part_allows [] (topic_skeletons (topic.Commit (txn 0) ∷ topic.Abort (txn 0) ∷ [])) ≡ false
second_marker = refl

-- no decision has a second; nothing is closed undecided; a part is added once, within the named ones
pub second_decision : all_follow (coord_allows 1) [] (coord_skeletons (coord.New (txn 0) 1 ∷ coord.Committing (txn 0) ∷ coord.Aborting (txn 0) ∷ [])) ≡ false
second_decision = refl

pub closed_undecided : all_follow (coord_allows 1) [] (coord_skeletons (coord.New (txn 0) 1 ∷ coord.Committed (txn 0) ∷ [])) ≡ false
closed_undecided = refl

pub added_twice : all_follow (coord_allows 1) [] (coord_skeletons (coord.New (txn 0) 1 ∷ coord.AddPart (txn 0) 1 ∷ coord.AddPart (txn 0) 1 ∷ [])) ≡ false
added_twice = refl

pub added_unnamed : all_follow (coord_allows 1) [] (coord_skeletons (coord.New (txn 0) 1 ∷ coord.AddPart (txn 0) 2 ∷ [])) ≡ false
added_unnamed = refl

-- a cumulative hold passes over no other's individual one, and its own are fine
pub passes_over : all_follow ack_allows [] (ack.Hold (txn 0) (1 ∷ []) ∷ ack.HoldUpTo (txn 1) 3 ∷ []) ≡ false
passes_over = refl

pub over_its_own : AckLawful (ack.Hold (txn 0) (1 ∷ []) ∷ ack.HoldUpTo (txn 0) 3 ∷ [])
over_its_own = refl

pub held_and_acked : holder_of (ack.Plain (0 ∷ []) ∷ ack.HoldUpTo (txn 0) 3 ∷ []) 0 ≡ None
held_and_acked = refl

pub held : holder_of (ack.Plain (0 ∷ []) ∷ ack.HoldUpTo (txn 0) 3 ∷ []) 2 ≡ Some (txn 0)
held = refl

-- a subscription's topic stands before it
pub orphan : all_follow name_allows [] (billing ∷ orders ∷ []) ≡ false
orphan = refl
