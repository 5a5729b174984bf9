-- The definitions of single lists, computed on small ones.
use Rattle.std.specs.Prelude.{◌≡◌, ℕ, true, false, List, [], ◌∷◌, map, Option, Some, None, codes, refl}
use Rattle.txn_base.specs.Limits.{standard}
use Rattle.txn_model.proofs.Words.{Limits, Commit, Abort, Open, Committing, Committed, Aborting, Aborted, CoreEntry, CoordEntry, TopicEntry, AckEntry, first_bad, coord_skeletons, topic_skeletons, message_at, coord_allows, status_of, decision_of, closing_of, parts_of, count_new, txn, low_of, first_due, first_undriven, left_of, marker_of, part_allows, limit_of, visible_of, read_slice, visible_places, is_acked, holder_of, held_count, ack_allows}
use Rattle.txn_base.specs.declared.core_entry.CoreEntry.TheVariants as core
use Rattle.txn_base.specs.declared.entry.CoordEntry.TheVariants as coord
use Rattle.txn_base.specs.declared.entry.TopicEntry.TheVariants as topic
use Rattle.txn_base.specs.declared.entry.AckEntry.TheVariants as ack
use Rattle.txn_base.specs.Bytes.{only_bytes}

-- ---- A coordinator's log, in which each status stands.

abbrev log : List CoordEntry
log =
    coord.New (txn 0) 9 ∷ coord.New (txn 1) 7 ∷ coord.AddPart (txn 0) 2 ∷ coord.New (txn 2) 7 ∷ coord.New (txn 3) 1 ∷ coord.New (txn 4) 1 ∷ coord.New (txn 5) 8
    ∷ coord.AddPart (txn 0) 1 ∷ coord.Aborting (txn 3) ∷ coord.Committing (txn 0) ∷ coord.Committing (txn 4) ∷ coord.Aborted (txn 3) ∷ coord.Committed (txn 0) ∷ coord.Aborting (txn 5) ∷ []

abbrev its : List CoreEntry
its = coord_skeletons log

pub its_statuses : map (λ k. status_of its (txn k)) (0 ∷ 1 ∷ 3 ∷ 4 ∷ 5 ∷ 6 ∷ []) ≡ Some Committed ∷ Some Open ∷ Some Aborted ∷ Some Committing ∷ Some Aborting ∷ None ∷ []
its_statuses = refl

pub its_decisions : map (λ k. decision_of its (txn k)) (0 ∷ 1 ∷ 3 ∷ 4 ∷ 5 ∷ 6 ∷ []) ≡ Some Commit ∷ None ∷ Some Abort ∷ Some Commit ∷ Some Abort ∷ None ∷ []
its_decisions = refl

pub its_closings : map (λ k. closing_of its (txn k)) (0 ∷ 1 ∷ 3 ∷ 4 ∷ 5 ∷ 6 ∷ []) ≡ Some Commit ∷ None ∷ Some Abort ∷ None ∷ None ∷ None ∷ []
its_closings = refl

pub its_parts : parts_of its (txn 0) ≡ 1 ∷ 2 ∷ []
its_parts = refl

pub its_count : count_new its ≡ 6
its_count = refl

pub its_low : low_of log ≡ 1
its_low = refl

-- two have the same deadline, and the least number comes first; at 6 none is due
pub its_due : map (first_due log) (6 ∷ 7 ∷ 9 ∷ []) ≡ None ∷ Some (txn 1) ∷ Some (txn 1) ∷ []
its_due = refl

pub its_undriven : first_undriven log ≡ Some (txn 4)
its_undriven = refl

-- two are undriven, and from 7 on two more are expired
pub its_left : map (left_of log) (6 ∷ 7 ∷ []) ≡ 2 ∷ 4 ∷ []
its_left = refl

-- ---- Logs over two named parts, and the entry at which each stops being lawful.

abbrev logs : List (List CoreEntry × Option ℕ)
logs =
    ([], None)
    ∷ (its, None)
    ∷ (core.New (txn 1) ∷ [], Some 0)
    ∷ (core.New (record { most = 1; least = 0 }) ∷ [], Some 0)
    ∷ (core.New (txn 0) ∷ core.New (txn 0) ∷ [], Some 1)
    ∷ (core.New (txn 0) ∷ core.New (txn 2) ∷ core.New (txn 1) ∷ [], Some 1)
    ∷ (core.AddPart (txn 0) 1 ∷ core.New (txn 0) ∷ [], Some 0)
    ∷ (core.New (txn 0) ∷ core.AddPart (txn 0) 0 ∷ [], Some 1)
    ∷ (core.New (txn 0) ∷ core.AddPart (txn 0) 2 ∷ core.AddPart (txn 0) 3 ∷ [], Some 2)
    ∷ (core.New (txn 0) ∷ core.AddPart (txn 0) 2 ∷ core.AddPart (txn 0) 2 ∷ [], Some 2)
    ∷ (core.New (txn 0) ∷ core.Committing (txn 0) ∷ core.AddPart (txn 0) 1 ∷ [], Some 2)
    ∷ (core.Committing (txn 0) ∷ [], Some 0)
    ∷ (core.New (txn 0) ∷ core.Committing (txn 0) ∷ core.Committing (txn 0) ∷ [], Some 2)
    ∷ (core.New (txn 0) ∷ core.Committing (txn 0) ∷ core.Aborting (txn 0) ∷ [], Some 2)
    ∷ (core.New (txn 0) ∷ core.Committed (txn 0) ∷ [], Some 1)
    ∷ (core.New (txn 0) ∷ core.Aborted (txn 0) ∷ [], Some 1)
    ∷ (core.New (txn 0) ∷ core.Committing (txn 0) ∷ core.Aborted (txn 0) ∷ [], Some 2)
    ∷ (core.New (txn 0) ∷ core.Aborting (txn 0) ∷ core.Committed (txn 0) ∷ [], Some 2)
    ∷ (core.New (txn 0) ∷ core.Aborting (txn 0) ∷ core.Aborted (txn 0) ∷ core.Aborted (txn 0) ∷ [], Some 3)
    ∷ (core.New (txn 0) ∷ core.New (txn 1) ∷ core.Aborting (txn 0) ∷ core.Aborted (txn 1) ∷ [], Some 3)
    ∷ (core.New (txn 0) ∷ core.Plain ∷ [], Some 1)
    ∷ []

pub logs_stop_there : map (λ row. first_bad (coord_allows 2) row.0) logs ≡ map (λ row. row.1) logs
logs_stop_there = refl

-- ---- Ledgers of a topic, and the entry at which each stops being lawful.

abbrev ledgers : List (List CoreEntry × Option ℕ)
ledgers =
    ([], None)
    ∷ (core.Plain ∷ core.Inside (txn 0) ∷ core.Plain ∷ core.Inside (txn 1) ∷ core.Marker (txn 0) Commit ∷ core.Inside (txn 1) ∷ [], None)
    ∷ (core.Marker (txn 0) Abort ∷ core.Marker (txn 1) Commit ∷ core.Plain ∷ [], None)
    ∷ (core.Inside (txn 0) ∷ core.Marker (txn 0) Commit ∷ core.Inside (txn 0) ∷ [], Some 2)
    ∷ (core.Marker (txn 0) Abort ∷ core.Plain ∷ core.Inside (txn 0) ∷ [], Some 2)
    ∷ (core.Marker (txn 0) Commit ∷ core.Marker (txn 0) Commit ∷ [], Some 1)
    ∷ (core.Marker (txn 0) Commit ∷ core.Marker (txn 1) Commit ∷ core.Marker (txn 0) Abort ∷ core.Inside (txn 1) ∷ [], Some 2)
    ∷ (core.Plain ∷ core.New (txn 0) ∷ [], Some 1)
    ∷ []

pub ledgers_stop_there : map (λ row. first_bad part_allows row.0) ledgers ≡ map (λ row. row.1) ledgers
ledgers_stop_there = refl

-- ---- What a commit leaves in a topic: a message of the transaction, a plain one, and the marker.

abbrev plain : List ℕ → TopicEntry
plain body = topic.Plain (only_bytes body)

abbrev inside : ℕ → List ℕ → TopicEntry
inside k body = topic.Opened (txn k) (only_bytes body)

abbrev committed : List TopicEntry
committed = inside 0 (codes "b") ∷ plain (codes "c") ∷ topic.Commit (txn 0) ∷ []

pub its_limit : limit_of committed ≡ 3
its_limit = refl

pub its_visible : visible_of committed ≡ message_at 0 (codes "b") ∷ message_at 1 (codes "c") ∷ []
its_visible = refl

pub its_marker : marker_of (topic_skeletons committed) (txn 0) ≡ Some Commit
its_marker = refl

-- the earliest open transaction bounds the read position, and an aborted message is passed over
abbrev bounded : List TopicEntry
bounded =
    plain (codes "a") ∷ inside 0 (codes "b") ∷ inside 1 (codes "c") ∷ topic.Abort (txn 0) ∷ plain (codes "d") ∷ inside 2 (codes "e") ∷ topic.Commit (txn 2) ∷ []

pub bounded_limit : limit_of bounded ≡ 2
bounded_limit = refl

pub bounded_visible : visible_of bounded ≡ message_at 0 (codes "a") ∷ []
bounded_visible = refl

pub bounded_places : visible_places (topic_skeletons bounded) ≡ 0 ∷ []
bounded_places = refl

-- of two markers the first one counts
pub first_marker_counts : marker_of (core.Marker (txn 1) Commit ∷ core.Marker (txn 0) Abort ∷ core.Marker (txn 0) Commit ∷ []) (txn 0) ≡ Some Abort
first_marker_counts = refl

-- ---- The slice of a read.

abbrev three : List TopicEntry
three = plain (codes "abc") ∷ plain (codes "de") ∷ plain (codes "f") ∷ []

abbrev reading : ℕ → ℕ → Limits
reading messages bytes = record standard { read_messages = messages; read_bytes = bytes }

pub cut_by_max : read_slice standard three 0 2 ≡ message_at 0 (codes "abc") ∷ message_at 1 (codes "de") ∷ []
cut_by_max = refl

pub cut_by_count : read_slice (reading 1 100) three 1 10 ≡ message_at 1 (codes "de") ∷ []
cut_by_count = refl

pub cut_by_bytes : read_slice (reading 100 5) three 0 10 ≡ message_at 0 (codes "abc") ∷ message_at 1 (codes "de") ∷ []
cut_by_bytes = refl

-- the first one is given whatever its size, and none behind it
pub first_is_given : read_slice (reading 100 2) three 0 10 ≡ message_at 0 (codes "abc") ∷ []
first_is_given = refl

pub nothing_past_the_end : read_slice standard three 3 10 ≡ []
nothing_past_the_end = refl

-- ---- A subscription's list.

abbrev acks : List AckEntry
acks =
    ack.Hold (txn 0) (4 ∷ 6 ∷ []) ∷ ack.Plain (1 ∷ []) ∷ ack.Hold (txn 1) (2 ∷ []) ∷ ack.HoldUpTo (txn 2) 0 ∷ ack.Hold (txn 3) (7 ∷ 8 ∷ 9 ∷ [])
    ∷ ack.Commit (txn 0) ∷ ack.Abort (txn 1) ∷ []

pub its_acked : map (is_acked acks) (0 ∷ 1 ∷ 2 ∷ 4 ∷ 5 ∷ 6 ∷ 7 ∷ []) ≡ false ∷ true ∷ false ∷ true ∷ false ∷ true ∷ false ∷ []
its_acked = refl

pub its_holders : map (holder_of acks) (0 ∷ 1 ∷ 2 ∷ 4 ∷ 8 ∷ []) ≡ Some (txn 2) ∷ None ∷ None ∷ None ∷ Some (txn 3) ∷ []
its_holders = refl

pub its_held : held_count acks ≡ 3
its_held = refl

abbrev subs : List (List AckEntry × Option ℕ)
subs =
    ([], None)
    ∷ (acks, None)
    ∷ (ack.Plain (1 ∷ []) ∷ ack.Plain (0 ∷ 1 ∷ []) ∷ [], Some 1)
    ∷ (ack.Hold (txn 0) (1 ∷ []) ∷ ack.Plain (1 ∷ []) ∷ [], Some 1)
    ∷ (ack.Hold (txn 0) (1 ∷ []) ∷ ack.Hold (txn 0) (1 ∷ []) ∷ [], Some 1)
    ∷ (ack.Hold (txn 0) (1 ∷ []) ∷ ack.PlainUpTo 0 ∷ ack.PlainUpTo 1 ∷ [], Some 2)
    ∷ (ack.PlainUpTo 2 ∷ ack.PlainUpTo 1 ∷ [], Some 1)
    ∷ (ack.HoldUpTo (txn 0) 1 ∷ ack.HoldUpTo (txn 0) 1 ∷ [], Some 1)
    ∷ (ack.HoldUpTo (txn 0) 1 ∷ ack.HoldUpTo (txn 1) 2 ∷ [], Some 1)
    ∷ (ack.Hold (txn 0) (1 ∷ []) ∷ ack.Commit (txn 0) ∷ ack.Hold (txn 0) (2 ∷ []) ∷ [], Some 2)
    ∷ (ack.Abort (txn 0) ∷ ack.Commit (txn 0) ∷ [], Some 1)
    ∷ []

pub subs_stop_there : map (λ row. first_bad ack_allows row.0) subs ≡ map (λ row. row.1) subs
subs_stop_there = refl
