-- What every image of a run promises to readers and to clients, in the words of transactions.
use Rattle.std.specs.Prelude.{◌≡◌, ℕ, ◌<◌, ◌≤◌, true, false, List, ◌∷◌, ◌++◌, take, length, All, Some, None}
use mathlib.Core.List.{IsPrefix}
use Rattle.txn_base.specs.declared.core_entry.CoreEntry.{CoreEntry}
use Rattle.txn_base.specs.declared.core_entry.CoreEntry.TheVariants as core
use Rattle.txn_base.specs.declared.entry.TopicEntry.{TopicEntry}
use Rattle.txn_base.specs.declared.messages.Message.{Message}
use Rattle.txn_base.specs.declared.txn.Decision.{Decision}
use Rattle.txn_base.specs.declared.txn.Decision.TheVariants.{Commit}
use Rattle.txn_base.specs.declared.txn.TxnId.{TxnId}
use Rattle.txn_base.specs.Disk.{Files}
use Rattle.txn_base.specs.Names.{is_sub}
use Rattle.txn_model.specs.declared.world.World.{World}
use Rattle.txn_model.specs.Coord.{decision_of, closing_of, in_parts, decision_skeleton}
use Rattle.txn_model.specs.Entries.{message_of}
use Rattle.txn_model.specs.Names.{name_of}
use Rattle.txn_model.specs.Skeletons.{topic_skeleton, topic_skeletons}
use Rattle.txn_model.specs.Sound.{StandsFor}
use Rattle.txn_model.specs.Topic.{is_undecided, limit_of, marker_of, shown_from, visible_of}
use Rattle.txn_model.specs.Words.{list_at}
use Rattle.txn_model.specs.World.{log_of, part_skeletons, has_inside}

-- In a topic's list: what a cursor reads are, in order, the plain messages and those of committed transactions before the
-- limit. No entry before the limit is a message of an undecided transaction; and the limit is the end, or such a message
-- stands there.
pub record ReadsBeforeUndecided (es : List TopicEntry) : Type 0 where
  pub reads : visible_of es ≡ shown_from (topic_skeletons es) 0 (take (limit_of es) es)
  pub within : limit_of es ≤ length es
  pub before : (front behind : List TopicEntry) (e : TopicEntry) → es ≡ front ++ e ∷ behind → length front < limit_of es → is_undecided (topic_skeletons es) (topic_skeleton e) ≡ false
  pub at : (front behind : List TopicEntry) (e : TopicEntry) → es ≡ front ++ e ∷ behind → length front ≡ limit_of es → is_undecided (topic_skeletons es) (topic_skeleton e) ≡ true

-- By the log c, an entry is a plain message, or one of a transaction whose logged decision is Commit.
abbrev pub MayShow : List CoreEntry → CoreEntry → Type 0
MayShow c core.Plain = Unit {0}
MayShow c (core.Inside x) = decision_of c x ≡ Some Commit
MayShow c _ = ⊥

-- By the log c, the message is that of the entry at its place in the list, and may show.
pub record IsEffect (c : List CoreEntry) (es : List TopicEntry) (m : Message) : Type 0 where
  pub before : List TopicEntry
  pub entry : TopicEntry
  pub after : List TopicEntry
  pub split : es ≡ before ++ entry ∷ after
  pub place : m.place ≡ length before
  pub message : m ≡ message_of m.place entry
  pub caused : MayShow c (topic_skeleton entry)

-- In one world:
pub record Promises (w : World) : Type 0 where
  -- a cursor reads a prefix of the plain and committed messages, before the first undecided one
  pub cursor : (p : ℕ) → ReadsBeforeUndecided (list_at w.topics p)
  -- a message of x in a part needs that the part is registered for x
  pub registered : (p : ℕ) (x : TxnId) → has_inside (part_skeletons w p) x ≡ true → in_parts (log_of w) x p ≡ true
  -- an effect needs a logged decision: what a cursor reads of a topic is plain, or its transaction has the logged decision
  -- Commit; and a part that ends x by d has the logged decision d of x
  pub effect : (p : ℕ) → is_sub (name_of w.names p) ≡ false → All (IsEffect (log_of w) (list_at w.topics p)) (visible_of (list_at w.topics p))
  pub decided : (p : ℕ) (x : TxnId) (d : Decision) → marker_of (part_skeletons w p) x ≡ Some d → decision_of (log_of w) x ≡ Some d
  -- a logged Committed has all its effects, and Aborted none: where x is closed by d, each of its parts ends it by d
  pub complete : (x : TxnId) (d : Decision) (p : ℕ) → closing_of (log_of w) x ≡ Some d → in_parts (log_of w) x p ≡ true → marker_of (part_skeletons w p) x ≡ Some d
  -- no decision has a second: before one of x, there is none
  pub once : (c more : List CoreEntry) (x : TxnId) (d : Decision) → log_of w ≡ c ++ decision_skeleton x d ∷ more → decision_of c x ≡ None

-- From one world to a later one:
pub record NeverLapses (w w' : World) : Type 0 where
  -- what a cursor could read is the front of what it can read, and its limit doesn't fall
  pub visible : (p : ℕ) → IsPrefix (visible_of (list_at w.topics p)) (visible_of (list_at w'.topics p))
  pub limit : (p : ℕ) → limit_of (list_at w.topics p) ≤ limit_of (list_at w'.topics p)
  -- a decision stays what it is
  pub decision : (x : TxnId) (d : Decision) → decision_of (log_of w) x ≡ Some d → decision_of (log_of w') x ≡ Some d

-- With these names the files stand for a world that keeps the promises, and in which nothing of this one has lapsed.
pub record KeepsPromises (names : List (List ℕ)) (floor : World) (files : Files) : Type 0 where
  pub world : World
  pub stands : StandsFor names files world
  pub promises : Promises world
  pub lasts : NeverLapses floor world
