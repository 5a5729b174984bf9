-- What an engine keeps of its parts.
use Rattle.std.specs.Prelude.{◌≡◌, ℕ, suc, ◌≤◌, ◌^◌, true, List, [], ◌∷◌, length, All, IsTrue}
use Rattle.txn_base.specs.declared.limits.Limits.{Limits}
use Rattle.txn_base.specs.Content.{settled}
use Rattle.txn_base.specs.Limits.{InRange}
use Rattle.txn_base.specs.Names.{is_topic_name}
use Rattle.txn_model.specs.Coord.{CoordLawful}
use Rattle.txn_model.specs.Names.{NamesLawful}
use Rattle.txn_model.specs.Skeletons.{coord_skeletons}
use Rattle.txn_model.specs.Sound.{ledger_file}
use Rattle.txn_coordinator.specs.View as coordinator
use Rattle.txn_coordinator.specs.View.{CoordView}
use Rattle.txn_buffer.specs.View.{TopicView, topic_total}
use Rattle.txn_engine.specs.View.{EngineView}

-- The coordinator of n named parts has its ledger in the file of part 0, under these limits; the parts that it added are
-- named. Where it is whole, nothing is in flight and its entries are all that its ledger has.
pub record IsCoordinator (limits : Limits) (n : ℕ) (v : CoordView) : Type 0 where
  pub key : v.content.key ≡ ledger_file 0
  pub limits_are : v.limits ≡ limits
  pub named_is : v.named ≡ n
  pub lawful : CoordLawful n (coord_skeletons v.front)
  pub settled_is : IsTrue v.whole → v.content.standing ≡ settled
  pub all : IsTrue v.whole → length v.front ≡ coordinator.coord_total v

-- A topic is the part p, with its ledger in that part's file, under these limits. Where it is whole, nothing is in flight
-- and its front is all that its ledger has.
pub record IsTopic (limits : Limits) (p : ℕ) (v : TopicView) : Type 0 where
  pub key : v.content.key ≡ ledger_file p
  pub part_is : v.part ≡ p
  pub limits_are : v.limits ≡ limits
  pub settled_is : IsTrue v.whole → v.content.standing ≡ settled
  pub all : IsTrue v.whole → length v.front ≡ topic_total v

-- Under these limits, the topics are the parts from k on, in order.
abbrev pub AreTopics : Limits → ℕ → List TopicView → Type 0
AreTopics limits k [] = Unit {0}
AreTopics limits k (t ∷ ts) = IsTopic limits k t × AreTopics limits (suc k) ts

-- Each name is a topic's, and there is one topic for each; no moment past 2^62 was told.
pub record IsEngine (v : EngineView) : Type 0 where
  pub range : InRange v.limits
  pub names : NamesLawful v.names
  pub topic_names : All (λ name. is_topic_name name ≡ true) v.names
  pub coord : IsCoordinator v.limits (length v.names) v.coord
  pub topics : AreTopics v.limits 1 v.topics
  pub count : length v.topics ≡ length v.names
  pub latest : v.latest ≤ 2 ^ 62
