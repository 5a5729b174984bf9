-- The lists of a world, by its names.
use Rattle.std.specs.Prelude.{◌≡◌, ℕ, suc, not, Bool, true, if◌then◌else◌, List, [], ◌∷◌, map}
use Rattle.txn_base.specs.Names.{is_sub}
use Rattle.txn_model.specs.declared.world.World.{World}
use Rattle.txn_model.specs.Words.{has}
use Rattle.txn_model.specs.Table.{EntryBatch, nothing, in_coord, in_topic, in_sub}

-- From k on, the numbers of those of these names that pass the test.
abbrev pub numbered : (List ℕ → Bool) → ℕ → List (List ℕ) → List ℕ
numbered test k [] = []
numbered test k (name ∷ names) = if test name then k ∷ numbered test (suc k) names else numbered test (suc k) names

-- The name is that of a topic.
abbrev pub is_topic : List ℕ → Bool
is_topic name = not (is_sub name)

-- Of these names, the parts that are topics, and those that are subscriptions, in order.
abbrev pub topic_parts : List (List ℕ) → List ℕ
topic_parts names = numbered is_topic 1 names

abbrev pub sub_parts : List (List ℕ) → List ℕ
sub_parts names = numbered is_sub 1 names

-- The parts beside which these lists stand.
abbrev pub parts_with : {E : Type 0} → List (ℕ × List E) → List ℕ
parts_with ls = map (λ l. l.0) ls

-- In a world, the parts of the topics' lists are, in order and once each, the topics among the names, and those of the
-- subscriptions' lists the subscriptions.
pub record Shaped (w : World) : Type 0 where
  pub topics : parts_with w.topics ≡ topic_parts w.names
  pub subs : parts_with w.subs ≡ sub_parts w.names

-- By these names, a batch is for a part of its kind.
abbrev pub IsFor : EntryBatch → List (List ℕ) → Type 0
IsFor nothing names = Unit {0}
IsFor (in_coord e) names = Unit {0}
IsFor (in_topic p es) names = has (topic_parts names) p ≡ true
IsFor (in_sub p e) names = has (sub_parts names) p ≡ true
