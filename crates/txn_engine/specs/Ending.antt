-- The end of a transaction: what stands before it, and what each step of it does.
use Rattle.std.specs.Prelude.{◌≡◌, ℕ, ◌+◌, ◌<◌, true, List, [], ◌∷◌, length, slice_index_or, is_some, None}
use Rattle.txn_base.specs.declared.txn.TxnId.{TxnId}
use Rattle.txn_base.specs.declared.txn.Decision.{Decision}
use Rattle.txn_base.specs.declared.txn.Decision.TheVariants.{Commit, Abort}
use Rattle.txn_base.specs.declared.request.Request.{Request}
use Rattle.txn_base.specs.declared.request.Request.TheVariants as request
use Rattle.txn_base.specs.declared.reply.Outcome.{Outcome}
use Rattle.txn_base.specs.declared.limits.Limits.{Limits}
use Rattle.txn_model.specs.Answers.{uses}
use Rattle.txn_model.specs.Coord.{in_parts}
use Rattle.txn_model.specs.Drive.{RebuildsAll}
use Rattle.txn_model.specs.EarlyRows.{early_refusal}
use Rattle.txn_model.specs.LateRows.{late_refusal}
use Rattle.txn_model.specs.Table.{TableState}
use Rattle.txn_model.specs.Skeletons.{coord_skeletons, topic_skeletons}
use Rattle.txn_model.specs.Topic.{marker_of}
use Rattle.txn_buffer.specs.Ending.{with_reserved}
use Rattle.txn_buffer.specs.View.{TopicView}
use Rattle.txn_coordinator.specs.View.{reserving}
use Rattle.txn_engine.specs.View.{EngineView, IsWholeAt}
use Rattle.txn_wire.specs.Short.{IsShortStuck}

-- The request for an end by this decision.
abbrev pub end_request : Decision → TxnId → Request
end_request Commit x = request.Commit x
end_request Abort x = request.Abort x

-- Each of these topics is the one before, but for the ends for which room is reserved.
abbrev pub AreSameTopics : List TopicView → List TopicView → Type 0
AreSameTopics [] [] = Unit {0}
AreSameTopics [] (u ∷ us) = ⊥
AreSameTopics (t ∷ ts) [] = ⊥
AreSameTopics (t ∷ ts) (u ∷ us) = (u ≡ with_reserved t u.reserved) × AreSameTopics ts us

-- The engine v' is v, but for the ends and closes for which room is reserved.
pub record IsSameBut (v v' : EngineView) : Type 0 where
  pub names : v'.names ≡ v.names
  pub latest : v'.latest ≡ v.latest
  pub limits : v'.limits ≡ v.limits
  pub coord : v'.coord ≡ reserving v'.coord.reserved v.coord
  pub topics : AreSameTopics v.topics v'.topics

-- At each part of x before the index n there is room for its end.
abbrev pub AreReady : TxnId → EngineView → ℕ → Type 0
AreReady x v n = (j : ℕ) (t : TopicView) → j < n → j < length v.topics → in_parts (coord_skeletons v.coord.front) x (1 + j) ≡ true → (slice_index_or v.topics j t).reserved ≡ 1

-- There is room for the end of x at each of its parts, and for its close.
pub record IsReady (x : TxnId) (v : EngineView) : Type 0 where
  pub coord : v.coord.reserved ≡ 1
  pub topics : AreReady x v (length v.topics)

-- The topic at an index is rebuilt and has a marker of x.
pub record IsMarked (x : TxnId) (v : EngineView) (j : ℕ) : Type 0 where
  pub whole : IsWholeAt v j
  pub stands : (t : TopicView) → is_some (marker_of (topic_skeletons (slice_index_or v.topics j t).front) x) ≡ true

-- So is each part of x before the index n.
abbrev pub AreMarked : TxnId → EngineView → ℕ → Type 0
AreMarked x v n = (j : ℕ) → j < n → j < length v.topics → in_parts (coord_skeletons v.coord.front) x (1 + j) ≡ true → IsMarked x v j

-- A call for the topic at an index leaves all else as it was.
pub record IsElsewhere (at : ℕ) (v v' : EngineView) : Type 0 where
  pub names : v'.names ≡ v.names
  pub latest : v'.latest ≡ v.latest
  pub limits : v'.limits ≡ v.limits
  pub coord : v'.coord ≡ v.coord
  pub count : length v'.topics ≡ length v.topics
  pub topics : (j : ℕ) (t : TopicView) → (j ≡ at → ⊥) → slice_index_or v'.topics j t ≡ slice_index_or v.topics j t

-- The outcome names a part, where it was stopped at one.
abbrev pub IsTellableEnd : Outcome → Type 0
IsTellableEnd outcome = IsShortStuck outcome.stuck

-- No row comes for a request, and all that it uses is whole.
pub record IsGranted (limits : Limits) (t : TableState) (r : Request) : Type 0 where
  pub early : early_refusal limits t.world r ≡ None
  pub whole : RebuildsAll (uses t.world r) t t
  pub late : late_refusal limits t r ≡ None
