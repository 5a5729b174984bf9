-- The table of replies, as a relation: what may be told, and what stands afterwards. Free are only a fault of a part
-- whose count of faults rose, whether a batch in flight was kept, and want of memory.
use Rattle.std.specs.Prelude.{◌≡◌, ◌⊎◌, ℕ, Bool, true, false, if◌then◌else◌, List, [], ◌∷◌, Option, Some, None, MatchOption}
use Rattle.std.specs.Option.{option_or}
use Rattle.txn_base.specs.declared.limits.Limits.{Limits}
use Rattle.txn_base.specs.declared.txn.TxnId.{TxnId}
use Rattle.txn_base.specs.declared.txn.Decision.{Decision}
use Rattle.txn_base.specs.declared.txn.Decision.TheVariants.{Commit, Abort}
use Rattle.txn_base.specs.declared.request.Request.{Request}
use Rattle.txn_base.specs.declared.request.Request.TheVariants as request
use Rattle.txn_base.specs.declared.reply.Reply.{Reply}
use Rattle.txn_base.specs.declared.reply.Reply.TheVariants as reply
use Rattle.txn_base.specs.declared.reply.Outcome.{Outcome}
use Rattle.txn_base.specs.declared.reply.Refusal.{Refusal}
use Rattle.txn_base.specs.declared.reply.Refusal.TheVariants as no
use Rattle.txn_model.specs.declared.world.World.{World}
use Rattle.txn_base.specs.Names.{topic_of}
use Rattle.txn_model.specs.Names.{name_of}
use Rattle.txn_model.specs.Deadlines.{first_due, first_undriven, left_of}
use Rattle.txn_model.specs.Table.{TableState, EntryBatch, batch_part, with_batch, with_failed_batch, at_moment, decision_batch}
use Rattle.txn_model.specs.Requests.{number_of}
use Rattle.txn_model.specs.EarlyRows.{early_refusal}
use Rattle.txn_model.specs.LateRows.{late_refusal}
use Rattle.txn_model.specs.Successes.{Success, success_of}
use Rattle.txn_model.specs.Drive.{RebuildsAll, RebuildsSome, RefusedAt, Drives}

-- The parts that a request uses, in the order of their recovery: the coordinator, the topic, the subscription.
abbrev pub with_coord : Option TxnId → List ℕ → List ℕ
with_coord None ps = ps
with_coord (Some x) ps = 0 ∷ ps

abbrev pub uses : World → Request → List ℕ
uses w (request.Publish topic who bodies) = with_coord who (number_of w topic ∷ [])
uses w (request.Ack sub who places) = with_coord who (number_of w (topic_of sub) ∷ number_of w sub ∷ [])
uses w (request.AckUpTo sub who place) = with_coord who (number_of w (topic_of sub) ∷ number_of w sub ∷ [])
uses w (request.Read topic first max) = number_of w topic ∷ []
uses w (request.Receive sub max) = number_of w (topic_of sub) ∷ number_of w sub ∷ []
uses w (request.Redeliver sub) = number_of w sub ∷ []
uses w _ = 0 ∷ []

-- The reply is the fault of the part p.
abbrev pub fault_of : TableState → ℕ → Reply
fault_of t p = reply.No (no.Fault (name_of t.world.names p))

-- The append of a batch failed: the batch is in flight, its part isn't rebuilt, and the part's fault is told.
abbrev pub AppendFails : (ℕ → Type 0) → EntryBatch → TableState → Reply → TableState → Type 0
AppendFails rose batch t told t' = (p : ℕ) × (batch_part batch ≡ Some p) × rose p × (told ≡ fault_of t p) × (t' ≡ with_failed_batch batch p t)

-- The topic that a request reads from.
abbrev pub read_topic : World → Request → Option ℕ
read_topic w (request.Read topic first max) = Some (number_of w topic)
read_topic w (request.Receive sub max) = Some (number_of w (topic_of sub))
read_topic w _ = None

-- A read of the topic's records failed: nothing changes, and the topic's fault is told.
abbrev pub ReadFails : (ℕ → Type 0) → TableState → Request → Reply → TableState → Type 0
ReadFails rose t r told t' = (p : ℕ) × (read_topic t.world r ≡ Some p) × rose p × (told ≡ fault_of t p) × (t' ≡ t)

-- A request does what its row says: its entries are settled, its reply is told.
abbrev pub Fulfils : Success → TableState → Reply → TableState → Type 0
Fulfils s t told t' = (told ≡ s.reply) × (t' ≡ record (with_batch s.adds t) { given = s.given })

-- The decision d of x is logged if x is open, and x is driven.
abbrev pub Ends : (ℕ → Type 0) → TableState → TxnId → Decision → Outcome → TableState → Type 0
Ends rose t x d outcome t' = Drives rose x (with_batch (decision_batch t x d) t) outcome t'

-- A tick with nothing to do; one that ends or drives x, and then counts what is left.
abbrev pub tick_reply : TableState → Option (TxnId × Outcome) → Reply
tick_reply t None = reply.Tick t.latest (left_of t.world.coord t.latest) None
tick_reply t (Some drove) = reply.Tick t.latest (left_of t.world.coord t.latest) (Some (record { txn = drove.0; outcome = drove.1 }))

-- The transaction that a tick takes: the first that is due, or else the first that is undriven.
abbrev pub tick_target : TableState → Option TxnId
tick_target t = option_or (first_due t.world.coord t.latest) (first_undriven t.world.coord)

-- What a request that isn't refused may be told, and what stands afterwards.
abbrev pub Succeeds : Limits → (ℕ → Type 0) → TableState → Request → Reply → TableState → Type 0
Succeeds limits rose t (request.Commit x) told t' =
    ((outcome : Outcome) × Ends rose t x Commit outcome t' × (told ≡ reply.Ended Commit outcome)) ⊎ AppendFails rose (decision_batch t x Commit) t told t'
Succeeds limits rose t (request.Abort x) told t' =
    ((outcome : Outcome) × Ends rose t x Abort outcome t' × (told ≡ reply.Ended Abort outcome)) ⊎ AppendFails rose (decision_batch t x Abort) t told t'
Succeeds limits rose t request.Tick told t' =
    MatchOption (tick_target t) ((told ≡ tick_reply t None) × (t' ≡ t))
    (λ x. ((outcome : Outcome) × Ends rose t x Abort outcome t' × (told ≡ tick_reply t' (Some (x, outcome)))) ⊎ AppendFails rose (decision_batch t x Abort) t told t')
Succeeds limits rose t r told t' =
    Fulfils (success_of limits t r) t told t' ⊎ AppendFails rose (success_of limits t r).adds t told t'

-- From t, where `rose` says of which parts the count of faults rose in this line, the request r may be told this, and
-- leave t'.
pub data Answers (limits : Limits) (rose : ℕ → Type 0) (t : TableState) (r : Request) (told : Reply) (t' : TableState) : Type 0 where
  -- one of the first rows comes
  early : (row : Refusal) → early_refusal limits t.world r ≡ Some row → told ≡ reply.No row → t' ≡ t → Answers limits rose t r told t'
  -- the recovery of a part that the line uses met a fault
  unrecovered : early_refusal limits t.world r ≡ None → (p : ℕ) → RefusedAt (uses t.world r) p t t' → rose p → told ≡ fault_of t p → Answers limits rose t r told t'
  -- the parts are whole, and a read of the topic's records failed
  unread : early_refusal limits t.world r ≡ None → (mid : TableState) → RebuildsAll (uses t.world r) t mid → ReadFails rose mid r told t' → Answers limits rose t r told t'
  -- the parts are whole, and one of the later rows comes
  late : early_refusal limits t.world r ≡ None → RebuildsAll (uses t.world r) t t' → (row : Refusal) → late_refusal limits t' r ≡ Some row → told ≡ reply.No row → Answers limits rose t r told t'
  -- none does
  granted : early_refusal limits t.world r ≡ None → (mid : TableState) → RebuildsAll (uses t.world r) t mid → late_refusal limits mid r ≡ None → Succeeds limits rose mid r told t' → Answers limits rose t r told t'
  -- memory ran out, before anything or after some of the recovery
  no_memory : told ≡ reply.No no.NoMemory → t' ≡ t → Answers limits rose t r told t'
  no_memory_later : early_refusal limits t.world r ≡ None → told ≡ reply.No no.NoMemory → RebuildsSome (uses t.world r) t t' → Answers limits rose t r told t'

-- A request that reads the clock comes after its moment.
abbrev pub reads_clock : Request → Bool
reads_clock (request.New timeout) = true
reads_clock request.Tick = true
reads_clock _ = false

abbrev pub moved : Request → ℕ → TableState → TableState
moved r m t = if reads_clock r then at_moment m t else t

-- From t, at this moment, the request may be told this, and leave t'.
abbrev pub AnswersAt : Limits → (ℕ → Type 0) → TableState → Request → ℕ → Reply → TableState → Type 0
AnswersAt limits rose t r m told t' = Answers limits rose (moved r m t) r told t'
