-- The rules across lists, growth, what a stop keeps and the order of refusals, computed on small worlds.
use Rattle.std.specs.Prelude.{◌≡◌, ◌==◌, ℕ, Bool, true, false, if◌then◌else◌, List, [], ◌∷◌, Some, codes, refl}
use mathlib.Core.List.{IsPrefix}
use Rattle.txn_base.specs.Limits.{standard}
use Rattle.txn_model.proofs.Words.{Limits, Commit, Abort, Committing, CoreEntry, TopicEntry, AckEntry, Transactions, Log, World, part_of, name_of, txn, RegisteredFirst, MarkerDecided, ClosedComplete, Extends, Flights, with_kept, part_skeletons, early_refusal, late_refusal, table_over, names_with}
use Rattle.txn_base.specs.declared.core_entry.CoreEntry.TheVariants as core
use Rattle.txn_base.specs.declared.entry.CoordEntry.TheVariants as coord
use Rattle.txn_base.specs.declared.entry.TopicEntry.TheVariants as topic
use Rattle.txn_base.specs.declared.entry.AckEntry.TheVariants as ack
use Rattle.txn_base.specs.declared.request.Request.TheVariants as request
use Rattle.txn_base.specs.declared.reply.Refusal.TheVariants as no
use Rattle.txn_base.specs.Bytes.{only_bytes}
use Rattle.txn_model.proofs.Bools.{no_true, none_some}
use Rattle.txn_model.proofs.Worked.{orders, billing}

-- a message and a hold of a transaction whose commit is decided
abbrev world : World
world =
    record {
      names = orders ∷ billing ∷ [];
      coord = coord.New (txn 0) 9 ∷ coord.AddPart (txn 0) 1 ∷ coord.AddPart (txn 0) 2 ∷ coord.Committing (txn 0) ∷ [];
      topics = (1, topic.Opened (txn 0) (only_bytes (codes "b")) ∷ []) ∷ [];
      subs = (2, ack.Hold (txn 0) (0 ∷ []) ∷ []) ∷ [];
    }

pub its_second_part : part_of world.names billing ≡ Some 2
its_second_part = refl

pub its_second_name : name_of world.names 2 ≡ billing
its_second_name = refl

pub its_skeletons : part_skeletons world 2 ≡ core.Inside (txn 0) ∷ []
its_skeletons = refl

pub new_names_come_once : names_with world.names (orders ∷ codes "bills" ∷ codes "bills" ∷ []) ≡ orders ∷ billing ∷ codes "bills" ∷ []
new_names_come_once = refl

-- ---- What a stop keeps of two flights: each by itself, all or none.

abbrev flights : Flights
flights =
    record {
      coord = coord.Committed (txn 0) ∷ [];
      topics = λ p. if p == 1 then topic.Commit (txn 0) ∷ topic.Plain (only_bytes (codes "c")) ∷ [] else [];
      subs = λ p. [];
    }

pub topic_is_kept : with_kept world flights (λ p. p == 1) ≡
    record {
      names = world.names;
      coord = world.coord;
      topics = (1, topic.Opened (txn 0) (only_bytes (codes "b")) ∷ topic.Commit (txn 0) ∷ topic.Plain (only_bytes (codes "c")) ∷ []) ∷ [];
      subs = world.subs;
    }
topic_is_kept = refl

pub nothing_is_kept : with_kept world flights (λ p. false) ≡ world
nothing_is_kept = refl

-- what is kept leaves each list a front of what it is then
abbrev before : List TopicEntry
before = topic.Opened (txn 0) (only_bytes (codes "b")) ∷ []

abbrev after : List TopicEntry
after = topic.Opened (txn 0) (only_bytes (codes "b")) ∷ topic.Commit (txn 0) ∷ topic.Plain (only_bytes (codes "c")) ∷ []

topics_grow : (b : Bool) → IsPrefix (if b then before else []) (if b then after else [])
topics_grow true = (topic.Commit (txn 0) ∷ topic.Plain (only_bytes (codes "c")) ∷ [], refl)
topics_grow false = ([], refl)

abbrev holds : List AckEntry
holds = ack.Hold (txn 0) (0 ∷ []) ∷ []

subs_stay : (b : Bool) → IsPrefix (if b then holds else []) (if b then holds else [])
subs_stay true = ([], refl)
subs_stay false = ([], refl)

pub it_grows : Extends world (with_kept world flights (λ p. true))
it_grows =
    record {
      names = ([], refl);
      coord = (coord.Committed (txn 0) ∷ [], refl);
      topics = λ p. topics_grow (1 == p);
      subs = λ p. subs_stay (2 == p);
    }

-- ---- The rules across lists, each broken by one entry.

-- of no other part than 1 there is a list
abbrev alone : List CoreEntry → ℕ → List CoreEntry
alone es p = if p == 1 then es else []

pub message_of_an_unregistered_part : RegisteredFirst (core.New (txn 0) ∷ core.AddPart (txn 0) 2 ∷ []) (alone (core.Inside (txn 0) ∷ [])) → ⊥
message_of_an_unregistered_part rule = no_true (rule 1 (txn 0) refl)

pub marker_without_a_decision : MarkerDecided (core.New (txn 0) ∷ core.AddPart (txn 0) 1 ∷ []) (alone (core.Marker (txn 0) Commit ∷ [])) → ⊥
marker_without_a_decision rule = none_some (rule 1 (txn 0) Commit refl)

other_end : Some Abort ≡ Some Commit → ⊥
other_end h = cc

pub marker_against_the_decision : MarkerDecided (core.New (txn 0) ∷ core.AddPart (txn 0) 1 ∷ core.Aborting (txn 0) ∷ []) (alone (core.Marker (txn 0) Commit ∷ [])) → ⊥
marker_against_the_decision rule = other_end (rule 1 (txn 0) Commit refl)

pub closed_before_the_marker : ClosedComplete (core.New (txn 0) ∷ core.AddPart (txn 0) 1 ∷ core.Committing (txn 0) ∷ core.Committed (txn 0) ∷ []) (alone (core.Inside (txn 0) ∷ [])) → ⊥
closed_before_the_marker rule = none_some (rule (txn 0) Commit 1 refl refl)

-- ---- Where several refusals stand together, the first row is told.

abbrev three : List (List ℕ)
three = codes "a" ∷ codes "b" ∷ codes "c" ∷ []

abbrev few : Limits
few = record standard { batch = 2; window = 1; log = 4 }

pub unknown_part_is_first : early_refusal few world (request.Publish (codes "x") (Some (record { most = 7; least = 0 })) three) ≡ Some (no.UnknownPart (codes "x"))
unknown_part_is_first = refl

pub then_the_wrong_kind : early_refusal few world (request.Publish billing (Some (record { most = 7; least = 0 })) three) ≡ Some (no.WrongKind billing)
then_the_wrong_kind = refl

pub then_the_coordinator : early_refusal few world (request.Publish orders (Some (record { most = 7; least = 0 })) three) ≡ Some (no.UnknownCoordinator 7)
then_the_coordinator = refl

pub then_the_size : early_refusal few world (request.Publish orders (Some (txn 9)) three) ≡ Some no.TooBig
then_the_size = refl

pub then_the_transaction : late_refusal few (table_over world) (request.Publish orders (Some (txn 9)) (codes "a" ∷ [])) ≡ Some no.NotFound
then_the_transaction = refl

pub then_its_status : late_refusal few (table_over world) (request.Publish orders (Some (txn 0)) (codes "a" ∷ [])) ≡ Some (no.NotOpen Committing)
then_its_status = refl

-- the window before the log
pub transactions_before_the_log : late_refusal few (table_over world) (request.New 1) ≡ Some (no.Full Transactions 1)
transactions_before_the_log = refl

pub then_the_log : late_refusal (record few { window = 2 }) (table_over world) (request.New 1) ≡ Some (no.Full Log 4)
then_the_log = refl
