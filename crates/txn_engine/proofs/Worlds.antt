-- Which world the files of an image stand for, by what the ledgers of an engine tell of it.
use Rattle.std.proofs.Common.{◌≡◌, ℕ, zero, suc, ◌+◌, ◌-◌, ◌<◌, ◌≤◌, not, Bool, true, false, if◌then◌else◌, List, [], ◌∷◌, length, All, refl, sym, ap, ◌∙◌, subst, arith, true≢false}
use Rattle.std.proofs.Math.ListN.{get_or}
use Rattle.std.proofs.lemmas.List.Elements.{All-head, All-tail, All-cons, All-nil}
use Rattle.txn_base.specs.declared.entry.CoordEntry.{CoordEntry}
use Rattle.txn_base.specs.declared.entry.TopicEntry.{TopicEntry}
use Rattle.txn_base.specs.declared.file_id.FileId.{FileId}
use Rattle.txn_base.specs.Content.{Standing, settled, KeptOrNot}
use Rattle.txn_base.specs.Decoded.{coord_entry_of, topic_entry_of, coord_entries}
use Rattle.txn_base.specs.Disk.{Files}
use Rattle.txn_base.specs.Frames.{Batch, Stands}
use Rattle.txn_base.specs.Names.{is_sub, is_topic_name}
use Rattle.txn_base.specs.Records.{IsCoordRecord}
use Rattle.txn_ledger.specs.Ledger.{StandsIn, Stored}
use Rattle.txn_model.specs.declared.world.World.{World}
use Rattle.txn_model.specs.Shape.{numbered, is_topic, topic_parts, sub_parts, parts_with, Shaped}
use Rattle.txn_model.specs.Sound.{ledger_file, StandsForEntries, IsBareRecord, StandsFor}
use Rattle.txn_model.specs.Words.{has, list_at}
use Rattle.txn_model.proofs.Laws.Files.{coord_of, topic_of_record, stands_for_one, entries_of_batches}
use Rattle.txn_model.proofs.Laws.Names.{numbered_has, numbered_within}
use Rattle.txn_buffer.specs.View.{TopicView}
use Rattle.txn_engine.specs.Kept.{IsEngine}
use Rattle.txn_engine.specs.Table.{lists_from, world_of}
use Rattle.txn_engine.specs.View.{EngineView, IsWhole, IsBacked}
use Rattle.txn_engine.proofs.Lists.{list_in, topic_at, at_index}
use Rattle.txn_engine.proofs.TopicNames.{not_sub}

-- ---- The parts of an engine are topics.

kinds_step : (b : Bool) (k : ℕ) (ks : List ℕ) → b ≡ false → (if b then k ∷ ks else ks) ≡ ks
kinds_step b k ks e = rw e refl

topics_step : (b : Bool) (k : ℕ) (ks : List ℕ) → b ≡ true → (if b then k ∷ ks else ks) ≡ k ∷ ks
topics_step b k ks e = rw e refl

pub no_subs : (k : ℕ) (names : List (List ℕ)) → All (λ name. is_topic_name name ≡ true) names → numbered is_sub k names ≡ []
no_subs k [] all = refl
no_subs k (name ∷ names) all =
    kinds_step (is_sub name) k (numbered is_sub (suc k) names) (not_sub name (All-head (λ name. is_topic_name name ≡ true) name names all))
    ∙ no_subs (suc k) names (All-tail (λ name. is_topic_name name ≡ true) name names all)

no_parts : (k : ℕ) (names : List (List ℕ)) → 0 ≡ length names → [] ≡ numbered is_topic k names
no_parts k [] e = refl
no_parts k (name ∷ names) e = absurd (omega (arith, e))

pub parts_are : (k : ℕ) (ts : List TopicView) (names : List (List ℕ)) → length ts ≡ length names → All (λ name. is_topic_name name ≡ true) names → parts_with (lists_from k ts) ≡ numbered is_topic k names
parts_are k [] names e all = no_parts k names e
parts_are k (t ∷ ts) [] e all = absurd (omega (arith, e))
parts_are k (t ∷ ts) (name ∷ names) e all =
    ap (λ (ks : List ℕ). k ∷ ks) (parts_are (suc k) ts names (omega (arith, e)) (All-tail (λ name. is_topic_name name ≡ true) name names all))
    ∙ sym (topics_step (is_topic name) k (numbered is_topic (suc k) names) (ap not (not_sub name (All-head (λ name. is_topic_name name ≡ true) name names all))))

pub name_at_index : (names : List (List ℕ)) (j : ℕ) → j < length names → All (λ name. is_topic_name name ≡ true) names → is_topic_name (get_or names j []) ≡ true
name_at_index [] j h all = absurd (omega (arith, h))
name_at_index (name ∷ names) zero h all = All-head (λ name. is_topic_name name ≡ true) name names all
name_at_index (name ∷ names) (suc j) h all = name_at_index names j (omega (arith, h)) (All-tail (λ name. is_topic_name name ≡ true) name names all)

module _ (v : EngineView) (is : IsEngine v) where
  pub shaped_world : Shaped (world_of v)
  shaped_world = record { topics = parts_are 1 v.topics v.names is.count is.topic_names; subs = sym (no_subs 1 v.names is.topic_names) }

  -- a topic's number, and its index
  pub index_of : (p : ℕ) → has (topic_parts v.names) p ≡ true → (p ≡ 1 + (p - 1)) × (p - 1 < length v.topics)
  index_of p h =
      let range : (1 ≤ p) × (p < 1 + length v.names) = numbered_within is_topic 1 p v.names h in
      (omega (arith, range.0), omega (arith, range.0, range.1, is.count))

  -- the part at an index is a topic
  pub topic_part : (j : ℕ) → j < length v.topics → has (topic_parts v.names) (1 + j) ≡ true
  topic_part j below =
      let within : j < length v.names = omega (arith, below, is.count) in
      numbered_has is_topic 1 j (1 + j) v.names refl within (ap not (not_sub (get_or v.names j []) (name_at_index v.names j within is.topic_names)))

  pub no_sub_parts : (p : ℕ) → has (sub_parts v.names) p ≡ true → ⊥
  no_sub_parts p h = true≢false (sym (subst (λ ps. has ps p ≡ true) (no_subs 1 v.names is.topic_names) h))

-- ---- The world of an image in which each ledger's file stands for its batches.

-- each topic's file stands for its batches
abbrev pub AllStand : Files → List TopicView → Type 0
AllStand c ts = All (λ t. StandsIn t.content.key c t.content.batches) ts

-- some topic, for where there is none
abbrev pub some_topic : EngineView → TopicView
some_topic v = record { content = record { key = ledger_file 0; batches = []; standing = settled }; front = []; part = 0; whole = false; reserved = 0; limits = v.limits }

-- A topic that was looked at is the one at the index j.
abbrev pub IsTopicAt : EngineView → ℕ → TopicView → Type 0
IsTopicAt v j t = get_or v.topics j (some_topic v) ≡ t

module _ (v : EngineView) (is : IsEngine v) (c : Files) (coord_here : StandsIn v.coord.content.key c v.coord.content.batches) (topics_here : AllStand c v.topics) (w : World) (stands : StandsFor v.names c w) where
  pub coord_stands : Stands (c (ledger_file 0)) v.coord.content.batches
  coord_stands = subst (λ (f : FileId). Stands (c f) v.coord.content.batches) is.coord.key coord_here

  coord_are : coord_entries v.coord.content.batches ≡ w.coord
  coord_are = entries_of_batches IsCoordRecord coord_entry_of coord_of (c (ledger_file 0)) v.coord.content.batches w.coord stands.coord coord_stands

  pub topic_stands : (p : ℕ) → has (topic_parts v.names) p ≡ true → Stands (c (ledger_file p)) (get_or v.topics (p - 1) (some_topic v)).content.batches
  topic_stands p h =
      let at = index_of v is p h in
      let t : TopicView = get_or v.topics (p - 1) (some_topic v) in
      subst (λ (f : FileId). Stands (c f) t.content.batches) (topic_at v.limits 1 v.topics (p - 1) (some_topic v) p at.0 at.1 is.topics).key
      (at_index (λ t. StandsIn t.content.key c t.content.batches) v.topics (p - 1) (some_topic v) at.1 topics_here)

  topic_are : (p : ℕ) → has (topic_parts v.names) p ≡ true → list_at (lists_from 1 v.topics) p ≡ list_at w.topics p
  topic_are p h =
      let at = index_of v is p h in
      list_in 1 v.topics (p - 1) (some_topic v) p at.0 at.1
      ∙ entries_of_batches IsBareRecord topic_entry_of topic_of_record (c (ledger_file p)) (get_or v.topics (p - 1) (some_topic v)).content.batches (list_at w.topics p) (stands.topics p h) (topic_stands p h)

  stands_for_world : StandsFor v.names c (world_of v)
  stands_for_world = record {
    named = refl;
    shaped = shaped_world v is;
    coord = subst (λ (es : List CoordEntry). StandsForEntries IsCoordRecord (c (ledger_file 0)) es) (sym coord_are) stands.coord;
    topics = λ p h. subst (λ (es : List TopicEntry). StandsForEntries IsBareRecord (c (ledger_file p)) es) (sym (topic_are p h)) (stands.topics p h);
    subs = λ p h. absurd (no_sub_parts v is p h);
    others = stands.others;
  }

  pub world_here : w ≡ world_of v
  world_here = stands_for_one v.names c w (world_of v) stands stands_for_world

-- ---- The ledgers of a whole engine are settled, and so each image has just their batches.

pub stands_settled : (P : List Batch → Type 0) (batches : List Batch) (s : Standing) → s ≡ settled → KeptOrNot P batches s → P batches
stands_settled P batches s e h = subst (KeptOrNot P batches) e h

pub coord_backed : (v : EngineView) → IsEngine v → IsWhole v → (image : Files → Type 0) → IsBacked image v → (c : Files) → image c → StandsIn v.coord.content.key c v.coord.content.batches
coord_backed v is whole image backed c at = stands_settled (StandsIn v.coord.content.key c) v.coord.content.batches v.coord.content.standing (is.coord.settled_is whole.coord) (backed.coord.each c at)

pub topics_backed : (k : ℕ) (ts : List TopicView) → All (λ t. t.content.standing ≡ settled) ts → (image : Files → Type 0) → All (λ t. Stored image t.content) ts → (c : Files) → image c → AllStand c ts
topics_backed k [] all image backed c at = All-nil (λ t. StandsIn t.content.key c t.content.batches)
topics_backed k (t ∷ ts) all image backed c at =
    All-cons (λ t. StandsIn t.content.key c t.content.batches) t ts
    (stands_settled (StandsIn t.content.key c) t.content.batches t.content.standing (All-head (λ t. t.content.standing ≡ settled) t ts all) ((All-head (λ t. Stored image t.content) t ts backed).each c at))
    (topics_backed (suc k) ts (All-tail (λ t. t.content.standing ≡ settled) t ts all) image (All-tail (λ t. Stored image t.content) t ts backed) c at)
