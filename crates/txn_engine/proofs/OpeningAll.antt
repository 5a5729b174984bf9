-- The parts that were opened, together.
use Rattle.std.proofs.Common.{◌≡◌, ℕ, zero, suc, ◌+◌, ◌-◌, ◌<◌, ◌≤◌, true, false, List, [], ◌∷◌, ◌++◌, length, All, sym, ap, ◌∙◌, subst, arith}
use Rattle.std.proofs.Math.ListN.{get_or}
use Rattle.std.proofs.lemmas.List.Elements.{All-head, All-tail, All-cons, All-nil, All-push}
use Rattle.txn_base.specs.declared.file_id.FileId.{FileId}
use Rattle.txn_base.specs.declared.limits.Limits.{Limits}
use Rattle.txn_base.specs.Content.{settled}
use Rattle.txn_base.specs.Disk.{Files, Elsewhere}
use Rattle.txn_base.specs.Frames.{Stands}
use Rattle.txn_base.specs.Limits.{InRange}
use Rattle.txn_base.specs.Names.{is_topic_name}
use Rattle.txn_ledger.specs.Ledger.{StandsIn}
use Rattle.txn_model.specs.declared.world.World.{World}
use Rattle.txn_model.specs.Deadlines.{low_of}
use Rattle.txn_model.specs.Names.{NamesLawful}
use Rattle.txn_model.specs.Opening.{table_over}
use Rattle.txn_model.specs.Sound.{ledger_file, StandsFor}
use Rattle.txn_model.specs.Words.{nowhere}
use Rattle.txn_buffer.specs.View.{TopicView}
use Rattle.txn_buffer.specs.View as topic
use Rattle.txn_coordinator.specs.View.{CoordView}
use Rattle.txn_engine.specs.Kept.{IsCoordinator, IsTopic, AreTopics, IsEngine}
use Rattle.txn_engine.specs.Opening.{IsCoordinatorOf, IsTopicOf, IsTopicLedger, IsPart, AreParts, IsDamagedTopic, IsDamagedPart, IsFirstDamage, IsFirstDamagedTopic, IsPartFile}
use Rattle.txn_engine.specs.Table.{world_of, table_of}
use Rattle.txn_engine.specs.View.{EngineView, IsWhole, IsTied}
use Rattle.txn_engine.proofs.Elsewhere.{files_apart}
use Rattle.txn_engine.proofs.Lists.{topic_at, at_index}
use Rattle.txn_engine.proofs.Logged.{log_is}
use Rattle.txn_engine.proofs.Opened.{nothing_flies, not_unrebuilt}
use Rattle.txn_engine.proofs.Worlds.{AllStand, world_here}

-- ---- One topic more.

pub topics_more : (limits : Limits) (k : ℕ) (ts : List TopicView) (t : TopicView) (p : ℕ) → p ≡ k + length ts → AreTopics limits k ts → IsTopic limits p t → AreTopics limits k (ts ++ t ∷ [])
topics_more limits k [] t p e are is = (subst (λ (q : ℕ). IsTopic limits q t) (omega (arith, e)) is, tt)
topics_more limits k (u ∷ us) t p e are is = (are.0, topics_more limits (suc k) us t p (omega (arith, e)) are.1 is)

pub told_more : (files mid : Files) (ts : List TopicView) (t : TopicView) (p : ℕ) → t.content.key ≡ ledger_file p → mid (ledger_file p) ≡ files (ledger_file p) → IsTopicOf t (mid (ledger_file p))
    → All (λ t. IsTopicOf t (files t.content.key)) ts → All (λ t. IsTopicOf t (files t.content.key)) (ts ++ t ∷ [])
told_more files mid ts t p key same is told =
    All-push (λ t. IsTopicOf t (files t.content.key)) ts t told (subst (λ (f : FileId). IsTopicOf t (files f)) (sym key) (subst (IsTopicOf t) same is))

-- where these files were as those at another moment
pub told_before : (limits : Limits) (k : ℕ) (files mid : Files) (ts : List TopicView) → 1 ≤ k → ((q : ℕ) → 1 ≤ q → mid (ledger_file q) ≡ files (ledger_file q)) → AreTopics limits k ts → All (λ t. IsTopicOf t (mid t.content.key)) ts → All (λ t. IsTopicOf t (files t.content.key)) ts
told_before limits k files mid [] low same are told = All-nil (λ t. IsTopicOf t (files t.content.key))
told_before limits k files mid (t ∷ ts) low same are told =
    All-cons (λ t. IsTopicOf t (files t.content.key)) t ts
    (subst (IsTopicOf t) (ap mid are.0.key ∙ same k low ∙ ap files (sym are.0.key)) (All-head (λ t. IsTopicOf t (mid t.content.key)) t ts told))
    (told_before limits (suc k) files mid ts (omega (arith, low)) same are.1 (All-tail (λ t. IsTopicOf t (mid t.content.key)) t ts told))

pub damage_before : (n : ℕ) (tells : Type 0) (files mid : Files) (file : FileId) (entry : ℕ) → ((q : ℕ) → 1 ≤ q → mid (ledger_file q) ≡ files (ledger_file q)) → IsFirstDamagedTopic n tells mid file entry → IsFirstDamagedTopic n tells files file entry
damage_before n tells files mid file entry same is = record {
  part = is.part;
  from_one = is.from_one;
  within = is.within;
  file_is = is.file_is;
  damaged = λ told. subst (λ (bytes : List ℕ). IsDamagedTopic bytes entry) (same is.part is.from_one) (is.damaged told);
  before = λ told p low lt. subst IsTopicLedger (same p low) (is.before told p low lt);
}

-- the files of topics, where that of the coordinator alone may have changed
pub topics_elsewhere : (files mid : Files) → Elsewhere (ledger_file 0) files mid → (q : ℕ) → 1 ≤ q → mid (ledger_file q) ≡ files (ledger_file q)
topics_elsewhere files mid is q low = is (ledger_file q) (files_apart q 0 (λ e. omega (arith, low, e)))

-- some topic, for where there is none
abbrev blank_topic : Limits → TopicView
blank_topic limits = record { content = record { key = ledger_file 0; batches = []; standing = settled }; front = []; part = 0; whole = false; reserved = 0; limits = limits }

-- Of topics whose files are told, each file is as it has to be.
module _ (limits : Limits) (files : Files) (ts : List TopicView) (are : AreTopics limits 1 ts) (told : All (λ t. IsTopicOf t (files t.content.key)) ts) where
  abbrev d : TopicView
  d = blank_topic limits

  topic_told : (p : ℕ) → 1 ≤ p → p ≤ length ts → IsTopicOf (get_or ts (p - 1) d) (files (ledger_file p))
  topic_told p low high =
      let below : p - 1 < length ts = omega (arith, low, high) in
      let is : IsTopic limits p (get_or ts (p - 1) d) = topic_at limits 1 ts (p - 1) d p (omega (arith, low)) below are in
      subst (λ (f : FileId). IsTopicOf (get_or ts (p - 1) d) (files f)) is.key (at_index (λ t. IsTopicOf t (files t.content.key)) ts (p - 1) d below told)

  pub ledger_told : (p : ℕ) → 1 ≤ p → p ≤ length ts → IsTopicLedger (files (ledger_file p))
  ledger_told p low high =
      let is = topic_told p low high in
      ((get_or ts (p - 1) d).content.batches, is.stands, is.grammar, is.lawful)

-- ---- All parts.

module _ (n : ℕ) (limits : Limits) (files : Files) (c : CoordView) (log : IsCoordinatorOf n c (files (ledger_file 0))) where
  pub log_part : IsPart n 0 (files (ledger_file 0))
  log_part = (c.content.batches, log.stands, log.grammar, log.lawful)

  pub parts_told : (ts : List TopicView) → length ts ≡ n → AreTopics limits 1 ts → All (λ t. IsTopicOf t (files t.content.key)) ts → AreParts n files
  parts_told ts count are told zero within = log_part
  parts_told ts count are told (suc p) within = ledger_told limits files ts are told (suc p) (omega arith) (omega (arith, within, count))

  -- damage of a topic
  pub topic_damage : (tells : Type 0) (file : FileId) (entry : ℕ) → tells → IsFirstDamagedTopic n tells files file entry → IsFirstDamage n files file entry
  topic_damage tells file entry told is = record {
    part = is.part;
    within = is.within;
    file_is = is.file_is;
    damaged = at is.part is.from_one (is.damaged told);
    before = before;
  }
    where
      at : (p : ℕ) → 1 ≤ p → IsDamagedTopic (files (ledger_file p)) entry → IsDamagedPart n p (files (ledger_file p)) entry
      at zero low h = absurd (omega (arith, low))
      at (suc p) low h = h

      before : (p : ℕ) → p < is.part → IsPart n p (files (ledger_file p))
      before zero lt = log_part
      before (suc p) lt = is.before told (suc p) (omega arith) lt

pub topic_file : (n : ℕ) (tells : Type 0) (files : Files) (file : FileId) (entry : ℕ) → IsFirstDamagedTopic n tells files file entry → IsPartFile n file
topic_file n tells files file entry is = (is.part, is.within, is.file_is)

-- damage of the log
pub log_damage : (n : ℕ) (files : Files) (file : FileId) (entry : ℕ) → file ≡ ledger_file 0 → IsDamagedPart n 0 (files (ledger_file 0)) entry → IsFirstDamage n files file entry
log_damage n files file entry e damaged = record { part = 0; within = omega arith; file_is = e; damaged = damaged; before = λ p lt. absurd (below p lt) }
  where
    below : (p : ℕ) → p < 0 → ⊥
    below p lt = omega (arith, lt)

-- ---- The engine.

module _ (names : List (List ℕ)) (limits : Limits) (c : CoordView) (ts : List TopicView) where
  abbrev pub opened_engine : EngineView
  opened_engine = record { names = names; coord = c; topics = ts; latest = 0; limits = limits }

  pub engine_opened : InRange limits → NamesLawful names → All (λ name. is_topic_name name ≡ true) names → IsCoordinator limits (length names) c → AreTopics limits 1 ts → length ts ≡ length names → IsEngine opened_engine
  engine_opened range lawful topics coord are count = record { range = range; names = lawful; topic_names = topics; coord = coord; topics = are; count = count; latest = omega arith }

  pub tied_of : (files : Files) → IsCoordinatorOf (length names) c (files (ledger_file 0)) → All (λ t. IsTopicOf t (files t.content.key)) ts → IsTied opened_engine
  tied_of files log told = record { coord = log.tied; topics = tied ts told }
    where
      tied : (ts : List TopicView) → All (λ t. IsTopicOf t (files t.content.key)) ts → All topic.IsFrontOf ts
      tied [] told = All-nil topic.IsFrontOf
      tied (t ∷ ts) told = All-cons topic.IsFrontOf t ts (All-head (λ t. IsTopicOf t (files t.content.key)) t ts told).tied (tied ts (All-tail (λ t. IsTopicOf t (files t.content.key)) t ts told))

  module _ (is : IsEngine opened_engine) (whole : IsWhole opened_engine) (low : c.opened_low ≡ low_of c.front) (files : Files) (log : IsCoordinatorOf (length names) c (files (ledger_file 0))) (told : All (λ t. IsTopicOf t (files t.content.key)) ts) where
    all_stand : (ts : List TopicView) → All (λ t. IsTopicOf t (files t.content.key)) ts → AllStand files ts
    all_stand [] told = All-nil (λ t. StandsIn t.content.key files t.content.batches)
    all_stand (t ∷ ts) told =
        All-cons (λ t. StandsIn t.content.key files t.content.batches) t ts (All-head (λ t. IsTopicOf t (files t.content.key)) t ts told).stands (all_stand ts (All-tail (λ t. IsTopicOf t (files t.content.key)) t ts told))

    log_here : StandsIn c.content.key files c.content.batches
    log_here = subst (λ (f : FileId). Stands (files f) c.content.batches) (sym is.coord.key) log.stands

    tied : IsTied opened_engine
    tied = tied_of files log told

    pub opened_table : (w : World) → StandsFor names files w → table_of opened_engine ≡ table_over w
    opened_table w stands =
        let same : w ≡ world_of opened_engine = world_here opened_engine is files log_here (all_stand ts told) w stands in
        let front : low_of w.coord ≡ low_of c.front = ap (λ (u : World). low_of u.coord) same ∙ ap low_of (log_is opened_engine is whole.coord tied) in
        let low_is : c.opened_low ≡ low_of w.coord = low ∙ sym front in
        λ i. record {
          world = sym same i;
          flights = nothing_flies opened_engine is whole i;
          unrebuilt = λ p. not_unrebuilt opened_engine whole p i;
          latest = 0;
          opened_low = low_is i;
          given = λ s. nowhere;
        }
