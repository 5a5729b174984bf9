-- What an engine tells of a read, and how it goes on through one.
use Rattle.std.proofs.Common.{◌≡◌, ◌⊎◌, inl, inr, ℕ, ◌+◌, ◌-◌, ◌<◌, ◌≤◌, List, [], ◌∷◌, length, Some, None, All, IsTrue, refl, sym, ap, ap₂, ◌∙◌, subst, arith}
use Rattle.std.proofs.Math.ListN.{get_or}
use Rattle.std.proofs.lemmas.List.{get_or_default}
use Rattle.std.proofs.lemmas.List.Elements.{All-head, All-tail, All-cons, All-nil}
use Rattle.txn_base.specs.declared.disk.Disk.{Ghosts}
use Rattle.txn_base.specs.Moves.{After, FaultsIn}
use Rattle.txn_base.specs.declared.file_id.FileId.{FileId}
use Rattle.txn_base.specs.declared.limits.Limits.{Limits}
use Rattle.txn_base.specs.declared.entry.TopicEntry.{TopicEntry}
use Rattle.txn_base.specs.declared.messages.Message.{Message}
use Rattle.txn_base.specs.declared.request.Request.{Request}
use Rattle.txn_base.specs.declared.request.Request.TheVariants as request
use Rattle.txn_base.specs.declared.reply.Reply.{Reply}
use Rattle.txn_base.specs.declared.reply.Reply.TheVariants as reply
use Rattle.txn_base.specs.declared.reply.Refusal.TheVariants as no
use Rattle.txn_base.specs.Content.{LedgerContent, KeptOrNot}
use Rattle.txn_base.specs.Disk.{Files, Same}
use Rattle.txn_base.specs.Outside.{Rose}
use Rattle.txn_base.proofs.Laws.{weaker, same_backed}
use Rattle.txn_ledger.specs.Ledger.{StandsIn, ExactlyIn, Stored}
use Rattle.txn_model.specs.Answers.{Answers}
use Rattle.txn_model.specs.Names.{part_of}
use Rattle.txn_model.specs.Sound.{ledger_file}
use Rattle.txn_model.specs.Topic.{limit_of, read_slice}
use Rattle.txn_buffer.specs.View.{TopicView, IsFrontOf}
use Rattle.txn_wire.specs.Short.{IsPartName}
use Rattle.txn_engine.specs.Above.{StandsAbove, KeepsAboveIf}
use Rattle.txn_engine.specs.Kept.{IsTopic, IsEngine}
use Rattle.txn_engine.specs.Table.{table_of}
use Rattle.txn_engine.specs.Told.{IsSure, MayTell, RoseFor, EngineGoesOn}
use Rattle.txn_engine.specs.View.{EngineView, IsTied, IsBacked, IsWholeAt, IsWholeTopic}
use Rattle.txn_engine.proofs.Begun.{short_told, row_told, memory_told}
use Rattle.txn_engine.proofs.Files.{only_none, images_same}
use Rattle.txn_engine.proofs.Going.{counts_of}
use Rattle.txn_engine.proofs.Growing.{files_same, worlds_same}
use Rattle.txn_engine.proofs.Lists.{topic_at, at_index}
use Rattle.txn_engine.proofs.TopicNames.{part_name}
use Rattle.txn_engine.proofs.TopicRows.{Knows, knows, unknown_read, read_told, read_fault_told}
use Rattle.txn_engine.proofs.Worlds.{IsTopicAt, some_topic}

-- ---- The topic at an index.

pub at_place : (v : EngineView) (j : ℕ) (t : TopicView) → j < length v.topics → t ≡ get_or v.topics j t → IsTopicAt v j t
at_place v j t below e = get_or_default v.topics j (some_topic v) t below ∙ sym e

pub at_known : (v : EngineView) (topic : List ℕ) (p j : ℕ) → Knows v topic p j → (t : TopicView) → t ≡ get_or v.topics j t → IsTopicAt v j t
at_known v topic p j found t e = at_place v j t found.below e

pub is_topic_at : (v : EngineView) → IsEngine v → (j : ℕ) (t : TopicView) → j < length v.topics → IsTopicAt v j t → IsTopic v.limits (1 + j) t
is_topic_at v is j t below at = subst (IsTopic v.limits (1 + j)) at (topic_at v.limits 1 v.topics j (some_topic v) (1 + j) refl below is.topics)

pub tied_at : (v : EngineView) (topic : List ℕ) (p j : ℕ) → Knows v topic p j → (t : TopicView) → t ≡ get_or v.topics j t → IsTied v → IsFrontOf t
tied_at v topic p j found t e tied = subst IsFrontOf (at_known v topic p j found t e) (at_index IsFrontOf v.topics j (some_topic v) found.below tied.topics)

pub backed_at : (image : Files → Type 0) (v : EngineView) (topic : List ℕ) (p j : ℕ) → Knows v topic p j → (t : TopicView) → t ≡ get_or v.topics j t → IsBacked image v → Stored image t.content
backed_at image v topic p j found t e backed = subst (λ (u : TopicView). Stored image u.content) (at_known v topic p j found t e) (at_index (λ t. Stored image t.content) v.topics j (some_topic v) found.below backed.topics)

pub known_name : (v : EngineView) → IsEngine v → (topic : List ℕ) (p : ℕ) (named : List ℕ) → part_of v.names topic ≡ Some p → named ≡ topic → IsPartName named
known_name v is topic p named known same = subst IsPartName (sym same) (part_name topic (knows v is topic p known).form)

pub rose_at : (key : FileId) (q f g : ℕ) (fs gs : ℕ → ℕ) → key ≡ ledger_file q → Rose f g × Rose (fs key.part) (gs key.part) → RoseFor f g fs gs q
rose_at key q f g fs gs e rose = subst (λ (k : FileId). Rose f g × Rose (fs k.part) (gs k.part)) e rose

-- a topic that is rebuilt
pub whole_at : (v : EngineView) (j : ℕ) (t : TopicView) → IsTopicAt v j t → IsWholeAt v j → IsTrue t.whole
whole_at v j t at whole = subst (λ (u : TopicView). IsTrue u.whole) at (whole (some_topic v))

pub whole_known : (v w : EngineView) → v ≡ w → (topic : List ℕ) (p : ℕ) → Knows v topic p (p - 1) → (t : TopicView) → t ≡ get_or v.topics (p - 1) t → IsWholeTopic w topic → IsTrue t.whole
whole_known v w view topic p found t e whole = whole_at v (p - 1) t (at_known v topic p (p - 1) found t e) (subst (λ (z : EngineView). IsWholeTopic z topic) (sym view) whole p found.part)

-- ---- What is told.

module _ (v : EngineView) (f g : ℕ) (fs gs : ℕ → ℕ) (topic : List ℕ) (first max m : ℕ) where
  abbrev rose : ℕ → Type 0
  rose = RoseFor f g fs gs

  abbrev asked : Request
  asked = request.Read topic first max

  pub unknown_read_told : part_of v.names topic ≡ None → (told : Reply) → (told ≡ reply.No (no.UnknownPart topic)) ⊎ (told ≡ reply.No no.NoMemory) → MayTell f g fs gs v asked m told v
  unknown_read_told none told (inl e) =
      subst (λ (r : Reply). MayTell f g fs gs v asked m r v) (sym e)
      (record { answers = row_told v v.limits rose asked (no.UnknownPart topic) (unknown_read v.limits v topic first max none); instead = λ long. memory_told v v.limits rose asked })
  unknown_read_told none told (inr e) =
      subst (λ (r : Reply). MayTell f g fs gs v asked m r v) (sym e) (short_told f g fs gs v asked m (reply.No no.NoMemory) v refl (memory_told v v.limits rose asked))

  module _ (is : IsEngine v) (p : ℕ) (known : part_of v.names topic ≡ Some p) (t : TopicView) (at : IsTopicAt v (p - 1) t) (whole : IsWholeAt v (p - 1)) where
    here : Knows v topic p (p - 1)
    here = knows v is topic p known

    one : IsTopic v.limits (1 + (p - 1)) t
    one = is_topic_at v is (p - 1) t here.below at

    in_table : (told : Reply) → Answers v.limits rose (table_of v) asked told (table_of v) → MayTell f g fs gs v asked m told v
    in_table told h = record { answers = h; instead = λ long. memory_told v v.limits rose asked }

    pub read_answer : IsTied v → (limit : ℕ) (messages : List Message) → limit ≡ limit_of t.front → messages ≡ read_slice t.limits t.front first max → MayTell f g fs gs v asked m (reply.Read limit messages) v
    read_answer tied limit messages l e =
        in_table (reply.Read limit messages)
        (read_told v.limits rose v topic p (p - 1) here (whole (some_topic v)) first max is tied limit messages
        (l ∙ ap (λ (u : TopicView). limit_of u.front) (sym at))
        (e ∙ ap₂ (λ (x : Limits) (es : List TopicEntry). read_slice x es first max) one.limits_are (ap (λ (u : TopicView). u.front) (sym at))))

    pub read_fault_answer : (named : List ℕ) → named ≡ topic → Rose f g × Rose (fs t.content.key.part) (gs t.content.key.part) → MayTell f g fs gs v asked m (reply.No (no.Fault named)) v
    read_fault_answer named same cause =
        in_table (reply.No (no.Fault named)) (read_fault_told v.limits rose v topic p (p - 1) here (whole (some_topic v)) first max named same (rose_at t.content.key (1 + (p - 1)) f g fs gs one.key cause))

-- ---- Nothing changes.

module _ {D : Type 0} (on : Ghosts D) (old new : D) (since : After on Same old new) where
  topics_same_backed : (ts : List TopicView) → All (λ t. Stored (on.image old) t.content) ts → All (λ t. Stored (on.image new) t.content) ts
  topics_same_backed [] backed = All-nil (λ t. Stored (on.image new) t.content)
  topics_same_backed (t ∷ ts) backed =
      All-cons (λ t. Stored (on.image new) t.content) t ts (same_backed StandsIn ExactlyIn on old new t.content since (All-head (λ t. Stored (on.image old) t.content) t ts backed))
      (topics_same_backed ts (All-tail (λ t. Stored (on.image old) t.content) t ts backed))

  pub read_goes : on.seen new ≡ on.seen old → (v : EngineView) → IsEngine v → IsBacked (on.image old) v → (topic : List ℕ) (p : ℕ) → part_of v.names topic ≡ Some p → (t : TopicView) → IsTopicAt v (p - 1) t → (X Y : Type 0)
      → FaultsIn on t.content.key.part old new Y → (X → Y) → EngineGoesOn on X v v old new
  read_goes still v is backed topic p known t at X Y cause means =
      let found = knows v is topic p known in
      let one : IsTopic v.limits (1 + (p - 1)) t = is_topic_at v is (p - 1) t found.below at in
      record {
        names = refl;
        whole = inl (λ whole. whole);
        tied = λ told was. was;
        lawful = λ was. was.lawful;
        backed = record { coord = same_backed StandsIn ExactlyIn on old new v.coord.content since backed.coord; topics = topics_same_backed v.topics backed.topics };
        images = weaker on Same (KeepsAboveIf (IsSure on v) v.names) old new (λ d c here same was floor above. subst (StandsAbove v.names floor) (sym same) above) since;
        grows = files_same on old new since;
        worlds = worlds_same on v.names old new since;
        elsewhere = images_same on (length v.names) old new since;
        others = only_none (length v.names) (on.seen old) (on.seen new) still;
        cause = counts_of (length v.names) t.content.key.part (on.faults old) (on.faults new) (on.part_faults old) (on.part_faults new) Y X
            (subst (λ (k : FileId). k.part ≤ length v.names) (sym one.key) (within (p - 1) (length v.topics) (length v.names) found.below is.count)) means cause;
      }
    where
      within : (j m n : ℕ) → j < m → m ≡ n → 1 + j ≤ n
      within j m n h e = omega (arith, h, e)
