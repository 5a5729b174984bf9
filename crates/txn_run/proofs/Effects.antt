-- What a cursor reads has its cause in the log.
use Rattle.std.proofs.Common.{◌≡◌, ℕ, suc, List, [], ◌∷◌, ◌++◌, length, All, Option, Some, None, refl, sym, ap, ◌∙◌, subst, length-append, append_assoc, arith}
use Rattle.std.proofs.lemmas.List.Elements.{All-nil, All-cons}
use Rattle.txn_base.specs.declared.core_entry.CoreEntry.{CoreEntry}
use Rattle.txn_base.specs.declared.entry.TopicEntry.{TopicEntry}
use Rattle.txn_base.specs.declared.entry.TopicEntry.TheVariants as topic
use Rattle.txn_base.specs.declared.messages.Message.{Message}
use Rattle.txn_base.specs.declared.txn.Decision.{Decision}
use Rattle.txn_base.specs.declared.txn.Decision.TheVariants.{Commit, Abort}
use Rattle.txn_base.specs.declared.txn.TxnId.{TxnId}
use Rattle.txn_model.specs.Coord.{decision_of}
use Rattle.txn_model.specs.Entries.{message_of}
use Rattle.txn_model.specs.Skeletons.{topic_skeleton, topic_skeletons}
use Rattle.txn_model.specs.Topic.{marker_of, visible_of}
use Rattle.txn_model.proofs.Laws.Topics.{shown, visible_from, visible_fused}
use Rattle.txn_run.specs.Promises.{MayShow, IsEffect}

module _ (c all : List CoreEntry) (decided : (x : TxnId) → marker_of all x ≡ Some Commit → decision_of c x ≡ Some Commit) (es : List TopicEntry) where
  effect_here : (before : List TopicEntry) (e : TopicEntry) (rest : List TopicEntry) → es ≡ before ++ e ∷ rest → (k : ℕ) → k ≡ length before → (m : Message) → m ≡ message_of k e → m.place ≡ k → MayShow c (topic_skeleton e) → IsEffect c es m
  effect_here before e rest split k count m is place caused = record {
    before = before;
    entry = e;
    after = rest;
    split = split;
    place = place ∙ count;
    message = is ∙ ap (λ (j : ℕ). message_of j e) (sym place);
    caused = caused;
  }

  -- a message of x, by the marker of x
  by_marker : (before : List TopicEntry) (x : TxnId) (e : TopicEntry) (rest : List TopicEntry) → es ≡ before ++ e ∷ rest → (k : ℕ) → k ≡ length before → (m : Message) → m ≡ message_of k e → m.place ≡ k → (decision_of c x ≡ Some Commit → MayShow c (topic_skeleton e))
      → (o : Option Decision) → marker_of all x ≡ o → (later : List Message) → All (IsEffect c es) later → All (IsEffect c es) (shown o m later)
  by_marker before x e rest split k count m is place may (Some Commit) marked later each = All-cons (IsEffect c es) m later (effect_here before e rest split k count m is place (may (decided x marked))) each
  by_marker before x e rest split k count m is place may (Some Abort) marked later each = each
  by_marker before x e rest split k count m is place may None marked later each = All-nil (IsEffect c es)

  behind : (before : List TopicEntry) (e : TopicEntry) (rest : List TopicEntry) → es ≡ before ++ e ∷ rest → es ≡ (before ++ e ∷ []) ++ rest
  behind before e rest split = split ∙ sym (append_assoc before (e ∷ []) rest)

  one_more : (before : List TopicEntry) (e : TopicEntry) (k : ℕ) → k ≡ length before → suc k ≡ length (before ++ e ∷ [])
  one_more before e k count = omega (arith, count, length-append before (e ∷ []))

  pub effects : (before rest : List TopicEntry) → es ≡ before ++ rest → (k : ℕ) → k ≡ length before → All (IsEffect c es) (visible_from all k rest)
  effects before [] split k count = All-nil (IsEffect c es)
  effects before (topic.Plain body ∷ rest) split k count =
      All-cons (IsEffect c es) (message_of k (topic.Plain body)) (visible_from all (suc k) rest) (effect_here before (topic.Plain body) rest split k count (message_of k (topic.Plain body)) refl refl tt)
      (effects (before ++ topic.Plain body ∷ []) rest (behind before (topic.Plain body) rest split) (suc k) (one_more before (topic.Plain body) k count))
  effects before (topic.Opened x body ∷ rest) split k count =
      by_marker before x (topic.Opened x body) rest split k count (message_of k (topic.Opened x body)) refl refl (λ h. h) (marker_of all x) refl (visible_from all (suc k) rest)
      (effects (before ++ topic.Opened x body ∷ []) rest (behind before (topic.Opened x body) rest split) (suc k) (one_more before (topic.Opened x body) k count))
  effects before (topic.Commit x ∷ rest) split k count = effects (before ++ topic.Commit x ∷ []) rest (behind before (topic.Commit x) rest split) (suc k) (one_more before (topic.Commit x) k count)
  effects before (topic.Abort x ∷ rest) split k count = effects (before ++ topic.Abort x ∷ []) rest (behind before (topic.Abort x) rest split) (suc k) (one_more before (topic.Abort x) k count)

pub all_effects : (c : List CoreEntry) (es : List TopicEntry) → ((x : TxnId) → marker_of (topic_skeletons es) x ≡ Some Commit → decision_of c x ≡ Some Commit) → All (IsEffect c es) (visible_of es)
all_effects c es decided = subst (All (IsEffect c es)) (sym (visible_fused es)) (effects c (topic_skeletons es) decided es [] es refl 0 refl)
