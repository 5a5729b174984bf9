-- What an engine keeps of its topics, through the calls of one.
use Rattle.std.proofs.Common.{◌≡◌, ℕ, ◌+◌, false, List, [], ◌∷◌, ◌++◌, length, IsTrue, refl, sym, ap, ◌∙◌, arith, length-append}
use Rattle.std.proofs.lemmas.Grind.{flat_map-append}
use Rattle.std.proofs.lemmas.List.{length-map}
use Rattle.txn_base.specs.declared.entry.TopicEntry.{TopicEntry}
use Rattle.txn_base.specs.declared.limits.Limits.{Limits}
use Rattle.txn_base.specs.Frames.{Batch as FrameBatch, records}
use Rattle.txn_base.specs.Records.{topic_record}
use Rattle.txn_buffer.specs.View as buffer
use Rattle.txn_buffer.specs.View.{TopicView, topic_batch, with_entries}
use Rattle.txn_engine.specs.Kept.{IsTopic, IsEngine}
use Rattle.txn_engine.specs.View.{EngineView, with_topics, replaced}
use Rattle.txn_engine.proofs.Lists.{topics_replaced, length_replaced}

more_records : (bs : List FrameBatch) (es : List TopicEntry) → length (records (bs ++ topic_batch es ∷ [])) ≡ length (records bs) + length es
more_records bs es =
    ap length (flat_map-append (λ (b : FrameBatch). b) bs (topic_batch es ∷ [])) ∙ length-append (records bs) (records (topic_batch es ∷ []))
    ∙ ap (λ (n : ℕ). length (records bs) + n) (one (topic_batch es) ∙ length-map es topic_record)
  where
    one : (b : FrameBatch) → length (records (b ∷ [])) ≡ length b
    one b = length-append b [] ∙ none (length b)
      where
        none : (n : ℕ) → n + 0 ≡ n
        none n = omega arith

pub added_topic : (limits : Limits) (p : ℕ) (t : TopicView) (es : List TopicEntry) (ends : ℕ) → IsTopic limits p t → IsTrue t.whole → IsTopic limits p (with_entries t es ends)
added_topic limits p t es ends is whole = record {
  key = is.key;
  part_is = is.part_is;
  limits_are = is.limits_are;
  settled_is = λ w. refl;
  all = λ w. length-append t.front es ∙ ap (λ (n : ℕ). n + length es) (is.all whole) ∙ sym (more_records t.content.batches es);
}

pub failed_topic : (limits : Limits) (p : ℕ) (t : TopicView) (es : List TopicEntry) → IsTopic limits p t → IsTopic limits p (buffer.with_failed_entries t es)
failed_topic limits p t es is = record {
  key = is.key;
  part_is = is.part_is;
  limits_are = is.limits_are;
  settled_is = λ w. absurd (never w);
  all = λ w. absurd (never w);
}
  where
    never : IsTrue false → ⊥
    never w = cc

pub engine_topics : (v : EngineView) → IsEngine v → (j : ℕ) (t : TopicView) → IsTopic v.limits (1 + j) t → IsEngine (with_topics v (replaced v.topics j t))
engine_topics v is j t one = record {
  range = is.range;
  names = is.names;
  topic_names = is.topic_names;
  coord = is.coord;
  topics = topics_replaced v.limits 1 v.topics j t (1 + j) refl one is.topics;
  count = length_replaced v.topics j t ∙ is.count;
  latest = is.latest;
}
