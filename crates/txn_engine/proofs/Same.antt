-- What room that is reserved leaves as it was.
use Rattle.std.proofs.Common.{◌≡◌, inl, ℕ, zero, suc, ◌<◌, ◌≤◌, ◌^◌, ◌==◌, not, true, if◌then◌else◌, List, [], ◌∷◌, length, All, IsTrue, refl, sym, ap, ap₂, ◌∙◌, subst, arith}
use Rattle.std.proofs.Math.ListN.{get_or}
use Rattle.std.proofs.lemmas.List.Elements.{All-head, All-tail, All-cons, All-nil}
use Rattle.txn_base.specs.declared.disk.Disk.{Ghosts}
use Rattle.txn_base.specs.declared.entry.TopicEntry.{TopicEntry}
use Rattle.txn_base.specs.declared.limits.Limits.{Limits}
use Rattle.txn_base.specs.declared.request.Request.{Request}
use Rattle.txn_base.specs.declared.reply.Reply.{Reply}
use Rattle.txn_base.specs.declared.reply.Reply.TheVariants as reply
use Rattle.txn_base.specs.declared.reply.Refusal.TheVariants as no
use Rattle.txn_base.specs.Decoded.{coord_entries, topic_entries}
use Rattle.txn_base.specs.Disk.{Files}
use Rattle.txn_base.proofs.Laws.{started}
use Rattle.txn_base.specs.Limits.{InRange}
use Rattle.txn_base.specs.Names.{is_topic_name}
use Rattle.txn_buffer.specs.Ending.{with_reserved}
use Rattle.txn_buffer.specs.View as topic
use Rattle.txn_buffer.specs.View.{TopicView}
use Rattle.txn_coordinator.specs.View as coordinator
use Rattle.txn_coordinator.specs.View.{CoordView}
use Rattle.txn_ledger.specs.Ledger.{Stored}
use Rattle.txn_model.specs.Allowed.{LawfulState}
use Rattle.txn_model.specs.Answers.{AnswersAt}
use Rattle.txn_model.specs.Names.{NamesLawful}
use Rattle.txn_model.specs.Table.{TableState}
use Rattle.txn_model.specs.Words.{list_at, nowhere}
use Rattle.txn_engine.specs.Above.{KeepsAboveIf}
use Rattle.txn_engine.specs.Ending.{AreSameTopics, IsSameBut}
use Rattle.txn_engine.specs.Files.{OnlyLedgers}
use Rattle.txn_engine.specs.Kept.{IsCoordinator, IsTopic, AreTopics, IsEngine}
use Rattle.txn_engine.specs.Table.{coord_flight, topic_flight, lists_from, flights_from, unrebuilt_from, table_of}
use Rattle.txn_engine.specs.Told.{IsSure, MayTell, RoseFor, EngineGoesOn}
use Rattle.txn_engine.specs.View.{EngineView, IsWhole, IsTied, IsBacked, replaced}
use Rattle.txn_engine.proofs.Coordinators.{reserving_is}
use Rattle.txn_engine.proofs.Going.{counts_still}
use Rattle.txn_engine.proofs.Growing.{files_first, worlds_first}
use Rattle.txn_engine.proofs.Lists.{never_below}

-- ---- Topics.

pub topics_same : (ts : List TopicView) → AreSameTopics ts ts
topics_same [] = tt
topics_same (t ∷ ts) = (refl, topics_same ts)

pub topics_then : (ts us ws : List TopicView) → AreSameTopics ts us → AreSameTopics us ws → AreSameTopics ts ws
topics_then [] [] [] a b = tt
topics_then [] [] (w ∷ ws) a b = absurd b
topics_then [] (u ∷ us) ws a b = absurd a
topics_then (t ∷ ts) [] ws a b = absurd a
topics_then (t ∷ ts) (u ∷ us) [] a b = absurd b
topics_then (t ∷ ts) (u ∷ us) (w ∷ ws) a b = (b.0 ∙ ap (λ (x : TopicView). with_reserved x w.reserved) a.0, topics_then ts us ws a.1 b.1)

-- room at the one at an index
pub reserved_one : (ts : List TopicView) (i n : ℕ) (d : TopicView) → i < length ts → AreSameTopics ts (replaced ts i (with_reserved (get_or ts i d) n))
reserved_one [] i n d h = absurd (never_below i h)
reserved_one (t ∷ ts) zero n d h = (refl, topics_same ts)
reserved_one (t ∷ ts) (suc i) n d h = (refl, reserved_one ts i n d (omega (arith, h)))

pub length_same : (ts us : List TopicView) → AreSameTopics ts us → length us ≡ length ts
length_same [] [] same = refl
length_same [] (u ∷ us) same = absurd same
length_same (t ∷ ts) [] same = absurd same
length_same (t ∷ ts) (u ∷ us) same = ap suc (length_same ts us same.1)

lists_same : (k : ℕ) (ts us : List TopicView) → AreSameTopics ts us → lists_from k us ≡ lists_from k ts
lists_same k [] [] same = refl
lists_same k [] (u ∷ us) same = absurd same
lists_same k (t ∷ ts) [] same = absurd same
lists_same k (t ∷ ts) (u ∷ us) same = ap₂ (λ (x : TopicView) (ls : List (ℕ × List TopicEntry)). (k, topic_entries x.content.batches) ∷ ls) same.0 (lists_same (suc k) ts us same.1)

flights_same : (k : ℕ) (ts us : List TopicView) → AreSameTopics ts us → flights_from k us ≡ flights_from k ts
flights_same k [] [] same = refl
flights_same k [] (u ∷ us) same = absurd same
flights_same k (t ∷ ts) [] same = absurd same
flights_same k (t ∷ ts) (u ∷ us) same = ap₂ (λ (x : TopicView) (ls : List (ℕ × List TopicEntry)). (k, topic_flight x.content.standing) ∷ ls) same.0 (flights_same (suc k) ts us same.1)

unrebuilt_same : (k : ℕ) (ts us : List TopicView) → AreSameTopics ts us → (p : ℕ) → unrebuilt_from k us p ≡ unrebuilt_from k ts p
unrebuilt_same k [] [] same p = refl
unrebuilt_same k [] (u ∷ us) same p = absurd same
unrebuilt_same k (t ∷ ts) [] same p = absurd same
unrebuilt_same k (t ∷ ts) (u ∷ us) same p = ap₂ (λ (x : TopicView) rest. if p == k then not x.whole else rest) same.0 (unrebuilt_same (suc k) ts us same.1 p)

pub all_same : (P : TopicView → Type 0) → ((t : TopicView) (n : ℕ) → P t → P (with_reserved t n)) → (ts us : List TopicView) → AreSameTopics ts us → All P ts → All P us
all_same P each [] [] same all = All-nil P
all_same P each [] (u ∷ us) same all = absurd same
all_same P each (t ∷ ts) [] same all = absurd same
all_same P each (t ∷ ts) (u ∷ us) same all = All-cons P u us (subst P (sym same.0) (each t u.reserved (All-head P t ts all))) (all_same P each ts us same.1 (All-tail P t ts all))

are_topics_same : (limits : Limits) (k : ℕ) (ts us : List TopicView) → AreSameTopics ts us → AreTopics limits k ts → AreTopics limits k us
are_topics_same limits k [] [] same are = tt
are_topics_same limits k [] (u ∷ us) same are = absurd same
are_topics_same limits k (t ∷ ts) [] same are = absurd same
are_topics_same limits k (t ∷ ts) (u ∷ us) same are =
    (subst (IsTopic limits k) (sym same.0) (record { key = are.0.key; part_is = are.0.part_is; limits_are = are.0.limits_are; settled_is = are.0.settled_is; all = are.0.all }), are_topics_same limits (suc k) ts us same.1 are.1)

-- ---- Engines.

pub same_then : (a b c : EngineView) → IsSameBut a b → IsSameBut b c → IsSameBut a c
same_then a b c one two = record {
  names = two.names ∙ one.names;
  latest = two.latest ∙ one.latest;
  limits = two.limits ∙ one.limits;
  coord = two.coord ∙ ap (coordinator.reserving c.coord.reserved) one.coord;
  topics = topics_then a.topics b.topics c.topics one.topics two.topics;
}

pub same_itself : (v : EngineView) → IsSameBut v v
same_itself v = record { names = refl; latest = refl; limits = refl; coord = refl; topics = topics_same v.topics }

module _ (v v' : EngineView) (same : IsSameBut v v') where
  pub same_table : table_of v' ≡ table_of v
  same_table =
      let lists : lists_from 1 v'.topics ≡ lists_from 1 v.topics = lists_same 1 v.topics v'.topics same.topics in
      let flights : flights_from 1 v'.topics ≡ flights_from 1 v.topics = flights_same 1 v.topics v'.topics same.topics in
      λ i. record {
        world = record { names = same.names i; coord = coord_entries (same.coord i).content.batches; topics = lists i; subs = [] };
        flights = record { coord = coord_flight (same.coord i).content.standing; topics = λ p. list_at (flights i) p; subs = λ p. [] };
        unrebuilt = λ p. if p == 0 then not (same.coord i).whole else unrebuilt_same 1 v.topics v'.topics same.topics p i;
        latest = same.latest i;
        opened_low = (same.coord i).opened_low;
        given = λ s. nowhere;
      }

  pub same_whole : IsWhole v → IsWhole v'
  same_whole whole = record {
    coord = subst (λ (c : CoordView). IsTrue c.whole) (sym same.coord) whole.coord;
    topics = all_same (λ t. IsTrue t.whole) (λ t n h. h) v.topics v'.topics same.topics whole.topics;
  }

  pub same_tied : IsTied v → IsTied v'
  same_tied tied = record {
    coord = subst coordinator.IsFrontOf (sym same.coord) tied.coord;
    topics = all_same topic.IsFrontOf (λ t n h. record { entries = h.entries; grammar = h.grammar }) v.topics v'.topics same.topics tied.topics;
  }

  pub same_backed : (image : Files → Type 0) → IsBacked image v → IsBacked image v'
  same_backed image backed = record {
    coord = subst (λ (c : CoordView). Stored image c.content) (sym same.coord) backed.coord;
    topics = all_same (λ t. Stored image t.content) (λ t n h. h) v.topics v'.topics same.topics backed.topics;
  }

  pub same_engine : IsEngine v → IsEngine v'
  same_engine is = record {
    range = subst InRange (sym same.limits) is.range;
    names = subst NamesLawful (sym same.names) is.names;
    topic_names = subst (All (λ name. is_topic_name name ≡ true)) (sym same.names) is.topic_names;
    coord = subst (λ (l : Limits). IsCoordinator l (length v'.names) v'.coord) (sym same.limits)
        (subst (λ (ns : List (List ℕ)). IsCoordinator v.limits (length ns) v'.coord) (sym same.names)
        (subst (IsCoordinator v.limits (length v.names)) (sym same.coord) (reserving_is v.limits (length v.names) v'.coord.reserved v.coord is.coord)));
    topics = subst (λ (l : Limits). AreTopics l 1 v'.topics) (sym same.limits) (are_topics_same v.limits 1 v.topics v'.topics same.topics is.topics);
    count = length_same v.topics v'.topics same.topics ∙ is.count ∙ ap length (sym same.names);
    latest = subst (λ (n : ℕ). n ≤ 2 ^ 62) (sym same.latest) is.latest;
  }

  pub same_told : (f g : ℕ) (fs gs : ℕ → ℕ) (r : Request) (m : ℕ) (told : Reply) (w : EngineView) → MayTell f g fs gs v' r m told w → MayTell f g fs gs v r m told w
  same_told f g fs gs r m told w may = record {
    answers = subst (λ (t : TableState). AnswersAt v.limits (RoseFor f g fs gs) t r m told (table_of w)) same_table
        (subst (λ (l : Limits). AnswersAt l (RoseFor f g fs gs) (table_of v') r m told (table_of w)) same.limits may.answers);
    instead = λ long.
        subst (λ (t : TableState). AnswersAt v.limits (RoseFor f g fs gs) t r m (reply.No no.NoMemory) (table_of w)) same_table
        (subst (λ (l : Limits). AnswersAt l (RoseFor f g fs gs) (table_of v') r m (reply.No no.NoMemory) (table_of w)) same.limits (may.instead long));
  }

module _ {D : Type 0} (on : Ghosts D) where
  -- room that is reserved
  pub goes_same : (X : Type 0) → (X → ⊥) → (v v' : EngineView) (disk : D) → IsBacked (on.image disk) v → IsSameBut v v' → EngineGoesOn on X v v' disk disk
  goes_same X none v v' disk backed same = record {
    names = same.names;
    whole = inl (same_whole v v' same);
    tied = λ told. same_tied v v' same;
    lawful = λ was. subst LawfulState (sym (same_table v v' same)) was.lawful;
    backed = same_backed v v' same (on.image disk) backed;
    images = started on disk (KeepsAboveIf (IsSure on v) v.names) (λ c at holds floor above. above);
    grows = files_first on disk;
    worlds = worlds_first on v.names disk;
    elsewhere = started on disk (OnlyLedgers (length v.names)) (λ c at file apart. refl);
    others = λ file apart. refl;
    cause = counts_still (length v.names) (on.faults disk) (on.part_faults disk) X none;
  }
