-- What an engine tells of a publish, and how it goes on through one.
use Rattle.std.proofs.Common.{◌≡◌, ◌⊎◌, inl, inr, ℕ, ◌+◌, ◌-◌, ◌<◌, ◌≤◌, ◌↔◌, ◌&&◌, nat_lt, Bool, true, false, if◌then◌else◌, List, [], ◌∷◌, ◌++◌, length, Option, Some, None, Result, Ok, Err, IfOk, OnOk, IsTrue, is_some, option_map, refl, sym, ap, ap₂, ◌∙◌, subst, arith, length-append}
use Rattle.std.specs.Option.{option_or}
use Rattle.std.proofs.Math.ListN.{get_or}
use Rattle.std.proofs.lemmas.Bool.Decides.{nat_tests}
use Rattle.std.proofs.lemmas.Grind.{flat_map-append}
use Rattle.std.proofs.lemmas.List.{length-map, set-get_or}
use Rattle.txn_base.specs.declared.core_entry.CoreEntry.{CoreEntry}
use Rattle.txn_base.specs.declared.entry.TopicEntry.{TopicEntry}
use Rattle.txn_base.specs.declared.limits.Limits.{Limits}
use Rattle.txn_base.specs.declared.request.Request.{Request}
use Rattle.txn_base.specs.declared.request.Request.TheVariants as request
use Rattle.txn_base.specs.declared.reply.Reply.{Reply}
use Rattle.txn_base.specs.declared.reply.Reply.TheVariants as reply
use Rattle.txn_base.specs.declared.reply.Refusal.{Refusal}
use Rattle.txn_base.specs.declared.reply.Refusal.TheVariants as no
use Rattle.txn_base.specs.declared.reply.What.TheVariants.{Log}
use Rattle.txn_base.specs.declared.txn.TxnId.{TxnId}
use Rattle.txn_base.specs.declared.txn.Status.{Status}
use Rattle.txn_base.specs.declared.txn.Status.TheVariants.{Open, Committing, Committed, Aborting, Aborted}
use Rattle.txn_base.specs.declared.txn.Decision.{Decision}
use Rattle.txn_base.specs.Decoded.{topic_entries}
use Rattle.txn_base.specs.Disk.{CountsFaults}
use Rattle.txn_base.specs.Frames.{Batch as FrameBatch, records}
use Rattle.txn_base.specs.Names.{is_sub}
use Rattle.txn_base.specs.Records.{topic_record}
use Rattle.txn_buffer.specs.Adding.{messages_of, IsUnmarked}
use Rattle.txn_buffer.specs.View as buffer
use Rattle.txn_buffer.specs.View.{TopicView, topic_batch, topic_total, with_entries}
use Rattle.txn_buffer.specs.declared.error.TopicError.{TopicError}
use Rattle.txn_buffer.specs.declared.error.TopicError.TheVariants as topic_error
use Rattle.txn_model.specs.Answers.{Answers, AppendFails, Succeeds, uses}
use Rattle.txn_model.specs.Drive.{RebuildsAll}
use Rattle.txn_model.specs.Coord.{status_of, in_parts}
use Rattle.txn_model.specs.EarlyRows.{early_refusal, are_too_big}
use Rattle.txn_model.specs.Full.{full_log}
use Rattle.txn_model.specs.LateRows.{late_refusal}
use Rattle.txn_model.specs.Names.{part_of, name_of}
use Rattle.txn_model.specs.Skeletons.{coord_skeletons, topic_skeletons}
use Rattle.txn_model.specs.Sound.{RecordsOf, IsBareRecord}
use Rattle.txn_model.specs.Successes.{success_of}
use Rattle.txn_model.specs.Table.{TableState, EntryBatch, in_topic, with_batch, with_failed_batch}
use Rattle.txn_model.specs.Topic.{marker_of}
use Rattle.txn_wire.specs.Short.{is_long}
use Rattle.txn_engine.specs.Kept.{IsTopic, IsEngine}
use Rattle.txn_engine.specs.Publishing.{foreign, why_not_by, why_not_in, why_refusal, publish_reply}
use Rattle.txn_engine.specs.Table.{world_of, table_of}
use Rattle.txn_engine.specs.Told.{MayTell, RoseFor, IsTellable}
use Rattle.txn_engine.specs.View.{EngineView, IsTied, UsesLog, IsWholeAt, with_topics, replaced}
use Rattle.txn_engine.specs.declared.publish.WhyNot.{WhyNot}
use Rattle.txn_engine.specs.declared.publish.WhyNot.TheVariants as why_not
use Rattle.txn_engine.proofs.Begun.{short_told, row_told, memory_told}
use Rattle.txn_engine.proofs.Going.{topic_grown, topic_failed}
use Rattle.txn_engine.proofs.Lists.{set_is}
use Rattle.txn_engine.proofs.Logged.{world_for, table_for, table_for_is}
use Rattle.txn_engine.proofs.Reading.{is_topic_at, rose_at, whole_at}
use Rattle.txn_engine.proofs.Rows.{refused_late, granted_here}
use Rattle.txn_engine.proofs.Topics.{added_topic, failed_topic, engine_topics}
use Rattle.txn_engine.proofs.TopicNames.{not_sub, part_name}
use Rattle.txn_engine.proofs.TopicRows.{Knows, knows, number_is, list_is, publish_stays, unknown_publish, foreign_publish, big_publish, early_publish, late_publish}
use Rattle.txn_engine.proofs.Worlds.{IsTopicAt, some_topic}

-- ---- By the answer of the topic.

-- The topic after this answer to a publish of these entries.
pub record IsAfter (t t' : TopicView) (es : List TopicEntry) (r : Result ℕ TopicError) : Type 0 where
  pub ok : OnOk r (t' ≡ with_entries t es t.reserved)
  pub fault : r ≡ Err topic_error.Fault → t' ≡ buffer.with_failed_entries t es
  pub full : (count : ℕ) → r ≡ Err (topic_error.Full count) → t' ≡ t
  pub memory : r ≡ Err topic_error.NoMemory → t' ≡ t
  pub undamaged : (place : ℕ) → r ≡ Err (topic_error.Damaged place) → ⊥

pub after_topic : (limits : Limits) (p : ℕ) (t t' : TopicView) (es : List TopicEntry) (r : Result ℕ TopicError) → IsAfter t t' es r → IsTopic limits p t → IsTrue t.whole → IsTopic limits p t'
after_topic limits p t t' es (Ok place) after is whole = subst (IsTopic limits p) (sym after.ok) (added_topic limits p t es t.reserved is whole)
after_topic limits p t t' es (Err topic_error.Fault) after is whole = subst (IsTopic limits p) (sym (after.fault refl)) (failed_topic limits p t es is)
after_topic limits p t t' es (Err (topic_error.Full count)) after is whole = subst (IsTopic limits p) (sym (after.full count refl)) is
after_topic limits p t t' es (Err topic_error.NoMemory) after is whole = subst (IsTopic limits p) (sym (after.memory refl)) is
after_topic limits p t t' es (Err (topic_error.Damaged place)) after is whole = absurd (after.undamaged place refl)

-- ---- Refusals.

unmarked_by : (s : Option Status) (m : Option Decision) (registered : Bool) → why_not_by s (is_some m) registered ≡ None → m ≡ None
unmarked_by None m registered e = cc
unmarked_by (Some Open) None registered e = refl
unmarked_by (Some Open) (Some d) registered e = cc
unmarked_by (Some Committing) m registered e = cc
unmarked_by (Some Committed) m registered e = cc
unmarked_by (Some Aborting) m registered e = cc
unmarked_by (Some Aborted) m registered e = cc

pub unmarked : (c : List CoreEntry) (front : List TopicEntry) (p : ℕ) (who : Option TxnId) → why_not_in c (topic_skeletons front) p who ≡ None → IsUnmarked front who
unmarked c front p None e = tt
unmarked c front p (Some x) e = unmarked_by (status_of c x) (marker_of (topic_skeletons front) x) (in_parts c x p) e

short_why : (topic : List ℕ) (why : WhyNot) → is_long (reply.No (why_refusal topic why)) ≡ false
short_why topic why_not.NotFound = refl
short_why topic (why_not.NotOpen status) = refl
short_why topic why_not.NotRegistered = refl

pub why_tellable : (v : EngineView) → IsEngine v → (topic : List ℕ) (p : ℕ) → part_of v.names topic ≡ Some p → (why : WhyNot) → IsTellable (reply.No (why_refusal topic why))
why_tellable v is topic p known why_not.NotFound short = tt
why_tellable v is topic p known (why_not.NotOpen status) short = tt
why_tellable v is topic p known why_not.NotRegistered short = part_name topic (knows v is topic p known).form

pub publish_tellable : (v : EngineView) → IsEngine v → (topic : List ℕ) (p count : ℕ) → part_of v.names topic ≡ Some p → (r : Result ℕ TopicError) → IsTellable (publish_reply topic count r)
publish_tellable v is topic p count known (Ok place) short = tt
publish_tellable v is topic p count known (Err (topic_error.Full n)) short = tt
publish_tellable v is topic p count known (Err (topic_error.Damaged place)) short = part_name topic (knows v is topic p known).form
publish_tellable v is topic p count known (Err topic_error.Fault) short = part_name topic (knows v is topic p known).form
publish_tellable v is topic p count known (Err topic_error.NoMemory) short = tt

publish_short : (topic : List ℕ) (count : ℕ) (r : Result ℕ TopicError) → is_long (publish_reply topic count r) ≡ false
publish_short topic count (Ok place) = refl
publish_short topic count (Err (topic_error.Full n)) = refl
publish_short topic count (Err (topic_error.Damaged place)) = refl
publish_short topic count (Err topic_error.Fault) = refl
publish_short topic count (Err topic_error.NoMemory) = refl

-- ---- What is told.

module _ (v : EngineView) (f g : ℕ) (fs gs : ℕ → ℕ) (topic : List ℕ) (who : Option TxnId) (bodies : List (List ℕ)) (m : ℕ) where
  abbrev rose : ℕ → Type 0
  rose = RoseFor f g fs gs

  abbrev r : Request
  r = request.Publish topic who bodies

  pub unknown_publish_told : part_of v.names topic ≡ None → (told : Reply) → (told ≡ reply.No (no.UnknownPart topic)) ⊎ (told ≡ reply.No no.NoMemory) → MayTell f g fs gs v r m told v
  unknown_publish_told none told (inl e) =
      subst (λ (x : Reply). MayTell f g fs gs v r m x v) (sym e)
      (record { answers = row_told v v.limits rose r (no.UnknownPart topic) (unknown_publish v.limits v topic bodies who none); instead = λ long. memory_told v v.limits rose r })
  unknown_publish_told none told (inr e) =
      subst (λ (x : Reply). MayTell f g fs gs v r m x v) (sym e) (short_told f g fs gs v r m (reply.No no.NoMemory) v refl (memory_told v v.limits rose r))

  module _ (is : IsEngine v) (p : ℕ) (known : part_of v.names topic ≡ Some p) where
    kind : is_sub topic ≡ false
    kind = not_sub topic (knows v is topic p known).form

    pub foreign_publish_told : (k : ℕ) → foreign who ≡ Some k → MayTell f g fs gs v r m (reply.No (no.UnknownCoordinator k)) v
    foreign_publish_told k other =
        short_told f g fs gs v r m (reply.No (no.UnknownCoordinator k)) v refl (row_told v v.limits rose r (no.UnknownCoordinator k) (foreign_publish v.limits v topic bodies who p k known kind other))

    pub big_told : foreign who ≡ None → are_too_big v.limits bodies ≡ true → MayTell f g fs gs v r m (reply.No no.TooBig) v
    big_told own big = short_told f g fs gs v r m (reply.No no.TooBig) v refl (row_told v v.limits rose r no.TooBig (big_publish v.limits v topic bodies who p known kind own big))

-- ---- What is told of a topic that is rebuilt.

-- A publish that no row refuses which looks at it and the names alone; what it uses is rebuilt.
pub record IsPublish (v : EngineView) (topic : List ℕ) (who : Option TxnId) (bodies : List (List ℕ)) (p : ℕ) (t : TopicView) : Type 0 where
  pub known : part_of v.names topic ≡ Some p
  pub own : foreign who ≡ None
  pub small : are_too_big v.limits bodies ≡ false
  pub at : IsTopicAt v (p - 1) t
  pub log : UsesLog v who
  pub whole : IsWholeAt v (p - 1)

module _ (v : EngineView) (is : IsEngine v) (topic : List ℕ) (who : Option TxnId) (bodies : List (List ℕ)) (p : ℕ) (t : TopicView) (line : IsPublish v topic who bodies p t) where
  abbrev asked : Request
  asked = request.Publish topic who bodies

  found : Knows v topic p (p - 1)
  found = knows v is topic p line.known

  abbrev log : List CoreEntry
  log = coord_skeletons v.coord.front

  pub early_none : early_refusal v.limits (world_of v) asked ≡ None
  early_none = early_publish v.limits v topic bodies who p line.known (not_sub topic found.form) line.own line.small

  used : RebuildsAll (uses (world_for v who) asked) (table_for v who) (table_for v who)
  used = publish_stays v topic p (p - 1) found (line.whole (some_topic v)) who bodies

  module _ (tied : IsTied v) where
    same : table_of v ≡ table_for v who
    same = table_for_is v is tied who line.log

    late_is : late_refusal v.limits (table_for v who) asked ≡ option_or (option_map (why_refusal topic) (why_not_in log (topic_skeletons t.front) (1 + (p - 1)) who)) (option_map (λ (n : ℕ). no.Full Log n) (full_log v.limits (length t.front) (length bodies)))
    late_is = subst (λ (u : TopicView). late_refusal v.limits (table_for v who) asked ≡ option_or (option_map (why_refusal topic) (why_not_in log (topic_skeletons u.front) (1 + (p - 1)) who)) (option_map (λ (n : ℕ). no.Full Log n) (full_log v.limits (length u.front) (length bodies)))) line.at
        (late_publish v.limits v is tied topic p (p - 1) found (line.whole (some_topic v)) bodies who)

    refused : (rose : ℕ → Type 0) (row : Refusal) → late_refusal v.limits (table_for v who) asked ≡ Some row → Answers v.limits rose (table_of v) asked (reply.No row) (table_of v)
    refused rose row l = subst (λ (s : TableState). Answers v.limits rose s asked (reply.No row) s) (sym same) (refused_late v.limits rose (table_for v who) asked early_none used row l)

    granted_told : (rose : ℕ → Type 0) (told : Reply) (t' : TableState) → late_refusal v.limits (table_for v who) asked ≡ None → Succeeds v.limits rose (table_for v who) asked told t' → Answers v.limits rose (table_of v) asked told t'
    granted_told rose told t' l s = subst (λ (b : TableState). Answers v.limits rose b asked told t') (sym same) (granted_here v.limits rose (table_for v who) asked early_none used told t' l s)

    -- by its transaction
    pub why_told : (f g : ℕ) (fs gs : ℕ → ℕ) (m : ℕ) (why : WhyNot) → why_not_in log (topic_skeletons t.front) (1 + (p - 1)) who ≡ Some why → MayTell f g fs gs v asked m (reply.No (why_refusal topic why)) v
    why_told f g fs gs m why e =
        short_told f g fs gs v asked m (reply.No (why_refusal topic why)) v (short_why topic why)
        (refused (RoseFor f g fs gs) (why_refusal topic why)
        (late_is ∙ ap (λ (o : Option WhyNot). option_or (option_map (why_refusal topic) o) (option_map (λ (n : ℕ). no.Full Log n) (full_log v.limits (length t.front) (length bodies)))) e))

-- ---- What is told after the topic was called.

full_none : (limits : Limits) (n m : ℕ) → (limits.log < n + m → ⊥) → full_log limits n m ≡ None
full_none limits n m h = by_test (nat_lt 0 m) (nat_lt limits.log (n + m)) (small limits.log (n + m) h)
  where
    small : (a b : ℕ) → (a < b → ⊥) → nat_lt a b ≡ false
    small a b h = grind (arith, nat_tests, h)

    by_test : (a b : Bool) → b ≡ false → (if a && b then Some n else None) ≡ None
    by_test true b e = ap (λ (x : Bool). if x then Some n else None) e
    by_test false b e = refl

full_some : (limits : Limits) (n m : ℕ) → 1 ≤ m → limits.log < n + m → full_log limits n m ≡ Some n
full_some limits n m some h = rw (more 0 m some, more limits.log (n + m) h) refl
  where
    more : (a b : ℕ) → a < b → nat_lt a b ≡ true
    more a b h = grind (arith, nat_tests)

-- an engine whose topic is put back where it was
pub put_back : (v : EngineView) (j : ℕ) (t t' : TopicView) → IsTopicAt v j t → t' ≡ t → with_topics v (replaced v.topics j t') ≡ v
put_back v j t t' at same =
    ap (λ (u : TopicView). with_topics v (replaced v.topics j u)) (same ∙ sym at)
    ∙ ap (λ (ts : List TopicView). with_topics v ts) (sym (set_is v.topics j (get_or v.topics j (some_topic v))) ∙ set-get_or v.topics j (some_topic v))

module _ (v : EngineView) (is : IsEngine v) (topic : List ℕ) (who : Option TxnId) (bodies : List (List ℕ)) (p : ℕ) (t : TopicView) (line : IsPublish v topic who bodies p t)
    (free : why_not_in (coord_skeletons v.coord.front) (topic_skeletons t.front) (1 + (p - 1)) who ≡ None) (some : 1 ≤ length bodies) where
  abbrev to : Request
  to = request.Publish topic who bodies

  abbrev es : List TopicEntry
  es = messages_of who bodies

  abbrev after : TopicView → EngineView
  after t' = with_topics v (replaced v.topics (p - 1) t')

  known_at : Knows v topic p (p - 1)
  known_at = knows v is topic p line.known

  one : IsTopic v.limits (1 + (p - 1)) t
  one = is_topic_at v is (p - 1) t known_at.below line.at

  t_whole : IsTrue t.whole
  t_whole = whole_at v (p - 1) t line.at line.whole

  -- the batch of its row
  pub adds : (success_of v.limits (table_for v who) to).adds ≡ in_topic (1 + (p - 1)) es
  adds = ap (λ (q : ℕ). in_topic q es) (number_is v topic p (p - 1) known_at)

  module _ (tied : IsTied v) where
    late_free : late_refusal v.limits (table_for v who) to ≡ option_map (λ (n : ℕ). no.Full Log n) (full_log v.limits (length t.front) (length bodies))
    late_free =
        late_is v is topic who bodies p t line tied
        ∙ ap (λ (o : Option WhyNot). option_or (option_map (why_refusal topic) o) (option_map (λ (n : ℕ). no.Full Log n) (full_log v.limits (length t.front) (length bodies)))) free

    -- whether it is full
    pub late_none : (v.limits.log < topic_total t + length bodies → ⊥) → late_refusal v.limits (table_for v who) to ≡ None
    late_none room = late_free ∙ ap (option_map (λ (n : ℕ). no.Full Log n)) (full_none v.limits (length t.front) (length bodies) (λ h. room (subst (λ (n : ℕ). v.limits.log < n + length bodies) (one.all t_whole) h)))

    late_full : (n : ℕ) → n ≡ topic_total t → v.limits.log < topic_total t + length bodies → late_refusal v.limits (table_for v who) to ≡ Some (no.Full Log n)
    late_full n count full =
        late_free ∙ ap (option_map (λ (n : ℕ). no.Full Log n)) (full_some v.limits (length t.front) (length bodies) some (subst (λ (n : ℕ). v.limits.log < n + length bodies) (sym (one.all t_whole)) full))
        ∙ ap (λ (k : ℕ). Some (no.Full Log k)) (one.all t_whole ∙ sym count)

    module _ (f g : ℕ) (fs gs : ℕ → ℕ) (m : ℕ) (back : RecordsOf IsBareRecord (records (topic_batch es ∷ [])) es) where
      abbrev risen : ℕ → Type 0
      risen = RoseFor f g fs gs

      in_place : (t' : TopicView) → t' ≡ t → (told : Reply) → Answers v.limits risen (table_of v) to told (table_of v) → Answers v.limits risen (table_of v) to told (table_of (after t'))
      in_place t' same told h = subst (λ (u : EngineView). Answers v.limits risen (table_of v) to told (table_of u)) (sym (put_back v (p - 1) t t' line.at same)) h

      published : (t' : TopicView) (result : Result ℕ TopicError) (count : ℕ) → IsAfter t t' es result → count ≡ length bodies → IfOk result (λ place. place ≡ topic_total t) → ((result ≡ Err (topic_error.Full (topic_total t))) ↔ (v.limits.log < topic_total t + length bodies)) → ((n : ℕ) → result ≡ Err (topic_error.Full n) → n ≡ topic_total t)
          → CountsFaults t.content.key.part f g fs gs (result ≡ Err topic_error.Fault) → Answers v.limits risen (table_of v) to (publish_reply topic count result) (table_of (after t'))
      published t' (Ok place) count is_after counted first full told_full cause =
          let table' : table_of (after t') ≡ with_batch (in_topic (1 + (p - 1)) es) (table_of v) = topic_grown v is (p - 1) known_at.below es back t line.at t_whole t' t.reserved is_after.ok in
          granted_told v is topic who bodies p t line tied risen (reply.Publish place count) (table_of (after t')) (late_none (λ h. never place (topic_total t) (full.1 h)))
          (inl (
            ap₂ (λ (a : ℕ) (b : ℕ). reply.Publish a b)
                (first ∙ sym (one.all t_whole) ∙ ap (λ (u : TopicView). length u.front) (sym line.at) ∙ ap length (sym (list_is v topic p (p - 1) known_at (line.whole (some_topic v)) is tied))) counted,
            table' ∙ ap (with_batch (in_topic (1 + (p - 1)) es)) (same v is topic who bodies p t line tied) ∙ ap (λ (b : EntryBatch). with_batch b (table_for v who)) (sym adds),
          ))
        where
          never : (place n : ℕ) → ◌≡◌ {A = Result ℕ TopicError} (Ok place) (Err (topic_error.Full n)) → ⊥
          never place n e = cc
      published t' (Err (topic_error.Full n)) count is_after counted first full told_full cause =
          let total : n ≡ topic_total t = told_full n refl in
          in_place t' (is_after.full n refl) (reply.No (no.Full Log n))
          (refused v is topic who bodies p t line tied risen (no.Full Log n) (late_full n total (full.0 (ap (λ (k : ℕ). Err (topic_error.Full k)) total))))
      published t' (Err (topic_error.Damaged place)) count is_after counted first full told_full cause = absurd (is_after.undamaged place refl)
      published t' (Err topic_error.NoMemory) count is_after counted first full told_full cause = in_place t' (is_after.memory refl) (reply.No no.NoMemory) (memory_told v v.limits risen to)
      published t' (Err topic_error.Fault) count is_after counted first full told_full cause =
          let table' : table_of (after t') ≡ with_failed_batch (in_topic (1 + (p - 1)) es) (1 + (p - 1)) (table_of v) = topic_failed v is (p - 1) known_at.below es back t line.at t' (is_after.fault refl) in
          granted_told v is topic who bodies p t line tied risen (reply.No (no.Fault topic)) (table_of (after t')) (late_none (λ h. never (topic_total t) (full.1 h)))
          (inr (subst (λ (b : EntryBatch). AppendFails risen b (table_for v who) (reply.No (no.Fault topic)) (table_of (after t'))) (sym adds) (
            1 + (p - 1),
            refl,
            rose_at t.content.key (1 + (p - 1)) f g fs gs one.key (cause.failed refl),
            ap (λ (n : List ℕ). reply.No (no.Fault n)) (sym known_at.named ∙ ap (name_of v.names) known_at.number),
            table' ∙ ap (with_failed_batch (in_topic (1 + (p - 1)) es) (1 + (p - 1))) (same v is topic who bodies p t line tied),
          )))
        where
          never : (n : ℕ) → ◌≡◌ {A = Result ℕ TopicError} (Err topic_error.Fault) (Err (topic_error.Full n)) → ⊥
          never n e = cc

      pub published_told : (t' : TopicView) (result : Result ℕ TopicError) (count : ℕ) → IsAfter t t' es result → count ≡ length bodies → IfOk result (λ place. place ≡ topic_total t) → ((result ≡ Err (topic_error.Full (topic_total t))) ↔ (v.limits.log < topic_total t + length bodies)) → ((n : ℕ) → result ≡ Err (topic_error.Full n) → n ≡ topic_total t)
          → CountsFaults t.content.key.part f g fs gs (result ≡ Err topic_error.Fault) → MayTell f g fs gs v to m (publish_reply topic count result) (after t')
      published_told t' result count is_after counted first full told_full cause =
          short_told f g fs gs v to m (publish_reply topic count result) (after t') (publish_short topic count result) (published t' result count is_after counted first full told_full cause)
