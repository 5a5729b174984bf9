-- How an engine goes on through a publish, and what the clauses of its calls say.
use Rattle.std.proofs.Common.{◌≡◌, ◌⊎◌, inl, inr, ℕ, ◌+◌, ◌-◌, ◌<◌, ◌≤◌, ◌↔◌, true, false, List, [], ◌∷◌, length, Option, Some, None, Result, Ok, Err, OnOk, IsTrue, refl, sym, ap, ap₂, ◌∙◌, subst}
use Rattle.std.proofs.Math.ListN.{get_or, set}
use Rattle.txn_base.specs.declared.disk.Disk.{Ghosts}
use Rattle.txn_base.specs.Moves.{After, FaultsIn}
use Rattle.txn_base.specs.declared.entry.TopicEntry.{TopicEntry}
use Rattle.txn_base.specs.declared.limits.Limits.{Limits}
use Rattle.txn_base.specs.declared.request.Request.TheVariants as request
use Rattle.txn_base.specs.declared.reply.Reply.TheVariants as reply
use Rattle.txn_base.specs.declared.txn.TxnId.{TxnId}
use Rattle.txn_base.specs.Content.{Appends}
use Rattle.txn_base.specs.Disk.{Elsewhere}
use Rattle.txn_base.specs.Frames.{records}
use Rattle.txn_ledger.specs.Ledger.{IsFile, StandsIn, Stored}
use Rattle.txn_buffer.specs.Adding.{messages_of, IsUnmarked}
use Rattle.txn_buffer.specs.View as buffer
use Rattle.txn_buffer.specs.View.{TopicView, topic_batch, topic_total, with_entries}
use Rattle.txn_buffer.specs.declared.error.TopicError.{TopicError}
use Rattle.txn_buffer.specs.declared.error.TopicError.TheVariants as topic_error
use Rattle.txn_model.specs.Allowed.{IsAllowed}
use Rattle.txn_model.specs.EarlyRows.{are_too_big}
use Rattle.txn_model.specs.Names.{part_of}
use Rattle.txn_model.specs.Replies.{is_fault}
use Rattle.txn_model.specs.Skeletons.{coord_skeletons, topic_skeletons}
use Rattle.txn_model.specs.Sound.{ledger_file, RecordsOf, IsBareRecord}
use Rattle.txn_model.specs.Table.{in_topic, with_batch, with_failed_batch}
use Rattle.txn_model.specs.World.{Lawful}
use Rattle.txn_engine.specs.Kept.{IsTopic, IsEngine}
use Rattle.txn_engine.specs.Publishing.{foreign, why_not_in, why_refusal, publish_reply}
use Rattle.txn_engine.specs.Table.{world_of, table_of}
use Rattle.txn_engine.specs.Told.{MayTell, EngineGoesOn}
use Rattle.txn_engine.specs.View.{EngineView, IsTied, IsBacked, UsesLog, IsWholeTopic, with_topics, replaced}
use Rattle.txn_engine.specs.declared.publish.WhyNot.{WhyNot}
use Rattle.txn_engine.proofs.BegunGoes.{row_allowed}
use Rattle.txn_engine.proofs.Going.{goes_still, topic_goes, topic_grown, topic_failed}
use Rattle.txn_engine.proofs.Lists.{set_is}
use Rattle.txn_engine.proofs.Logged.{table_for, table_for_is}
use Rattle.txn_engine.proofs.Reading.{is_topic_at, whole_at}
use Rattle.txn_engine.proofs.TopicRows.{Knows, knows}
use Rattle.txn_engine.proofs.Worlds.{IsTopicAt, some_topic}
use Rattle.txn_engine.proofs.Topics.{engine_topics}
use Rattle.txn_engine.proofs.Published.{unmarked, IsPublish, why_told, IsAfter, after_topic, put_back, early_none, late_none, adds}

-- ---- How it goes on.

module _ {D : Type 0} (on : Ghosts D) (v : EngineView) (is : IsEngine v) (old new : D) (backed : IsBacked (on.image old) v)
    (topic : List ℕ) (who : Option TxnId) (bodies : List (List ℕ)) (p : ℕ) (t : TopicView) (line : IsPublish v topic who bodies p t)
    (free : why_not_in (coord_skeletons v.coord.front) (topic_skeletons t.front) (1 + (p - 1)) who ≡ None) (some : 1 ≤ length bodies) (t' : TopicView) where
  abbrev entries : List TopicEntry
  entries = messages_of who bodies

  abbrev later : EngineView
  later = with_topics v (replaced v.topics (p - 1) t')

  place_of : Knows v topic p (p - 1)
  place_of = knows v is topic p line.known

  topic_is : IsTopic v.limits (1 + (p - 1)) t
  topic_is = is_topic_at v is (p - 1) t place_of.below line.at

  whole_is : IsTrue t.whole
  whole_is = whole_at v (p - 1) t line.at line.whole

  may : (v.limits.log < topic_total t + length bodies → ⊥) → IsTied v → Lawful (world_of v) → IsAllowed (in_topic (1 + (p - 1)) entries) (world_of v)
  may room tied =
      row_allowed v (request.Publish topic who bodies) (in_topic (1 + (p - 1)) entries) (table_for v who) (table_for_is v is tied who line.log) (early_none v is topic who bodies p t line)
      (late_none v is topic who bodies p t line free some tied room) (adds v is topic who bodies p t line free some)

  still : (X : Type 0) → (X → ⊥) → t' ≡ t → new ≡ old → EngineGoesOn on X v later old new
  still X none same disk =
      subst (λ (d : D). EngineGoesOn on X v later old d) (sym disk)
      (subst (λ (u : EngineView). EngineGoesOn on X v u old old) (sym (put_back v (p - 1) t t' line.at same)) (goes_still on X none v v old backed refl refl refl))

  changed : (X Y : Type 0) → (v.limits.log < topic_total t + length bodies → ⊥) → RecordsOf IsBareRecord (records (topic_batch entries ∷ [])) entries → IsTrue t'.whole ⊎ X
      → (table_of later ≡ with_batch (in_topic (1 + (p - 1)) entries) (table_of v)) ⊎ (table_of later ≡ with_failed_batch (in_topic (1 + (p - 1)) entries) (1 + (p - 1)) (table_of v)) → (buffer.IsFrontOf t → buffer.IsFrontOf t') → Stored (on.image new) t'.content
      → After on (Appends IsFile StandsIn t.content (topic_batch entries)) old new → Elsewhere t.content.key (on.seen old) (on.seen new) → FaultsIn on t.content.key.part old new Y → (X → Y) → EngineGoesOn on X v later old new
  changed X Y room each now table tie here since others cause means =
      let here_is : t ≡ get_or v.topics (p - 1) (some_topic v) = sym line.at in
      topic_goes on v is old new backed (p - 1) place_of.below X Y entries t' later (subst (λ (u : TopicView). IsTrue u.whole) here_is whole_is) each (may room) refl refl refl now table
      (subst (λ (u : TopicView). buffer.IsFrontOf u → buffer.IsFrontOf t') here_is tie) here
      (subst (λ (u : TopicView). After on (Appends IsFile StandsIn u.content (topic_batch entries)) old new) here_is since)
      (subst (λ (u : TopicView). Elsewhere u.content.key (on.seen old) (on.seen new)) here_is others)
      (subst (λ (u : TopicView). FaultsIn on u.content.key.part old new Y) here_is cause) means

  pub published_goes : (result : Result ℕ TopicError) (count : ℕ) → IsAfter t t' entries result → ((result ≡ Err (topic_error.Full (topic_total t))) ↔ (v.limits.log < topic_total t + length bodies)) → RecordsOf IsBareRecord (records (topic_batch entries ∷ [])) entries → ((n : ℕ) → result ≡ Err (topic_error.Full n) → new ≡ old)
      → (result ≡ Err topic_error.NoMemory → new ≡ old) → (buffer.IsFrontOf t → buffer.IsFrontOf t') → Stored (on.image new) t'.content
      → After on (Appends IsFile StandsIn t.content (topic_batch entries)) old new → Elsewhere t.content.key (on.seen old) (on.seen new) → FaultsIn on t.content.key.part old new (result ≡ Err topic_error.Fault)
      → EngineGoesOn on (is_fault (publish_reply topic count result) ≡ true) v later old new
  published_goes (Ok place) count is_after full each unwritten memory tie here since others cause =
      changed (false ≡ true) (◌≡◌ {A = Result ℕ TopicError} (Ok place) (Err topic_error.Fault)) (λ h. never place (topic_total t) (full.1 h)) each (inl (subst (λ (u : TopicView). IsTrue u.whole) (sym is_after.ok) whole_is))
      (inl (topic_grown v is (p - 1) place_of.below entries each t line.at whole_is t' t.reserved is_after.ok)) tie here since others cause (λ h. cc)
    where
      never : (place n : ℕ) → ◌≡◌ {A = Result ℕ TopicError} (Ok place) (Err (topic_error.Full n)) → ⊥
      never place n e = cc
  published_goes (Err (topic_error.Full n)) count is_after full each unwritten memory tie here since others cause = still (false ≡ true) (λ h. cc) (is_after.full n refl) (unwritten n refl)
  published_goes (Err (topic_error.Damaged place)) count is_after full each unwritten memory tie here since others cause = absurd (is_after.undamaged place refl)
  published_goes (Err topic_error.NoMemory) count is_after full each unwritten memory tie here since others cause = still (false ≡ true) (λ h. cc) (is_after.memory refl) (memory refl)
  published_goes (Err topic_error.Fault) count is_after full each unwritten memory tie here since others cause =
      changed (true ≡ true) (◌≡◌ {A = Result ℕ TopicError} (Err topic_error.Fault) (Err topic_error.Fault)) (λ h. never (topic_total t) (full.1 h)) each (inr refl)
      (inr (topic_failed v is (p - 1) place_of.below entries each t line.at t' (is_after.fault refl))) tie here since others cause (λ h. refl)
    where
      never : (n : ℕ) → ◌≡◌ {A = Result ℕ TopicError} (Err topic_error.Fault) (Err (topic_error.Full n)) → ⊥
      never n e = cc

-- ---- From the clauses of the calls.

pub why_is : (v : EngineView) (topic : List ℕ) (p : ℕ) → Knows v topic p (p - 1) → (who : Option TxnId) (o : Option WhyNot) (t u : TopicView) → t ≡ u → o ≡ why_not_in (coord_skeletons v.coord.front) (topic_skeletons u.front) p who → why_not_in (coord_skeletons v.coord.front) (topic_skeletons t.front) (1 + (p - 1)) who ≡ o
why_is v topic p found who o t u same e =
    ap₂ (λ (s : TopicView) (q : ℕ). why_not_in (coord_skeletons v.coord.front) (topic_skeletons s.front) q who) same (sym found.number) ∙ sym e

-- by the bodies that were copied
pub after_call : (t t' : TopicView) (who : Option TxnId) (copies bodies : List (List ℕ)) (result : Result ℕ TopicError) (D : Type 0) (old new : D) → copies ≡ bodies → OnOk result (t' ≡ with_entries t (messages_of who copies) t.reserved) → (result ≡ Err topic_error.Fault → t' ≡ buffer.with_failed_entries t (messages_of who copies))
    → ((count : ℕ) → result ≡ Err (topic_error.Full count) → (t' ≡ t) × (new ≡ old)) → (result ≡ Err topic_error.NoMemory → (t' ≡ t) × (new ≡ old)) → ((place : ℕ) → result ≡ Err (topic_error.Damaged place) → ⊥) → IsAfter t t' (messages_of who bodies) result
after_call t t' who copies bodies result D old new same ok fault full memory undamaged =
    subst (λ (bs : List (List ℕ)). IsAfter t t' (messages_of who bs) result) same
    (record { ok = ok; fault = fault; full = λ count e. (full count e).0; memory = λ e. (memory e).0; undamaged = undamaged })

pub full_here : (limits own : Limits) (total count : ℕ) (bodies : List (List ℕ)) (P : Type 0) → own ≡ limits → count ≡ length bodies → (P ↔ (own.log < total + count)) → (P ↔ (limits.log < total + length bodies))
full_here limits own total count bodies P same counted h = subst (λ (l : Limits). P ↔ (l.log < total + length bodies)) same (subst (λ (n : ℕ). P ↔ (own.log < total + n)) counted h)

-- Why the messages are refused, by an equal view.
abbrev pub SaysWhy : EngineView → ℕ → Option TxnId → Option WhyNot → Type 0
SaysWhy v p who o = (t : TopicView) → o ≡ why_not_in (coord_skeletons v.coord.front) (topic_skeletons (get_or v.topics (p - 1) t).front) p who

pub why_view : (v w : EngineView) (p : ℕ) (who : Option TxnId) (o : Option WhyNot) → v ≡ w → SaysWhy w p who o → SaysWhy v p who o
why_view v w p who o e h = subst (λ (u : EngineView). SaysWhy u p who o) (sym e) h

-- nothing speaks against it, at the topic that was looked at
pub free_here : (v : EngineView) (topic : List ℕ) (p : ℕ) → Knows v topic p (p - 1) → (who : Option TxnId) (o : Option WhyNot) (t : TopicView) → t ≡ get_or v.topics (p - 1) t → SaysWhy v p who o → o ≡ None → why_not_in (coord_skeletons v.coord.front) (topic_skeletons t.front) (1 + (p - 1)) who ≡ None
free_here v topic p found who o t at says none = why_is v topic p found who o t (get_or v.topics (p - 1) t) at (says t) ∙ none

pub unmarked_here : (v : EngineView) (topic : List ℕ) (p : ℕ) → Knows v topic p (p - 1) → (who : Option TxnId) (o : Option WhyNot) (t : TopicView) → t ≡ get_or v.topics (p - 1) t → SaysWhy v p who o → o ≡ None → IsUnmarked t.front who
unmarked_here v topic p found who o t at says none = unmarked (coord_skeletons v.coord.front) t.front (1 + (p - 1)) who (free_here v topic p found who o t at says none)

-- the line, by what was looked up
pub line_here : (v w : EngineView) → v ≡ w → (topic : List ℕ) (who : Option TxnId) (bodies : List (List ℕ)) (p : ℕ) (t : TopicView) → part_of v.names topic ≡ Some p → foreign who ≡ None → are_too_big v.limits bodies ≡ false → IsTopicAt v (p - 1) t
    → UsesLog w who → IsWholeTopic w topic → IsPublish v topic who bodies p t
line_here v w view topic who bodies p t known own small at log whole = record {
  known = known;
  own = own;
  small = small;
  at = at;
  log = subst (λ (z : EngineView). UsesLog z who) (sym view) log;
  whole = subst (λ (z : EngineView). IsWholeTopic z topic) (sym view) whole p known;
}

pub why_answer : (v : EngineView) (is : IsEngine v) (topic : List ℕ) (who : Option TxnId) (bodies : List (List ℕ)) (p : ℕ) (line : IsPublish v topic who bodies p (get_or v.topics (p - 1) (some_topic v))) → IsTied v → (f g : ℕ) (fs gs : ℕ → ℕ) (m : ℕ) (o : Option WhyNot) (why : WhyNot)
    → SaysWhy v p who o → o ≡ Some why → MayTell f g fs gs v (request.Publish topic who bodies) m (reply.No (why_refusal topic why)) v
why_answer v is topic who bodies p line tied f g fs gs m o why says e =
    let t : TopicView = get_or v.topics (p - 1) (some_topic v) in
    why_told v is topic who bodies p t line tied f g fs gs m why (why_is v topic p (knows v is topic p line.known) who o t t refl (says (some_topic v)) ∙ e)

pub published_engine : (v : EngineView) → IsEngine v → (topic : List ℕ) (who : Option TxnId) (bodies : List (List ℕ)) (p : ℕ) (t t' : TopicView) → IsPublish v topic who bodies p t → (result : Result ℕ TopicError) → IsAfter t t' (messages_of who bodies) result → IsEngine (with_topics v (replaced v.topics (p - 1) t'))
published_engine v is topic who bodies p t t' line result is_after =
    engine_topics v is (p - 1) t'
    (after_topic v.limits (1 + (p - 1)) t t' (messages_of who bodies) result is_after (is_topic_at v is (p - 1) t (knows v is topic p line.known).below line.at) (whole_at v (p - 1) t line.at line.whole))

-- the topics after a write by index
pub put_is : (v : EngineView) (topic : List ℕ) (p j : ℕ) → Knows v topic p j → (t' : TopicView) → with_topics v (replaced v.topics j t') ≡ with_topics v (set v.topics j t')
put_is v topic p j known t' = ap (λ (ts : List TopicView). with_topics v ts) (sym (set_is v.topics j t'))

pub put_engine : (v : EngineView) (topic : List ℕ) (p j : ℕ) → Knows v topic p j → (t' : TopicView) → IsEngine (with_topics v (replaced v.topics j t')) → IsEngine (with_topics v (set v.topics j t'))
put_engine v topic p j known t' h = subst IsEngine (put_is v topic p j known t') h
