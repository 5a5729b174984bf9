-- What the table tells of a publish and of a read, where what they use is rebuilt.
use Rattle.std.proofs.Common.{◌≡◌, inl, ℕ, ◌+◌, ◌-◌, ◌<◌, ◌≤◌, ◌==◌, ◌&&◌, ◌||◌, not, Bool, true, false, if◌then◌else◌, List, [], ◌∷◌, length, Option, Some, None, is_some, is_none, option_map, IsTrue, refl, sym, ap, ap₂, ◌∙◌, subst, arith, unwrap_or}
use Rattle.std.specs.Option.{option_or}
use Rattle.std.proofs.Math.ListN.{get_or}
use Rattle.std.proofs.lemmas.Bool.Decides.{nat_tests}
use Rattle.txn_base.specs.Names.{is_sub, is_topic_name}
use Rattle.txn_base.specs.declared.core_entry.CoreEntry.{CoreEntry}
use Rattle.txn_base.specs.Decoded.{coord_entries}
use Rattle.txn_base.specs.declared.entry.CoordEntry.{CoordEntry}
use Rattle.txn_base.specs.declared.entry.TopicEntry.{TopicEntry}
use Rattle.txn_base.specs.declared.limits.Limits.{Limits}
use Rattle.txn_base.specs.declared.messages.Message.{Message}
use Rattle.txn_base.specs.declared.request.Request.{Request}
use Rattle.txn_base.specs.declared.request.Request.TheVariants as request
use Rattle.txn_base.specs.declared.reply.Reply.TheVariants as reply
use Rattle.txn_base.specs.declared.reply.Refusal.{Refusal}
use Rattle.txn_base.specs.declared.reply.Refusal.TheVariants as no
use Rattle.txn_base.specs.declared.reply.What.TheVariants.{Log}
use Rattle.txn_base.specs.declared.txn.TxnId.{TxnId}
use Rattle.txn_base.specs.declared.txn.Status.{Status}
use Rattle.txn_base.specs.declared.txn.Status.TheVariants.{Open, Committing, Committed, Aborting, Aborted}
use Rattle.txn_model.specs.Answers.{Answers, uses, unread}
use Rattle.txn_model.specs.Coord.{status_of, in_parts, is_open}
use Rattle.txn_model.specs.Drive.{RebuildsAll}
use Rattle.txn_model.specs.EarlyRows.{early_refusal, are_too_big}
use Rattle.txn_model.specs.Full.{full_log}
use Rattle.txn_model.specs.LateRows.{late_refusal}
use Rattle.txn_model.specs.Names.{part_of, name_of}
use Rattle.txn_model.specs.Requests.{number_of}
use Rattle.txn_model.specs.Skeletons.{coord_skeletons, topic_skeletons}
use Rattle.txn_model.specs.Table.{TableState}
use Rattle.txn_model.specs.Topic.{marker_of, limit_of, read_slice}
use Rattle.txn_model.specs.Words.{when, that, list_at}
use Rattle.txn_model.specs.World.{part_skeletons}
use Rattle.txn_model.proofs.Laws.Grants.{topic_part}
use Rattle.txn_model.proofs.Laws.Names.{known}
use Rattle.txn_engine.specs.Kept.{IsEngine}
use Rattle.txn_engine.specs.Publishing.{foreign, why_not_by, why_not_in, why_refusal}
use Rattle.txn_engine.specs.Table.{coord_flight, lists_from, world_of, table_of}
use Rattle.txn_engine.specs.View.{EngineView, IsTied}
use Rattle.txn_engine.proofs.Logged.{topic_list, topic_rebuilt, world_by, table_by, logged_world, log_for, flight_for, lost_for, world_for, table_for}
use Rattle.txn_engine.proofs.Rows.{one_stays, granted_here}
use Rattle.txn_engine.proofs.TopicNames.{not_sub}
use Rattle.txn_engine.proofs.Worlds.{name_at_index, some_topic}

-- ---- A name that an engine knows.

-- the topic of this name is that at the index j
pub record Knows (v : EngineView) (topic : List ℕ) (p j : ℕ) : Type 0 where
  pub part : part_of v.names topic ≡ Some p
  pub number : p ≡ 1 + j
  pub below : j < length v.topics
  pub named : name_of v.names p ≡ topic
  pub form : is_topic_name topic ≡ true

pub knows : (v : EngineView) → IsEngine v → (topic : List ℕ) (p : ℕ) → part_of v.names topic ≡ Some p → Knows v topic p (p - 1)
knows v is topic p e =
    let found = known v.names topic p e in
    let below : p - 1 < length v.names = omega (arith, found.low, found.high) in
    record {
      part = e;
      number = omega (arith, found.low);
      below = omega (arith, below, is.count);
      named = found.named;
      form = subst (λ (name : List ℕ). is_topic_name name ≡ true) (sym (name_by p found.low (p == 0) refl) ∙ found.named) (name_at_index v.names (p - 1) below is.topic_names);
    }
  where
    not_none : (p : ℕ) → 1 ≤ p → (p == 0) ≡ true → ⊥
    not_none p low e = grind (arith, nat_tests, low, e)

    name_by : (p : ℕ) → 1 ≤ p → (b : Bool) → (p == 0) ≡ b → name_of v.names p ≡ get_or v.names (p - 1) []
    name_by p low true e = absurd (not_none p low e)
    name_by p low false e = rw e refl

module _ (v : EngineView) (topic : List ℕ) (p j : ℕ) (knows : Knows v topic p j) where
  pub number_is : number_of (world_of v) topic ≡ 1 + j
  number_is = ap (λ (o : Option ℕ). unwrap_or o 0) knows.part ∙ knows.number

  no_sub : is_sub (name_of v.names (number_of (world_of v) topic)) ≡ false
  no_sub = ap (λ (q : ℕ). is_sub (name_of v.names q)) (number_is ∙ sym knows.number) ∙ ap is_sub knows.named ∙ not_sub topic knows.form

  -- where it is rebuilt
  module _ (whole : IsTrue (get_or v.topics j (some_topic v)).whole) where
    pub topic_stays : (log flight : List CoordEntry) (lost : Bool) → RebuildsAll (number_of (world_of v) topic ∷ []) (table_by v log flight lost) (table_by v log flight lost)
    topic_stays log flight lost =
        let q : ℕ = number_of (world_of v) topic in
        let t : TableState = table_by v log flight lost in
        (t, one_stays t q (topic_rebuilt v j (some_topic v) knows.below whole log flight lost q number_is), refl)

    pub publish_stays : (who : Option TxnId) (bodies : List (List ℕ)) → RebuildsAll (uses (world_for v who) (request.Publish topic who bodies)) (table_for v who) (table_for v who)
    publish_stays None bodies = topic_stays (log_for v None) (flight_for v None) (lost_for v None)
    publish_stays (Some x) bodies = (table_for v (Some x), refl, topic_stays v.coord.front [] false)

    module _ (is : IsEngine v) (tied : IsTied v) where
      pub list_is : list_at (lists_from 1 v.topics) (number_of (world_of v) topic) ≡ (get_or v.topics j (some_topic v)).front
      list_is = ap (list_at (lists_from 1 v.topics)) number_is ∙ topic_list v is tied j (some_topic v) knows.below whole

      pub skeletons_are : (log : List CoordEntry) → part_skeletons (world_by v log) (number_of (world_of v) topic) ≡ topic_skeletons (get_or v.topics j (some_topic v)).front
      skeletons_are log = topic_part (world_by v log) (number_of (world_of v) topic) no_sub ∙ ap topic_skeletons list_is

-- ---- A publish.

own_by : (b : Bool) (k : ℕ) → when (not b) k ≡ None → b ≡ true
own_by true k e = refl
own_by false k e = absurd (some_not e)
  where
    some_not : {k : ℕ} → Some k ≡ None → ⊥
    some_not e = cc

pub is_own : (x : TxnId) → foreign (Some x) ≡ None → (x.most == 0) ≡ true
is_own x e = own_by (x.most == 0) x.most e

foreign_by : (b : Bool) (k m : ℕ) → when (not b) k ≡ Some m → (b ≡ false) × (k ≡ m)
foreign_by true k m e = absurd (none_not e)
  where
    none_not : {m : ℕ} → None ≡ Some m → ⊥
    none_not e = cc
foreign_by false k m e = (refl, same e)
  where
    same : {k m : ℕ} → Some k ≡ Some m → k ≡ m
    same e = cc

module _ (limits : Limits) (v : EngineView) (topic : List ℕ) (bodies : List (List ℕ)) where
  pub unknown_publish : (who : Option TxnId) → part_of v.names topic ≡ None → early_refusal limits (world_of v) (request.Publish topic who bodies) ≡ Some (no.UnknownPart topic)
  unknown_publish who e = rw e refl

  pub foreign_publish : (who : Option TxnId) (p k : ℕ) → part_of v.names topic ≡ Some p → is_sub topic ≡ false → foreign who ≡ Some k → early_refusal limits (world_of v) (request.Publish topic who bodies) ≡ Some (no.UnknownCoordinator k)
  foreign_publish None p k e kind other = absurd (none_not other)
    where
      none_not : {k : ℕ} → None ≡ Some k → ⊥
      none_not e = cc
  foreign_publish (Some x) p k e kind other =
      let found = foreign_by (x.most == 0) x.most k other in
      rw (e, kind, found.0) (ap (λ (n : ℕ). Some (no.UnknownCoordinator n)) found.1)

  pub big_publish : (who : Option TxnId) (p : ℕ) → part_of v.names topic ≡ Some p → is_sub topic ≡ false → foreign who ≡ None → are_too_big limits bodies ≡ true → early_refusal limits (world_of v) (request.Publish topic who bodies) ≡ Some no.TooBig
  big_publish None p e kind own big = rw (e, kind, big) refl
  big_publish (Some x) p e kind own big = rw (e, kind, is_own x own, big) refl

  pub early_publish : (who : Option TxnId) (p : ℕ) → part_of v.names topic ≡ Some p → is_sub topic ≡ false → foreign who ≡ None → are_too_big limits bodies ≡ false → early_refusal limits (world_of v) (request.Publish topic who bodies) ≡ None
  early_publish None p e kind own small = rw (e, kind, small) refl
  early_publish (Some x) p e kind own small = rw (e, kind, is_own x own, small) refl

full_last : (f : Option ℕ) → option_or (option_map (λ (n : ℕ). no.Full Log n) f) None ≡ option_map (λ (n : ℕ). no.Full Log n) f
full_last None = refl
full_last (Some n) = refl

publish_by : (topic : List ℕ) (x : TxnId) (s : Option Status) (ended registered : Bool) (f : Option ℕ)
    → option_or (when (is_some (that (λ (y : TxnId). is_none s) (Some x))) no.NotFound)
    (option_or (option_map (λ (status : Status). no.NotOpen status) (that (λ (status : Status). not (is_open (Some status)) || (true && ended)) s))
    (option_or (option_map (λ (part : List ℕ). no.NotRegistered part) (when (true && not registered) topic))
    (option_or (option_map (λ (n : ℕ). no.Full Log n) f) None)))
    ≡ option_or (option_map (why_refusal topic) (why_not_by s ended registered)) (option_map (λ (n : ℕ). no.Full Log n) f)
publish_by topic x None ended registered f = refl
publish_by topic x (Some Open) true registered f = refl
publish_by topic x (Some Open) false true f = full_last f
publish_by topic x (Some Open) false false f = refl
publish_by topic x (Some Committing) ended registered f = refl
publish_by topic x (Some Committed) ended registered f = refl
publish_by topic x (Some Aborting) ended registered f = refl
publish_by topic x (Some Aborted) ended registered f = refl

module _ (limits : Limits) (v : EngineView) (is : IsEngine v) (tied : IsTied v) (topic : List ℕ) (p j : ℕ) (knows : Knows v topic p j) (whole : IsTrue (get_or v.topics j (some_topic v)).whole) (bodies : List (List ℕ)) where
  abbrev front : List TopicEntry
  front = (get_or v.topics j (some_topic v)).front

  abbrev log : List CoreEntry
  log = coord_skeletons v.coord.front

  abbrev number : ℕ
  number = number_of (world_of v) topic

  abbrev listed : List TopicEntry
  listed = list_at (lists_from 1 v.topics) number

  same_list : listed ≡ front
  same_list = list_is v topic p j knows whole is tied

  abbrev told : TxnId → Bool → ℕ → List TopicEntry → Option Refusal
  told x ended q es = option_or (option_map (why_refusal topic) (why_not_by (status_of log x) ended (in_parts log x q))) (option_map (λ (n : ℕ). no.Full Log n) (full_log limits (length es) (length bodies)))

  -- by the refusal of its transaction, and the room in the topic's ledger
  pub late_publish : (who : Option TxnId) → late_refusal limits (table_for v who) (request.Publish topic who bodies)
      ≡ option_or (option_map (why_refusal topic) (why_not_in log (topic_skeletons front) (1 + j) who)) (option_map (λ (n : ℕ). no.Full Log n) (full_log limits (length front) (length bodies)))
  late_publish None =
      full_last (full_log limits (length listed) (length bodies))
      ∙ ap (λ (es : List TopicEntry). option_map (λ (n : ℕ). no.Full Log n) (full_log limits (length es) (length bodies))) same_list
  late_publish (Some x) =
      let ended : Bool = is_some (marker_of (part_skeletons (logged_world v) number) x) in
      publish_by topic x (status_of log x) ended (in_parts log x number) (full_log limits (length listed) (length bodies))
      ∙ ap (λ (es : List TopicEntry). told x ended number es) same_list
      ∙ ap₂ (λ (sk : List CoreEntry) (q : ℕ). told x (is_some (marker_of sk x)) q front) (skeletons_are v topic p j knows whole is tied v.coord.front) (number_is v topic p j knows)

-- ---- A read.

module _ (limits : Limits) (v : EngineView) (topic : List ℕ) (first max : ℕ) where
  pub unknown_read : part_of v.names topic ≡ None → early_refusal limits (world_of v) (request.Read topic first max) ≡ Some (no.UnknownPart topic)
  unknown_read e = rw e refl

  pub early_read : (p : ℕ) → part_of v.names topic ≡ Some p → is_sub topic ≡ false → early_refusal limits (world_of v) (request.Read topic first max) ≡ None
  early_read p e kind = rw (e, kind) refl

module _ (limits : Limits) (rose : ℕ → Type 0) (v : EngineView) (topic : List ℕ) (p j : ℕ) (knows : Knows v topic p j) (whole : IsTrue (get_or v.topics j (some_topic v)).whole) (first max : ℕ) where
  abbrev asked : Request
  asked = request.Read topic first max

  free : early_refusal limits (world_of v) asked ≡ None
  free = early_read limits v topic first max p knows.part (not_sub topic knows.form)

  used : RebuildsAll (uses (world_of v) asked) (table_of v) (table_of v)
  used = topic_stays v topic p j knows whole (coord_entries v.coord.content.batches) (coord_flight v.coord.content.standing) (not v.coord.whole)

  pub read_told : IsEngine v → IsTied v → (limit : ℕ) (messages : List Message) → limit ≡ limit_of (get_or v.topics j (some_topic v)).front → messages ≡ read_slice limits (get_or v.topics j (some_topic v)).front first max
      → Answers limits rose (table_of v) asked (reply.Read limit messages) (table_of v)
  read_told is tied limit messages l m =
      let list = list_is v topic p j knows whole is tied in
      granted_here limits rose (table_of v) asked free used (reply.Read limit messages) (table_of v) refl
      (inl (ap₂ (λ (a : ℕ) (b : List Message). reply.Read a b) (l ∙ ap limit_of (sym list)) (m ∙ ap (λ (es : List TopicEntry). read_slice limits es first max) (sym list)), refl))

  pub read_fault_told : (named : List ℕ) → named ≡ topic → rose (1 + j) → Answers limits rose (table_of v) asked (reply.No (no.Fault named)) (table_of v)
  read_fault_told named same cause =
      unread free (table_of v) used
      (1 + j, ap (λ (q : ℕ). Some q) (number_is v topic p j knows), cause, ap (λ (name : List ℕ). reply.No (no.Fault name)) (same ∙ sym knows.named ∙ ap (name_of v.names) knows.number), refl)
