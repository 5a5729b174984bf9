-- Messages as records, one by one.
use Rattle.std.proofs.Common.{◌≡◌, ℕ, ◌+◌, ◌<◌, ◌≤◌, true, List, [], ◌∷◌, ◌++◌, length, get_or, take, map, Some, None, refl, sym, ap, ◌∙◌, subst, arith, length-append}
use Rattle.std.specs.Prelude.{Option, All, is_none}
use Rattle.std.proofs.lemmas.List.{map-append, take_more, get_or-map, length-map, append-nil, append_assoc}
use Rattle.std.proofs.lemmas.List.Elements.{All-append, All-cons, All-nil}
use Rattle.std.proofs.lemmas.List.Concat.{flat_map-append}
use Rattle.byteorder.specs.Numbers.{length-bytes_high_first}
use Rattle.byteorder.specs.Endian.{big_bytes}
use Rattle.txn_base.specs.declared.txn.TxnId.{TxnId}
use Rattle.txn_base.specs.declared.entry.TopicEntry.{TopicEntry}
use Rattle.txn_base.specs.declared.entry.TopicEntry.TheVariants as topic
use Rattle.txn_base.specs.declared.limits.Limits.{Limits}
use Rattle.txn_base.specs.Bytes.{contents_of}
use Rattle.txn_base.specs.Decoded.{topic_entry_of}
use Rattle.txn_base.specs.Frames.{Record, record_bytes, body_of}
use Rattle.txn_base.specs.Limits.{InRange}
use Rattle.txn_base.specs.Records.{topic_record}
use Rattle.txn_base.specs.Room.{Roomy}
use Rattle.txn_model.specs.Entries.{message_entry}
use Rattle.txn_model.specs.Skeletons.{topic_skeleton, topic_skeletons}
use Rattle.txn_model.specs.Topic.{marker_of, part_allows}
use Rattle.txn_buffer.specs.Adding.{AreBodies, ArePublished, messages_of, message_kind, IsMessageOf, IsUnmarked, opens_for}
use Rattle.txn_buffer.specs.Front.{opens_of, ends_of}
use Rattle.txn_buffer.specs.Record.{IsInGrammar}
use Rattle.txn_buffer.specs.View.{topic_batch}
use Rattle.txn_buffer.proofs.Tables.{skeletons-push, unmarked_after}

-- what holds of each of these bytes holds of one of them
pub at_each : (P : List ℕ → Type 0) (xs : List Roomy) (i : ℕ) (x : Roomy) → x ≡ get_or xs i x → i < length xs → All P (contents_of xs) → P x.bytes
at_each P xs i x is within each =
    subst P (get_or-map (λ (b : Roomy). b.bytes) xs i x x.bytes within ∙ sym (ap (λ (b : Roomy). b.bytes) is)) (each i x.bytes (omega (arith, within, length-map xs (λ (b : Roomy). b.bytes))))

pub contents-push : (xs : List Roomy) (x : Roomy) → contents_of (xs ++ x ∷ []) ≡ contents_of xs ++ x.bytes ∷ []
contents-push xs x = map-append (λ (b : Roomy). b.bytes) xs (x ∷ [])

contents-more : (xs : List Roomy) (i : ℕ) (x : Roomy) → x ≡ get_or xs i x → i < length xs → contents_of (take (i + 1) xs) ≡ contents_of (take i xs) ++ x.bytes ∷ []
contents-more xs i x is within =
    ap contents_of (take_more xs i x within) ∙ contents-push (take i xs) (get_or xs i x) ∙ ap (λ (b : Roomy). contents_of (take i xs) ++ b.bytes ∷ []) (sym is)

module _ (txn : Option TxnId) (bodies : List Roomy) (i : ℕ) (body : Roomy) (is : body ≡ get_or bodies i body) (within : i < length bodies) (batch more : List Roomy) (bytes : Roomy) (pushed : more ≡ batch ++ bytes ∷ []) where
  messages-more : messages_of txn (contents_of (take (i + 1) bodies)) ≡ messages_of txn (contents_of (take i bodies)) ++ message_entry txn body.bytes ∷ []
  messages-more = ap (messages_of txn) (contents-more bodies i body is within) ∙ map-append (message_entry txn) (contents_of (take i bodies)) (body.bytes ∷ [])

  pub batch_more : contents_of batch ≡ topic_batch (messages_of txn (contents_of (take i bodies))) → bytes.bytes ≡ topic_record (message_entry txn body.bytes)
      → contents_of more ≡ topic_batch (messages_of txn (contents_of (take (i + 1) bodies)))
  batch_more so_far one =
      ap contents_of pushed ∙ contents-push batch bytes ∙ ap (λ l. l ++ bytes.bytes ∷ []) so_far ∙ ap (λ b. topic_batch (messages_of txn (contents_of (take i bodies))) ++ b ∷ []) one
      ∙ sym (ap topic_batch messages-more ∙ map-append topic_record (messages_of txn (contents_of (take i bodies))) (message_entry txn body.bytes ∷ []))

  pub entries_more : map topic_entry_of (contents_of batch) ≡ messages_of txn (contents_of (take i bodies)) → topic_entry_of bytes.bytes ≡ message_entry txn body.bytes
      → map topic_entry_of (contents_of more) ≡ messages_of txn (contents_of (take (i + 1) bodies))
  entries_more so_far one =
      ap (λ (l : List Roomy). map topic_entry_of (contents_of l)) pushed ∙ ap (map topic_entry_of) (contents-push batch bytes) ∙ map-append topic_entry_of (contents_of batch) (bytes.bytes ∷ [])
      ∙ ap (λ l. l ++ topic_entry_of bytes.bytes ∷ []) so_far ∙ ap (λ e. messages_of txn (contents_of (take i bodies)) ++ e ∷ []) one ∙ sym messages-more

  pub grammar_more : All IsInGrammar (contents_of batch) → IsInGrammar bytes.bytes → All IsInGrammar (contents_of more)
  grammar_more so_far one =
      subst (All IsInGrammar) (sym (ap contents_of pushed ∙ contents-push batch bytes)) (All-append IsInGrammar (contents_of batch) (bytes.bytes ∷ []) so_far (All-cons IsInGrammar bytes.bytes [] one (All-nil IsInGrammar)))

-- the body of a frame with one record more
pub body_more : (batch : List Roomy) (i : ℕ) (bytes : Roomy) → bytes ≡ get_or batch i bytes → i < length batch
    → length (body_of (contents_of (take (i + 1) batch))) ≡ length (body_of (contents_of (take i batch))) + (length bytes.bytes + 2)
body_more batch i bytes is within =
    ap (λ l. length (body_of l)) (contents-more batch i bytes is within)
    ∙ ap length (flat_map-append record_bytes (contents_of (take i batch)) (bytes.bytes ∷ []) ∙ ap (λ (l : List ℕ). body_of (contents_of (take i batch)) ++ l) (append-nil (record_bytes bytes.bytes)))
    ∙ omega (arith, length-append (body_of (contents_of (take i batch))) (record_bytes bytes.bytes), length-append (big_bytes 2 (length bytes.bytes)) bytes.bytes, length-bytes_high_first 2 (length bytes.bytes))

-- bodies within the bound are such as any record may have
pub are_published : (limits : Limits) (bodies : List (List ℕ)) → InRange limits → AreBodies limits bodies → ArePublished bodies
are_published limits bodies range are = record {
  some = are.some;
  few = are.few;
  each = λ k d h. let one = are.each k d h in record {
    text = one.text;
    size = omega (arith, one.size, range.message.most);
  };
}

-- records of messages are messages
pub are_messages : (txn : Option TxnId) (rs : List Record) (bodies : List (List ℕ)) → map topic_entry_of rs ≡ messages_of txn bodies → All IsInGrammar rs → All (IsMessageOf txn) rs
are_messages txn rs bodies same grammar = λ k d h. record {
  grammar = grammar k d h;
  kind =
      kinds txn (get_or bodies k d) ∙ ap topic_skeleton (sym (get_or-map (message_entry txn) bodies k d (topic_entry_of d) (omega (arith, h, lengths)))
      ∙ ap (λ (l : List TopicEntry). get_or l k (topic_entry_of d)) (sym same) ∙ get_or-map topic_entry_of rs k d (topic_entry_of d) h);
}
  where
    lengths : length rs ≡ length bodies
    lengths = sym (length-map rs topic_entry_of) ∙ ap length same ∙ length-map bodies (message_entry txn)

    kinds : (t : Option TxnId) (body : List ℕ) → message_kind t ≡ topic_skeleton (message_entry t body)
    kinds None body = refl
    kinds (Some x) body = refl

-- ---- Messages behind the front.

pub message_allowed : (entries : List TopicEntry) (txn : Option TxnId) → IsUnmarked entries txn → part_allows (topic_skeletons entries) (message_kind txn) ≡ true
message_allowed entries None h = refl
message_allowed entries (Some x) h = ap is_none h

pub unmarked_still : (entries more : List TopicEntry) (e : TopicEntry) (txn : Option TxnId) → more ≡ entries ++ e ∷ [] → message_kind txn ≡ topic_skeleton e → IsUnmarked entries txn → IsUnmarked more txn
unmarked_still entries more e None added kind h = tt
unmarked_still entries more e (Some x) added kind h =
    ap (λ l. marker_of (topic_skeletons l) x) added ∙ ap (λ l. marker_of l x) (skeletons-push entries e ∙ ap (λ k. topic_skeletons entries ++ k ∷ []) (sym kind)) ∙ unmarked_after (topic_skeletons entries) x h

-- The facts of a step that adds a message.
pub record AddsMessage (entries : List TopicEntry) (opens n i : ℕ) (txn : Option TxnId) (e : TopicEntry) : Type 0 where
  pub kind : message_kind txn ≡ topic_skeleton e
  pub allowed : part_allows (topic_skeletons entries) (topic_skeleton e) ≡ true
  pub opens_enough : opens_of e ≤ opens
  pub no_end : ends_of e ≡ 0
  pub opens_after : (later : ℕ) → opens ≤ later + opens_of e → opens_for txn n ≤ later + opens_for txn (i + 1)

opens_are : (txn : Option TxnId) (e : TopicEntry) → message_kind txn ≡ topic_skeleton e → (opens_of e ≡ opens_for txn 1) × (ends_of e ≡ 0)
opens_are None (topic.Plain body) h = (refl, refl)
opens_are None (topic.Opened x body) h = cc
opens_are None (topic.Commit x) h = cc
opens_are None (topic.Abort x) h = cc
opens_are (Some y) (topic.Plain body) h = cc
opens_are (Some y) (topic.Opened x body) h = (refl, refl)
opens_are (Some y) (topic.Commit x) h = cc
opens_are (Some y) (topic.Abort x) h = cc

enough : (txn : Option TxnId) (n i opens : ℕ) → i < n → opens_for txn n ≤ opens + opens_for txn i → opens_for txn 1 ≤ opens
enough None n i opens within room = omega arith
enough (Some x) n i opens within room = omega (arith, within, room)

still_enough : (txn : Option TxnId) (n i opens later : ℕ) → opens_for txn n ≤ opens + opens_for txn i → opens ≤ later + opens_for txn 1 → opens_for txn n ≤ later + opens_for txn (i + 1)
still_enough None n i opens later room fell = omega arith
still_enough (Some x) n i opens later room fell = omega (arith, room, fell)

pub adds_message : (entries : List TopicEntry) (opens : ℕ) (txn : Option TxnId) (batch : List Roomy) (i : ℕ) (bytes : Roomy) (e : TopicEntry) → bytes ≡ get_or batch i bytes → i < length batch
    → All (IsMessageOf txn) (contents_of batch) → e ≡ topic_entry_of bytes.bytes → IsUnmarked entries txn → opens_for txn (length batch) ≤ opens + opens_for txn i → AddsMessage entries opens (length batch) i txn e
adds_message entries opens txn batch i bytes e is within each read unmarked room =
    let kind : message_kind txn ≡ topic_skeleton e = (at_each (IsMessageOf txn) batch i bytes is within each).kind ∙ ap topic_skeleton (sym read) in
    let counts : (opens_of e ≡ opens_for txn 1) × (ends_of e ≡ 0) = opens_are txn e kind in
    record {
      kind = kind;
      allowed = ap (part_allows (topic_skeletons entries)) (sym kind) ∙ message_allowed entries txn unmarked;
      opens_enough = subst (λ n. n ≤ opens) (sym counts.0) (enough txn (length batch) i opens within room);
      no_end = counts.1;
      opens_after = λ later fell. still_enough txn (length batch) i opens later room (subst (λ n. opens ≤ later + n) counts.0 fell);
    }

-- the entries with one more of the batch
pub added_more : (old entries more : List TopicEntry) (batch : List Roomy) (i : ℕ) (bytes : Roomy) (e : TopicEntry) → bytes ≡ get_or batch i bytes → i < length batch → e ≡ topic_entry_of bytes.bytes
    → entries ≡ old ++ map topic_entry_of (contents_of (take i batch)) → more ≡ entries ++ e ∷ [] → more ≡ old ++ map topic_entry_of (contents_of (take (i + 1) batch))
added_more old entries more batch i bytes e is within read so_far added =
    added ∙ ap (λ l. l ++ e ∷ []) so_far ∙ append_assoc old (map topic_entry_of (contents_of (take i batch))) (e ∷ []) ∙ ap (λ x. old ++ (map topic_entry_of (contents_of (take i batch)) ++ x ∷ [])) read
    ∙ ap (λ l. old ++ l) (sym (ap (map topic_entry_of) (contents-more batch i bytes is within) ∙ map-append topic_entry_of (contents_of (take i batch)) (bytes.bytes ∷ [])))
