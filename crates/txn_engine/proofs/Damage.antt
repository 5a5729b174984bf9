-- Where damage is told, and where it isn't.
use Rattle.std.proofs.Common.{◌≡◌, ◌⊎◌, inl, inr, ℕ, ◌-◌, ◌<◌, ◌≤◌, true, false, List, [], Some, Result, Ok, Err, sym, refl, ap, ◌∙◌, subst}
use Rattle.std.proofs.Math.ListN.{get_or}
use Rattle.std.proofs.lemmas.List.{get_or_default}
use Rattle.txn_base.specs.declared.request.Request.{Request}
use Rattle.txn_base.specs.declared.request.Request.TheVariants as request
use Rattle.txn_base.specs.declared.reply.Reply.{Reply}
use Rattle.txn_base.specs.declared.reply.Reply.TheVariants as reply
use Rattle.txn_base.specs.declared.reply.Refusal.TheVariants as no
use Rattle.txn_base.specs.declared.txn.TxnId.{TxnId}
use Rattle.txn_base.specs.Frames.{records}
use Rattle.txn_model.specs.Names.{part_of}
use Rattle.txn_model.specs.Topic.{limit_of}
use Rattle.txn_model.specs.Replies.{is_fault}
use Rattle.txn_buffer.specs.Record.{IsOutside}
use Rattle.txn_buffer.specs.View.{TopicView}
use Rattle.txn_buffer.specs.declared.error.TopicError.{TopicError}
use Rattle.txn_buffer.specs.declared.error.TopicError.TheVariants as topic_error
use Rattle.txn_coordinator.specs.declared.error.CoordError.{CoordError}
use Rattle.txn_coordinator.specs.declared.error.CoordError.TheVariants as coord_error
use Rattle.txn_engine.specs.Damage.{is_damage, IsDamagedPlace, IsDamageIn}
use Rattle.txn_engine.specs.Kept.{IsEngine}
use Rattle.txn_engine.specs.Publishing.{why_refusal, publish_reply}
use Rattle.txn_engine.specs.Refusals.{coord_refusal, begun_reply, added_reply}
use Rattle.txn_engine.specs.View.{EngineView}
use Rattle.txn_engine.specs.declared.publish.WhyNot.{WhyNot}
use Rattle.txn_engine.specs.declared.publish.WhyNot.TheVariants as why_not
use Rattle.txn_engine.proofs.TopicRows.{knows}

-- ---- It isn't.

not_both : (told : Reply) (part : List ℕ) (place : ℕ) → is_damage told ≡ false → told ≡ reply.No (no.Damaged part place) → ⊥
not_both told part place none is = never (sym (ap is_damage is) ∙ none)
  where
    never : true ≡ false → ⊥
    never e = cc

-- a reply that tells of none
pub none_told : (tells : Type 0) (v : EngineView) (r : Request) (told : Reply) → is_damage told ≡ false → (part : List ℕ) (place : ℕ) → told ≡ reply.No (no.Damaged part place) → IsDamageIn tells v r part place
none_told tells v r told none part place is = absurd (not_both told part place none is)

pub unknown_sound : (part : List ℕ) (told : Reply) → (told ≡ reply.No (no.UnknownPart part)) ⊎ (told ≡ reply.No no.NoMemory) → is_damage told ≡ false
unknown_sound part told (inl e) = ap is_damage e
unknown_sound part told (inr e) = ap is_damage e

pub unknown_quiet : (part : List ℕ) (told : Reply) → (told ≡ reply.No (no.UnknownPart part)) ⊎ (told ≡ reply.No no.NoMemory) → is_fault told ≡ false
unknown_quiet part told (inl e) = ap is_fault e
unknown_quiet part told (inr e) = ap is_fault e

pub refusal_sound : (e : CoordError) → is_damage (reply.No (coord_refusal e)) ≡ false
refusal_sound coord_error.NotFound = refl
refusal_sound (coord_error.NotOpen status) = refl
refusal_sound coord_error.BadTimeout = refl
refusal_sound (coord_error.Full what count) = refl
refusal_sound coord_error.Fault = refl
refusal_sound coord_error.NoMemory = refl

pub begun_sound : (r : Result TxnId CoordError) → is_damage (begun_reply r) ≡ false
begun_sound (Ok x) = refl
begun_sound (Err e) = refusal_sound e

pub added_sound : (r : Result (Unit {0}) CoordError) → is_damage (added_reply r) ≡ false
added_sound (Ok u) = refl
added_sound (Err e) = refusal_sound e

pub why_sound : (topic : List ℕ) (why : WhyNot) → is_damage (reply.No (why_refusal topic why)) ≡ false
why_sound topic why_not.NotFound = refl
why_sound topic (why_not.NotOpen status) = refl
why_sound topic why_not.NotRegistered = refl

pub why_quiet : (topic : List ℕ) (why : WhyNot) → is_fault (reply.No (why_refusal topic why)) ≡ false
why_quiet topic why_not.NotFound = refl
why_quiet topic (why_not.NotOpen status) = refl
why_quiet topic why_not.NotRegistered = refl

pub published_sound : (topic : List ℕ) (count : ℕ) (r : Result ℕ TopicError) → ((place : ℕ) → r ≡ Err (topic_error.Damaged place) → ⊥) → is_damage (publish_reply topic count r) ≡ false
published_sound topic count (Ok place) none = refl
published_sound topic count (Err (topic_error.Full n)) none = refl
published_sound topic count (Err (topic_error.Damaged place)) none = absurd (none place refl)
published_sound topic count (Err topic_error.Fault) none = refl
published_sound topic count (Err topic_error.NoMemory) none = refl

-- ---- It is.

same_damage : (a b : List ℕ) (i j : ℕ) → reply.No (no.Damaged a i) ≡ reply.No (no.Damaged b j) → (b ≡ a) × (i ≡ j)
same_damage a b i j e = (cc, cc)

module _ (tells : Type 0) (v w : EngineView) (view : v ≡ w) (is : IsEngine v) (topic : List ℕ) (first max : ℕ) (p : ℕ) (known : part_of v.names topic ≡ Some p) (t : TopicView) (found : t ≡ get_or v.topics (p - 1) t) where
  at_any : (u : TopicView) → get_or v.topics (p - 1) u ≡ t
  at_any u = get_or_default v.topics (p - 1) u t (knows v is topic p known).below ∙ sym found

  pub damage_told : (place : ℕ) → (first ≤ place) × (place < limit_of t.front) → (tells → IsOutside (get_or (records t.content.batches) place [])) → (named : List ℕ) → named ≡ topic
      → (part : List ℕ) (at : ℕ) → reply.No (no.Damaged named place) ≡ reply.No (no.Damaged part at) → IsDamageIn tells w (request.Read topic first max) part at
  damage_told place within outside named same part at is_it =
      let both = same_damage named part place at is_it in (
        both.0 ∙ same,
        subst (λ (x : EngineView). IsDamagedPlace tells x topic first at) view
            (subst (λ (i : ℕ). IsDamagedPlace tells v topic first i) both.1
            (record { number = p; known = known; topic = t; at = at_any; behind = within.0; before = within.1; outside = outside })),
      )
