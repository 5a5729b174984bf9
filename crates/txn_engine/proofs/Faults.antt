-- The part that a fault names is one whose count rose.
use Rattle.std.proofs.Common.{◌≡◌, ◌⊎◌, inl, inr, ℕ, ◌+◌, ◌-◌, ◌<◌, ◌≤◌, List, [], length, Option, Some, None, IfSome, Result, Ok, Err, refl, sym, ap, ◌∙◌, subst, arith, codes}
use Rattle.std.proofs.Math.ListN.{get_or}
use Rattle.txn_base.specs.declared.reply.Outcome.{Outcome}
use Rattle.txn_base.specs.declared.reply.Reply.{Reply}
use Rattle.txn_base.specs.declared.reply.Reply.TheVariants as reply
use Rattle.txn_base.specs.declared.reply.Refusal.TheVariants as no
use Rattle.txn_base.specs.declared.txn.TxnId.{TxnId}
use Rattle.txn_base.specs.declared.txn.Decision.{Decision}
use Rattle.txn_base.specs.Outside.{Rose}
use Rattle.txn_buffer.specs.View.{TopicView}
use Rattle.txn_buffer.specs.declared.error.TopicError.{TopicError}
use Rattle.txn_buffer.specs.declared.error.TopicError.TheVariants as topic_error
use Rattle.txn_coordinator.specs.declared.error.CoordError.{CoordError}
use Rattle.txn_coordinator.specs.declared.error.CoordError.TheVariants as coord_error
use Rattle.txn_model.specs.Names.{part_of}
use Rattle.txn_engine.specs.declared.publish.WhyNot.{WhyNot}
use Rattle.txn_engine.specs.declared.publish.WhyNot.TheVariants as why_not
use Rattle.txn_engine.specs.Faults.{stuck_name, fault_name, RoseByName}
use Rattle.txn_engine.specs.Kept.{IsTopic, IsEngine}
use Rattle.txn_engine.specs.Publishing.{why_refusal, publish_reply}
use Rattle.txn_engine.specs.Refusals.{coord_refusal, begun_reply, added_reply}
use Rattle.txn_engine.specs.Told.{RoseFor}
use Rattle.txn_engine.specs.View.{EngineView}
use Rattle.txn_engine.proofs.Driving.{stuck_by}
use Rattle.txn_engine.proofs.Marks.{name_here}
use Rattle.txn_engine.proofs.Reading.{at_known, is_topic_at, rose_at}
use Rattle.txn_engine.proofs.TopicRows.{Knows, knows}

module _ (names : List (List ℕ)) (rose : ℕ → Type 0) where
  -- A reply names such a part, if it names one.
  abbrev pub IsNamed : Reply → Type 0
  IsNamed told = IfSome (fault_name told) (RoseByName names rose)

  pub named_for : (told told' : Reply) → told' ≡ told → IsNamed told → IsNamed told'
  named_for told told' e h = subst IsNamed (sym e) h

  pub none_named : (told : Reply) → fault_name told ≡ None → IsNamed told
  none_named told e = subst (λ (o : Option (List ℕ)). IfSome o (RoseByName names rose)) (sym e) tt

  pub unknown_named : (part : List ℕ) (told : Reply) → (told ≡ reply.No (no.UnknownPart part)) ⊎ (told ≡ reply.No no.NoMemory) → IsNamed told
  unknown_named part told (inl e) = none_named told (ap fault_name e)
  unknown_named part told (inr e) = none_named told (ap fault_name e)

  -- ---- The coordinator.

  pub coordinator_named : rose 0 → RoseByName names rose (codes "@coordinator")
  coordinator_named grew = record { number = 0; within = least (length names); named = refl; grew = grew }
    where
      least : (n : ℕ) → 0 ≤ n
      least n = omega arith

  pub refusal_named : (e : CoordError) → (e ≡ coord_error.Fault → rose 0) → IsNamed (reply.No (coord_refusal e))
  refusal_named coord_error.NotFound grew = tt
  refusal_named (coord_error.NotOpen status) grew = tt
  refusal_named coord_error.BadTimeout grew = tt
  refusal_named (coord_error.Full what count) grew = tt
  refusal_named coord_error.Fault grew = coordinator_named (grew refl)
  refusal_named coord_error.NoMemory grew = tt

  pub begun_named : (r : Result TxnId CoordError) → (r ≡ Err coord_error.Fault → rose 0) → IsNamed (begun_reply r)
  begun_named (Ok x) grew = tt
  begun_named (Err e) grew = refusal_named e (λ is. grew (ap (λ y. Err y) is))

  pub added_named : (r : Result (Unit {0}) CoordError) → (r ≡ Err coord_error.Fault → rose 0) → IsNamed (added_reply r)
  added_named (Ok u) grew = tt
  added_named (Err e) grew = refusal_named e (λ is. grew (ap (λ y. Err y) is))

  -- ---- A topic.

  pub why_named : (topic : List ℕ) (why : WhyNot) → IsNamed (reply.No (why_refusal topic why))
  why_named topic why_not.NotFound = tt
  why_named topic (why_not.NotOpen status) = tt
  why_named topic why_not.NotRegistered = tt

  pub published_named : (topic : List ℕ) (count : ℕ) (r : Result ℕ TopicError) → (r ≡ Err topic_error.Fault → RoseByName names rose topic) → IsNamed (publish_reply topic count r)
  published_named topic count (Ok place) grew = tt
  published_named topic count (Err (topic_error.Full n)) grew = tt
  published_named topic count (Err (topic_error.Damaged place)) grew = tt
  published_named topic count (Err topic_error.Fault) grew = grew refl
  published_named topic count (Err topic_error.NoMemory) grew = tt

  -- ---- An end.

  pub stuck_named : (d : Decision) (part : List ℕ) (told : Outcome) → told ≡ stuck_by d part → RoseByName names rose part → IfSome (stuck_name told.stuck) (RoseByName names rose)
  stuck_named d part told e h = subst (λ (o : Outcome). IfSome (stuck_name o.stuck) (RoseByName names rose)) (sym e) h

  -- over equal names, where more counts rose
  pub named_wider : (names' : List (List ℕ)) (rose' : ℕ → Type 0) → names ≡ names' → ((p : ℕ) → rose p → rose' p) → (o : Option (List ℕ)) → IfSome o (RoseByName names rose) → IfSome o (RoseByName names' rose')
  named_wider names' rose' same more None h = tt
  named_wider names' rose' same more (Some name) h = subst (λ (ns : List (List ℕ)). RoseByName ns rose' name) same (record { number = h.number; within = h.within; named = h.named; grew = more h.number h.grew })

-- A topic of this name.
module _ (v w : EngineView) (view : v ≡ w) (is : IsEngine v) (f g : ℕ) (fs gs : ℕ → ℕ) (topic : List ℕ) (p : ℕ) (known : part_of v.names topic ≡ Some p) (t : TopicView) (found : t ≡ get_or v.topics (p - 1) t) where
  here : Knows v topic p (p - 1)
  here = knows v is topic p known

  one : IsTopic v.limits (1 + (p - 1)) t
  one = is_topic_at v is (p - 1) t here.below (at_known v topic p (p - 1) here t found)

  pub topic_rose : Rose f g × Rose (fs t.content.key.part) (gs t.content.key.part) → (named : List ℕ) → named ≡ topic → RoseByName w.names (RoseFor f g fs gs) named
  topic_rose grew named same =
      subst (λ (x : EngineView). RoseByName x.names (RoseFor f g fs gs) named) view
      (record {
        number = p;
        within = within p (p - 1) (length v.topics) (length v.names) here.number here.below is.count;
        named = same ∙ sym here.named;
        grew = subst (RoseFor f g fs gs) (sym here.number) (rose_at t.content.key (1 + (p - 1)) f g fs gs one.key grew);
      })
    where
      within : (p j m n : ℕ) → p ≡ 1 + j → j < m → m ≡ n → p ≤ n
      within p j m n e h k = omega (arith, e, h, k)

-- The topic at an index.
pub index_rose : (v : EngineView) (is : IsEngine v) (rose : ℕ → Type 0) (at : ℕ) (part : List ℕ) → at < length v.names → part ≡ get_or v.names at [] → rose (1 + at) → RoseByName v.names rose part
index_rose v is rose at part within named grew = record { number = 1 + at; within = omega (arith, within); named = named ∙ sym (name_here v is at (omega (arith, within, is.count))); grew = grew }
