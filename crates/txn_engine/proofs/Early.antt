-- The rows that look at a request and the names alone.
use Rattle.std.proofs.Common.{◌≡◌, ◌⊎◌, inl, inr, ℕ, false, List, Option, Some, None, refl, sym, ap, ◌∙◌, subst}
use Rattle.txn_base.specs.Names.{is_sub}
use Rattle.txn_base.specs.declared.request.Request.{Request}
use Rattle.txn_base.specs.declared.request.Request.TheVariants as request
use Rattle.txn_base.specs.declared.txn.TxnId.{TxnId}
use Rattle.txn_base.specs.declared.reply.Reply.{Reply}
use Rattle.txn_base.specs.declared.reply.Reply.TheVariants as reply
use Rattle.txn_base.specs.declared.reply.Refusal.{Refusal}
use Rattle.txn_base.specs.declared.reply.Refusal.TheVariants as no
use Rattle.txn_model.specs.EarlyRows.{early_refusal}
use Rattle.txn_model.specs.Names.{part_of}
use Rattle.txn_engine.specs.Causes.{TellsEarly}
use Rattle.txn_engine.specs.Kept.{IsEngine}
use Rattle.txn_engine.specs.Table.{world_of}
use Rattle.txn_engine.specs.Told.{IsAsked}
use Rattle.txn_engine.specs.View.{EngineView}
use Rattle.txn_engine.proofs.TopicNames.{not_sub}
use Rattle.txn_engine.proofs.TopicRows.{knows}

module _ (v w : EngineView) (view : v ≡ w) (r : Request) (told : Reply) where
  at_view : TellsEarly v.limits (world_of v) r told → TellsEarly w.limits (world_of w) r told
  at_view h = subst (λ (x : EngineView). TellsEarly x.limits (world_of x) r told) view h

  -- none comes
  pub no_row : early_refusal v.limits (world_of v) r ≡ None → TellsEarly w.limits (world_of w) r told
  no_row none = at_view (λ row is. absurd (never (sym none ∙ is)))
    where
      never : {row : Refusal} → None ≡ Some row → ⊥
      never e = cc

  -- one comes
  pub its_row : (first : Refusal) → early_refusal v.limits (world_of v) r ≡ Some first → (told ≡ reply.No first) ⊎ (told ≡ reply.No no.NoMemory) → TellsEarly w.limits (world_of w) r told
  its_row first comes (inl e) = at_view (λ row is. inl (e ∙ ap (λ (x : Refusal). reply.No x) (same (sym comes ∙ is))))
    where
      same : {a b : Refusal} → Some a ≡ Some b → a ≡ b
      same e = cc
  its_row first comes (inr e) = λ row is. inr e

  pub no_memory : told ≡ reply.No no.NoMemory → TellsEarly w.limits (world_of w) r told
  no_memory e = λ row is. inr e

-- a topic is no subscription
pub topic_kind : (v : EngineView) → IsEngine v → (topic : List ℕ) (p : ℕ) → part_of v.names topic ≡ Some p → is_sub topic ≡ false
topic_kind v is topic p known = not_sub topic (knows v is topic p known).form

-- no request of another form is asked
pub none_other : (r : Request) → IsAsked r → ((timeout : ℕ) → r ≡ request.New timeout → ⊥) → ((x : TxnId) (part : List ℕ) → r ≡ request.Add x part → ⊥)
    → ((topic : List ℕ) (who : Option TxnId) (bodies : List (List ℕ)) → r ≡ request.Publish topic who bodies → ⊥) → ((topic : List ℕ) (first max : ℕ) → r ≡ request.Read topic first max → ⊥)
    → ((x : TxnId) → r ≡ request.Commit x → ⊥) → ((x : TxnId) → r ≡ request.Abort x → ⊥) → ((x : TxnId) → r ≡ request.Status x → ⊥) → ⊥
none_other (request.New timeout) asked new add publish read commit abort status = new timeout refl
none_other (request.Add x part) asked new add publish read commit abort status = add x part refl
none_other (request.Publish topic who bodies) asked new add publish read commit abort status = publish topic who bodies refl
none_other (request.Read topic first max) asked new add publish read commit abort status = read topic first max refl
none_other (request.Commit x) asked new add publish read commit abort status = commit x refl
none_other (request.Abort x) asked new add publish read commit abort status = abort x refl
none_other (request.Status x) asked new add publish read commit abort status = status x refl
none_other (request.Ack sub x places) asked new add publish read commit abort status = asked
none_other (request.AckUpTo sub x place) asked new add publish read commit abort status = asked
none_other (request.Receive sub max) asked new add publish read commit abort status = asked
none_other (request.Redeliver sub) asked new add publish read commit abort status = asked
none_other request.Tick asked new add publish read commit abort status = asked
none_other request.Stop asked new add publish read commit abort status = asked
