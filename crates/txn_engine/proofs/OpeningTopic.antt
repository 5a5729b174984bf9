-- How a topic is rebuilt while it is opened.
use Rattle.std.proofs.Common.{◌≡◌, ◌<◌, ℕ, ◌≤◌, ◌+◌, ◌-◌, ◌==◌, min, if◌then◌else◌, List, length, All, IsTrue, refl, sym, ap, ◌∙◌, subst, arith, ⊎_elim, inr, Result, Err, length-append}
use Rattle.std.proofs.lemmas.Bool.Decides.{nat_tests}
use Rattle.std.proofs.lemmas.List.{take_all}
use Rattle.txn_base.specs.declared.file_id.FileId.{FileId}
use Rattle.txn_base.specs.declared.limits.Limits.{Limits}
use Rattle.txn_base.specs.declared.part.MendError.{MendError}
use Rattle.txn_base.specs.declared.part.MendError.TheVariants as mend
use Rattle.txn_base.specs.declared.part.Progress.{Progress}
use Rattle.txn_base.specs.Content.{LedgerContent, Standing, settled, IsInFlight}
use Rattle.txn_base.specs.Frames.{Stands, records}
use Rattle.txn_ledger.specs.declared.error.OpenError.{OpenError}
use Rattle.txn_ledger.specs.declared.error.OpenError.TheVariants as opening
use Rattle.txn_model.specs.Sound.{ledger_file}
use Rattle.txn_model.specs.Topic.{TopicLawful}
use Rattle.txn_buffer.specs.Mending.{MayHaveSettled, Mends, IsInStep, IsFirstBadRecord, step_of}
use Rattle.txn_buffer.specs.Record.{IsInGrammar}
use Rattle.txn_buffer.specs.View.{TopicView, topic_total, IsFrontOf}
use Rattle.txn_engine.specs.declared.opening.EngineError.{EngineError}
use Rattle.txn_engine.specs.declared.opening.EngineError.TheVariants as engine
use Rattle.txn_engine.specs.Kept.{IsTopic}
use Rattle.txn_engine.specs.Opening.{IsDamagedTopic, IsTopicOf}
use Rattle.txn_engine.specs.Unopened.{unopened, unmended}
use Rattle.txn_engine.proofs.Logged.{topic_front}

-- The topic is the part p under these limits, nothing is in flight, and its front is within its ledger: where it is whole,
-- all of it.
pub record IsOpeningTopic (limits : Limits) (p : ℕ) (v : TopicView) : Type 0 where
  pub key : v.content.key ≡ ledger_file p
  pub part_is : v.part ≡ p
  pub limits_are : v.limits ≡ limits
  pub settled_is : v.content.standing ≡ settled
  pub within : length v.front ≤ topic_total v
  pub all : IsTrue v.whole → length v.front ≡ topic_total v

-- Its front is what its ledger holds, and these bytes stand for that.
pub record IsToldTopic (bytes : List ℕ) (v : TopicView) : Type 0 where
  pub tied : IsFrontOf v
  pub stands : Stands bytes v.content.batches

-- The records that are not in the front, and a step that may find that there are none.
abbrev pub topic_steps_left : TopicView → ℕ
topic_steps_left v = (topic_total v - length v.front) + (if v.whole then 0 else 1)

-- ---- A step.

not_in_flight : (s : Standing) → s ≡ settled → IsInFlight s → ⊥
not_in_flight s is flight = subst IsInFlight is flight

pub same_topic_content : (limits : Limits) (p : ℕ) (v w : TopicView) → IsOpeningTopic limits p v → MayHaveSettled v.content w.content → w.content ≡ v.content
same_topic_content limits p v w is from = ⊎_elim (λ same. same) (λ flight. absurd (not_in_flight v.content.standing is.settled_is flight.0)) from

module _ (limits : Limits) (p : ℕ) (v w : TopicView) (told : Progress) (is : IsOpeningTopic limits p v) (from : MayHaveSettled v.content w.content) (step : Mends v w told) where
  same : w.content ≡ v.content
  same = same_topic_content limits p v w is from

  total : topic_total w ≡ topic_total v
  total = ap (λ (k : LedgerContent). length (records k.batches)) same

  pub long : length w.front ≡ length v.front + min v.limits.step (topic_total v - length v.front)
  long = ap length step.front ∙ length-append v.front step.more ∙ ap (λ n. length v.front + n) (step.count ∙ ap (step_of v) total)

  whole_is : w.whole ≡ (length w.front == topic_total w)
  whole_is = step.whole ∙ ap (λ n. n == told.total) step.at ∙ ap (λ n. length w.front == n) step.total

  pub opening_step : IsOpeningTopic limits p w
  opening_step = record {
    key = ap (λ (k : LedgerContent). k.key) same ∙ is.key;
    part_is = step.part ∙ is.part_is;
    limits_are = step.limits ∙ is.limits_are;
    settled_is = step.settled_now;
    within = omega (arith, total, long, is.within);
    all = λ whole. grind (arith, nat_tests, whole, whole_is);
  }

  pub told_step : (bytes : List ℕ) → IsToldTopic bytes v → IsFrontOf w → IsToldTopic bytes w
  told_step bytes was tied = record { tied = tied; stands = subst (λ (k : LedgerContent). Stands bytes k.batches) (sym same) was.stands }

-- ---- All of it.

pub opened_topic : (limits : Limits) (p : ℕ) (v : TopicView) → IsOpeningTopic limits p v → IsTopic limits p v
opened_topic limits p v is = record { key = is.key; part_is = is.part_is; limits_are = is.limits_are; settled_is = λ whole. is.settled_is; all = is.all }

pub opening_is_topic : (limits : Limits) (p : ℕ) (v : TopicView) (bytes : List ℕ) → IsOpeningTopic limits p v → IsTrue v.whole → TopicLawful v.front → IsToldTopic bytes v → IsTopicOf v bytes
opening_is_topic limits p v bytes is whole lawful told = record {
  tied = told.tied;
  stands = told.stands;
  grammar = subst (All IsInGrammar) (take_all (length v.front) (records v.content.batches) (omega (arith, is.all whole))) told.tied.grammar;
  lawful = subst TopicLawful (sym (topic_front limits p v (opened_topic limits p v is) whole told.tied)) lawful;
}

-- ---- Damage.

in_list : (front step total place : ℕ) → front ≤ total → place < front + min step (total - front) → place < total
in_list front step total place within to = grind (arith, within, to)

module _ (limits : Limits) (p : ℕ) (v w : TopicView) (is : IsOpeningTopic limits p v) (from : MayHaveSettled v.content w.content) (bytes : List ℕ) (told : IsToldTopic bytes v) where
  pub damaged_topic : (place : ℕ) → IsInStep v (topic_total w) place → IsFirstBadRecord w.content.batches place → IsDamagedTopic bytes place
  damaged_topic place step bad =
      let same : w.content ≡ v.content = same_topic_content limits p v w is from in
      inr (
        v.content.batches,
        told.stands,
        in_list (length v.front) v.limits.step (topic_total v) place is.within (subst (λ (k : LedgerContent). place < length v.front + step_of v (length (records k.batches))) same step.to),
        subst (λ (k : LedgerContent). IsFirstBadRecord k.batches place) same bad,
      )

-- ---- Errors.

module _ {T : Type 0} (at file : FileId) (entry : ℕ) where
  pub unopened_file : (e : OpenError) → ◌≡◌ {A = Result T EngineError} (Err (unopened at e)) (Err (engine.Damaged file entry)) → (file ≡ at) × (e ≡ opening.Damaged entry)
  unopened_file (opening.Damaged n) h = (cc, cc)
  unopened_file opening.Fault h = absurd (cc)
  unopened_file opening.NoMemory h = absurd (cc)

  pub unmended_file : (e : MendError) → ◌≡◌ {A = Result T EngineError} (Err (unmended at e)) (Err (engine.Damaged file entry)) → (file ≡ at) × (e ≡ mend.Damaged entry)
  unmended_file (mend.Damaged n) h = (cc, cc)
  unmended_file mend.Fault h = absurd (cc)
  unmended_file mend.NoMemory h = absurd (cc)

module _ {T : Type 0} (at : FileId) where
  pub unopened_fault : (e : OpenError) → ◌≡◌ {A = Result T EngineError} (Err (unopened at e)) (Err engine.Fault) → e ≡ opening.Fault
  unopened_fault (opening.Damaged n) h = absurd (cc)
  unopened_fault opening.Fault h = refl
  unopened_fault opening.NoMemory h = absurd (cc)

  pub unmended_fault : (e : MendError) → ◌≡◌ {A = Result T EngineError} (Err (unmended at e)) (Err engine.Fault) → e ≡ mend.Fault
  unmended_fault (mend.Damaged n) h = absurd (cc)
  unmended_fault mend.Fault h = refl
  unmended_fault mend.NoMemory h = absurd (cc)
