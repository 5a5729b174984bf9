use Rattle.std.proofs.Common.{◌≡◌, ◌+◌, ◌<◌, ◌≤◌, ◌++◌, List, Err, length, take, drop, ap, sym, ◌∙◌, subst, arith, rules, refl, length-take}
use Rattle.std.proofs.lemmas.List.{take-append-drop, length-drop}
use Rattle.std.proofs.lemmas.Result.{err_from_is_err_and}
use Rattle.txn_base.specs.declared.entry.TopicEntry.{TopicEntry}
use Rattle.txn_base.specs.declared.part.MendError.TheVariants.{Damaged}
use Rattle.txn_base.specs.Frames.{records}
use Rattle.txn_buffer.specs.Mending.{step_of}
use Rattle.txn_buffer.specs.View.{TopicView, IsFrontOf}
use Rattle.txn_buffer.proofs.Tied.{tied_settled}
use Rattle.txn_buffer.proofs.topic.Topic.mend_step.Goals as goal

pub returns-in_err-replay_step-clause-damaged : goal.returns-in_err-replay_step-clause-damaged
returns-in_err-replay_step-clause-damaged g c = λ place is.
    let p = err_from_is_err_and c.from_residual.result c.from_residual.ensures.1 in
    let q = c.in_err-replay_step.was in
    let told_so : c.replay_step.result ≡ Err (Damaged place) = cc (p.1, p.2, q) in
    let bad = c.replay_step.ensures.damaged place told_so in
    let total = length (records (g.R.RecordLog.content c.settle_log.new.log).batches) in
    record {
      from = subst (λ (v : TopicView). length v.front ≤ place) c.self.view_is (omega (arith, bad.from_on, c.len-at.ensures.value));
      to = subst (λ (v : TopicView). place < length v.front + step_of v total) c.self.view_is (omega (arith, bad.from_on, bad.before_end, c.len-at.ensures.value));
    }

pub returns-in_err-replay_step-clause-first_bad : goal.returns-in_err-replay_step-clause-first_bad
returns-in_err-replay_step-clause-first_bad g c = λ place is told tied.
    let p = err_from_is_err_and c.from_residual.result c.from_residual.ensures.1 in
    let q = c.in_err-replay_step.was in
    let told_so : c.replay_step.result ≡ Err (Damaged place) = cc (p.1, p.2, q) in
    let was = tied_settled _ (g.R.RecordLog.content c.settle_log.new.log) c.self.invariant.within c.settle_log.ensures.content (subst (λ (v : TopicView). IsFrontOf v) (sym c.self.view_is) tied) in
    let bad = (c.replay_step.ensures.damaged place told_so).first_bad told (record { entries = was.0; in_grammar = was.1 }) in
    record { bad = bad.bad; lawful = bad.before; grammar = bad.in_grammar }

pub returns-in_err-replay_step-clause-tied : goal.returns-in_err-replay_step-clause-tied
returns-in_err-replay_step-clause-tied g c = λ told tied.
    let was = tied_settled _ (g.R.RecordLog.content c.settle_log.new.log) c.self.invariant.within c.settle_log.ensures.content (subst (λ (v : TopicView). IsFrontOf v) (sym c.self.view_is) tied) in
    let now = c.replay_step.ensures.taken.taken told (record { entries = was.0; in_grammar = was.1 }) in
    record { entries = now.entries; grammar = now.in_grammar }

pub returns-clause-ok : goal.returns-clause-ok
returns-clause-ok g c =
    let front = c.self.inside.front.entries in let after = c.replay_step.new.state.entries in let n = length front in
    let total = length (records (g.R.RecordLog.content c.settle_log.new.log).batches) in
    let before : front ≡ take n after = c.replay_step.ensures.taken.extends in
    record {
      settled_now = search rules;
      more = drop n after;
      front = subst (λ (v : TopicView). after ≡ v.front ++ drop n after) c.self.view_is (sym (ap (λ (l : List TopicEntry). l ++ drop n after) before ∙ take-append-drop n after));
      count = subst (λ (v : TopicView). length (drop n after) ≡ step_of v total) c.self.view_is
          (omega (arith, length-drop n after, ap length before, length-take n after, c.in_ok-replay_step.ensures.grown, c.replay_step.ensures.at, c.len-at.ensures.value));
      at = c.replay_step.ensures.at;
      total = c.len-total-2.ensures;
      whole = refl;
      part = ap (λ (v : TopicView). v.part) c.self.view_is;
      reserved = ap (λ (v : TopicView). v.reserved) c.self.view_is;
      limits = ap (λ (v : TopicView). v.limits) c.self.view_is;
    }

pub returns-clause-tied : goal.returns-clause-tied
returns-clause-tied g c = λ told tied.
    let was = tied_settled _ (g.R.RecordLog.content c.settle_log.new.log) c.self.invariant.within c.settle_log.ensures.content (subst (λ (v : TopicView). IsFrontOf v) (sym c.self.view_is) tied) in
    let now = c.replay_step.ensures.taken.taken told (record { entries = was.0; in_grammar = was.1 }) in
    record { entries = now.entries; grammar = now.in_grammar }
