use Rattle.std.proofs.Common.{◌≡◌, ◌++◌, List, Err, length, drop, ap, sym, ◌∙◌, subst, arith, rules}
use Rattle.std.proofs.lemmas.List.{take-append-drop}
use Rattle.std.proofs.lemmas.Result.{err_from_is_err_and}
use Rattle.txn_base.specs.declared.entry.TopicEntry.{TopicEntry}
use Rattle.txn_base.specs.declared.part.MendError.TheVariants.{Damaged}
use Rattle.txn_base.specs.Frames.{records}
use Rattle.txn_buffer.specs.View.{TopicView, IsFrontOf}
use Rattle.txn_buffer.proofs.Tied.{tied_settled}
use Rattle.txn_buffer.proofs.topic.Topic.mend_whole.Goals as goal

pub returns-in_err-replay_whole-clause-damaged : goal.returns-in_err-replay_whole-clause-damaged
returns-in_err-replay_whole-clause-damaged g c = λ place is.
    let p = err_from_is_err_and c.from_residual.result c.from_residual.ensures.1 in
    let q = c.in_err-replay_whole.was in
    let told_so : c.replay_whole.result ≡ Err (Damaged place) = cc (p.1, p.2, q) in
    let bad = c.replay_whole.ensures.damaged place told_so in
    let total = length (records (g.R.RecordLog.content c.settle_log.new.log).batches) in
    record {
      from = omega (arith, bad.from_on, c.replay_whole.ensures.at);
      to = omega (arith, bad.from_on, bad.before_end, c.replay_whole.ensures.at);
    }

pub returns-in_err-replay_whole-clause-first_bad : goal.returns-in_err-replay_whole-clause-first_bad
returns-in_err-replay_whole-clause-first_bad g c = λ place is told tied.
    let p = err_from_is_err_and c.from_residual.result c.from_residual.ensures.1 in
    let q = c.in_err-replay_whole.was in
    let told_so : c.replay_whole.result ≡ Err (Damaged place) = cc (p.1, p.2, q) in
    let was = tied_settled _ (g.R.RecordLog.content c.settle_log.new.log) c.self.invariant.within c.settle_log.ensures.content (subst (λ (v : TopicView). IsFrontOf v) (sym c.self.view_is) tied) in
    let bad = (c.replay_whole.ensures.damaged place told_so).first_bad told (record { entries = was.0; in_grammar = was.1 }) in
    record { bad = bad.bad; lawful = bad.before; grammar = bad.in_grammar }

pub returns-in_err-replay_whole-clause-tied : goal.returns-in_err-replay_whole-clause-tied
returns-in_err-replay_whole-clause-tied g c = λ told tied.
    let was = tied_settled _ (g.R.RecordLog.content c.settle_log.new.log) c.self.invariant.within c.settle_log.ensures.content (subst (λ (v : TopicView). IsFrontOf v) (sym c.self.view_is) tied) in
    let now = c.replay_whole.ensures.taken.taken told (record { entries = was.0; in_grammar = was.1 }) in
    record { entries = now.entries; grammar = now.in_grammar }

pub returns-clause-ok : goal.returns-clause-ok
returns-clause-ok g c =
    let after = c.replay_whole.new.state.entries in let n = length c.self.inside.front.entries in
    record {
      settled_now = search rules;
      more = drop n after;
      front = subst (λ (v : TopicView). after ≡ v.front ++ drop n after) c.self.view_is (sym (ap (λ (l : List TopicEntry). l ++ drop n after) c.replay_whole.ensures.taken.extends ∙ take-append-drop n after));
      all = search rules;
      whole = search rules;
      part = ap (λ (v : TopicView). v.part) c.self.view_is;
      reserved = ap (λ (v : TopicView). v.reserved) c.self.view_is;
      limits = ap (λ (v : TopicView). v.limits) c.self.view_is;
    }

pub returns-clause-tied : goal.returns-clause-tied
returns-clause-tied g c = λ told tied.
    let was = tied_settled _ (g.R.RecordLog.content c.settle_log.new.log) c.self.invariant.within c.settle_log.ensures.content (subst (λ (v : TopicView). IsFrontOf v) (sym c.self.view_is) tied) in
    let now = c.replay_whole.ensures.taken.taken told (record { entries = was.0; in_grammar = was.1 }) in
    record { entries = now.entries; grammar = now.in_grammar }
