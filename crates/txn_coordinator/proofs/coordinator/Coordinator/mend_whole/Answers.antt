use Rattle.std.proofs.Common.{◌≡◌, ℕ, Err, take, sym, ap, subst, arith}
use Rattle.std.proofs.lemmas.Result.{err_from_is_err_and}
use Rattle.txn_base.specs.declared.part.MendError.TheVariants.{Damaged}
use Rattle.txn_base.specs.Decoded.{coord_entries}
use Rattle.txn_coordinator.specs.Mending.{record_in, AreReplayed, IsFirstBadRecord}
use Rattle.txn_coordinator.specs.View.{CoordView, IsFrontOf}
use Rattle.txn_coordinator.proofs.Replayed.{bad_entry, tied_settled, replayed_settled}
use Rattle.txn_coordinator.proofs.coordinator.Coordinator.mend_whole.Goals as goal

pub returns-in_err-replay_whole-clause-damaged : goal.returns-in_err-replay_whole-clause-damaged
returns-in_err-replay_whole-clause-damaged g c = λ place is.
    let p = err_from_is_err_and c.from_residual.result c.from_residual.ensures.1 in
    let q = c.in_err-replay_whole.was in
    let told_so : c.replay_whole.result ≡ Err (Damaged place) = cc (p.1, p.2, q) in
    let bad = c.replay_whole.ensures.damaged place told_so in
    record {
      from = omega (arith, bad.from_on, c.replay_whole.ensures.at);
      to = omega (arith, bad.before_end, c.replay_whole.ensures.at);
      within = omega (arith, bad.before_end);
    }

pub returns-in_err-replay_whole-clause-bad : goal.returns-in_err-replay_whole-clause-bad
returns-in_err-replay_whole-clause-bad g c = λ told was place is.
    let p = err_from_is_err_and c.from_residual.result c.from_residual.ensures.1 in
    let q = c.in_err-replay_whole.was in
    let told_so : c.replay_whole.result ≡ Err (Damaged place) = cc (p.1, p.2, q) in
    let here : AreReplayed c.self.inside.rebuilt.named (g.R.RecordLog.content c.settle_log.new.log) c.self.inside.rebuilt.table.front =
    replayed_settled (g.R.RecordLog.content c.self.inside.log) (g.R.RecordLog.content c.settle_log.new.log) c.self.inside.rebuilt.table.front c.self.invariant.within c.settle_log.ensures.content c.self.inside.rebuilt.named
    (subst (λ (v : CoordView). AreReplayed v.named v.content v.front) (sym c.self.view_is) was) in
    let log = g.R.RecordLog.content c.settle_log.new.log in
    let bad = (c.replay_whole.ensures.damaged place told_so).first_bad told (record { entries = here.entries; in_grammar = here.grammar }) in
    subst (λ (n : ℕ). IsFirstBadRecord n (g.R.RecordLog.content c.settle_log.new.log) place) (ap (λ (v : CoordView). v.named) c.self.view_is)
    (record { within = bad.within; grammar = bad.in_grammar; before = bad.before.lawful; bad = bad_entry c.self.inside.rebuilt.named (take place (coord_entries log.batches)) (record_in log place) bad.bad })

pub returns-in_err-replay_whole-clause-tied : goal.returns-in_err-replay_whole-clause-tied
returns-in_err-replay_whole-clause-tied g c = λ told was.
    c.replay_whole.ensures.taken.first told
    (tied_settled (g.R.RecordLog.content c.self.inside.log) (g.R.RecordLog.content c.settle_log.new.log) c.self.inside.rebuilt.table.front c.self.invariant.within c.settle_log.ensures.content (subst (λ (v : CoordView). IsFrontOf v) (sym c.self.view_is) was))

pub returns-in_err-replay_whole-clause-replayed : goal.returns-in_err-replay_whole-clause-replayed
returns-in_err-replay_whole-clause-replayed g c = λ told was.
    let here : AreReplayed c.self.inside.rebuilt.named (g.R.RecordLog.content c.settle_log.new.log) c.self.inside.rebuilt.table.front =
    replayed_settled (g.R.RecordLog.content c.self.inside.log) (g.R.RecordLog.content c.settle_log.new.log) c.self.inside.rebuilt.table.front c.self.invariant.within c.settle_log.ensures.content c.self.inside.rebuilt.named
    (subst (λ (v : CoordView). AreReplayed v.named v.content v.front) (sym c.self.view_is) was) in
    let now = c.replay_whole.ensures.taken.taken told (record { entries = here.entries; in_grammar = here.grammar }) in
    subst (λ (n : ℕ). AreReplayed n (g.R.RecordLog.content c.settle_log.new.log) c.replay_whole.new.state.table.front) (ap (λ (v : CoordView). v.named) c.self.view_is)
    (record { entries = now.entries; grammar = now.in_grammar; lawful = c.replay_whole.ensures.taken.lawful.lawful })

pub returns-clause-tied : goal.returns-clause-tied
returns-clause-tied g c = λ told was.
    c.replay_whole.ensures.taken.first told
    (tied_settled (g.R.RecordLog.content c.self.inside.log) (g.R.RecordLog.content c.settle_log.new.log) c.self.inside.rebuilt.table.front c.self.invariant.within c.settle_log.ensures.content (subst (λ (v : CoordView). IsFrontOf v) (sym c.self.view_is) was))

pub returns-clause-replayed : goal.returns-clause-replayed
returns-clause-replayed g c = λ told was.
    let here : AreReplayed c.self.inside.rebuilt.named (g.R.RecordLog.content c.settle_log.new.log) c.self.inside.rebuilt.table.front =
    replayed_settled (g.R.RecordLog.content c.self.inside.log) (g.R.RecordLog.content c.settle_log.new.log) c.self.inside.rebuilt.table.front c.self.invariant.within c.settle_log.ensures.content c.self.inside.rebuilt.named
    (subst (λ (v : CoordView). AreReplayed v.named v.content v.front) (sym c.self.view_is) was) in
    let now = c.replay_whole.ensures.taken.taken told (record { entries = here.entries; in_grammar = here.grammar }) in
    subst (λ (n : ℕ). AreReplayed n (g.R.RecordLog.content c.settle_log.new.log) c.replay_whole.new.state.table.front) (ap (λ (v : CoordView). v.named) c.self.view_is)
    (record { entries = now.entries; grammar = now.in_grammar; lawful = c.replay_whole.ensures.taken.lawful.lawful })
