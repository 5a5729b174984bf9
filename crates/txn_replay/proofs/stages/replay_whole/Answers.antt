use Rattle.std.proofs.Common.{◌≡◌, ℕ, Err, subst, rules}
use Rattle.std.proofs.lemmas.Result.{err_from_is_err_and}
use Rattle.txn_base.specs.declared.part.MendError.TheVariants.{Damaged}
use Rattle.txn_replay.specs.Fronts.{FirstBadRecord}
use Rattle.txn_replay.proofs.stages.replay_whole.Goals as goal

pub returns-in_err-replay_step-clause-damaged : goal.returns-in_err-replay_step-clause-damaged
returns-in_err-replay_step-clause-damaged g c = λ place is.
    let p = err_from_is_err_and c.from_residual.result c.from_residual.ensures.1 in
    let q = c.in_err-replay_step.was in
    let told_so : c.replay_step.result ≡ Err (Damaged place) = cc (p.1, p.2, q) in
    let bad = c.replay_step.ensures.damaged place told_so in
    record {
      from_on = search rules;
      before_end = search rules;
      first_bad = λ told was.
          subst (λ (rule : ℕ). FirstBadRecord g.S.Grammar rule (g.R.RecordLog.content c.args.log.now).batches place) c.loop-at.invariant.rule
          (bad.first_bad told (c.loop-at.invariant.taken.taken told was));
    }
