use Rattle.std.proofs.Common.{◌≡◌, Err, rules}
use Rattle.std.proofs.lemmas.Result.{err_from_is_err_and}
use Rattle.txn_base.specs.declared.part.MendError.TheVariants.{Damaged}
use Rattle.txn_replay.proofs.Fronts.{takes_none}
use Rattle.txn_replay.proofs.stages.replay_step.Goals as goal

pub returns-in_err-staged-clause-damaged : goal.returns-in_err-staged-clause-damaged
returns-in_err-staged-clause-damaged g c = λ place is.
    let p = err_from_is_err_and c.from_residual.result c.from_residual.ensures.1 in
    let q = c.in_err-staged.was in
    let told_so : c.stage.result ≡ Err (Damaged place) = cc (p.1, p.2, q) in
    let bad = c.stage.ensures.damaged place told_so in
    record { from_on = bad.from_on; before_end = search rules; first_bad = bad.first_bad }

pub returns-then-is_err-clause-taken : goal.returns-then-is_err-clause-taken
returns-then-is_err-clause-taken g c = takes_none g.S.Grammar _ _ _ _ _ (search rules) c.requires.ready.lawful
