use Rattle.txn_model.proofs.Grows.{extends_same, extends_both, batch_grows, kept_grows, named_grows}
use Rattle.txn_model.proofs.world_laws.worlds_grow.Goals as goal

pub returns-clause-same : goal.returns-clause-same
returns-clause-same c = extends_same

pub returns-clause-both : goal.returns-clause-both
returns-clause-both c = extends_both

pub returns-clause-batch : goal.returns-clause-batch
returns-clause-batch c = batch_grows

pub returns-clause-kept : goal.returns-clause-kept
returns-clause-kept c = kept_grows

pub returns-clause-named : goal.returns-clause-named
returns-clause-named c = named_grows
