use Rattle.std.proofs.Common.{◌≡◌, true, sym, subst}
use Rattle.txn_model.specs.Words.{has}
use Rattle.txn_model.proofs.Lists.{at_append, at_followed}
use Rattle.txn_model.proofs.world_laws.lists_stand_apart.Goals as goal

pub returns-clause-topics : goal.returns-clause-topics
returns-clause-topics c = at_append

pub returns-clause-subs : goal.returns-clause-subs
returns-clause-subs c = at_append

pub returns-clause-kept_topics : goal.returns-clause-kept_topics
returns-clause-kept_topics c = λ w f stays q s h. at_followed stays f.topics w.topics q (subst (λ ps. has ps q ≡ true) (sym s.topics) h)

pub returns-clause-kept_subs : goal.returns-clause-kept_subs
returns-clause-kept_subs c = λ w f stays q s h. at_followed stays f.subs w.subs q (subst (λ ps. has ps q ≡ true) (sym s.subs) h)
