use Rattle.std.specs.Ordering.{nat_cmp}
use Rattle.std.specs.BTreeMap.{get}
use Rattle.txn_holds.proofs.Fronts.{dropped_past, dropped_taken}
use Rattle.txn_holds.proofs.spans.ack_up_to.Goals as goal

pub returns-clause-past : goal.returns-clause-past
returns-clause-past c = dropped_past (get nat_cmp c.args.spans.now) (get nat_cmp c.drop_to.new.spans) c.args.place c.reach-last.result c.requires c.reach-last.ensures c.drop_to.ensures.gone c.drop_to.ensures.others

pub returns-clause-taken : goal.returns-clause-taken
returns-clause-taken c = dropped_taken (get nat_cmp c.args.spans.now) (get nat_cmp c.drop_to.new.spans) c.args.place c.reach-last.result c.requires c.reach-last.ensures c.drop_to.ensures.gone c.drop_to.ensures.others
