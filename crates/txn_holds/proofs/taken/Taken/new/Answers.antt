use Rattle.std.proofs.Common.{ap}
use Rattle.std.specs.Ordering.{nat_cmp}
use Rattle.std.specs.BTreeMap.{get, is_at}
use Rattle.std.specs.Map.{lookup}
use Rattle.txn_holds.proofs.Marks.{none_taken}
use Rattle.txn_holds.proofs.taken.Taken.new.Goals as goal

pub returns : goal.returns
returns c = none_taken (get nat_cmp c.new.result) (λ q. ap (λ l. lookup (is_at (nat_cmp q)) l) c.new.ensures.empty)
